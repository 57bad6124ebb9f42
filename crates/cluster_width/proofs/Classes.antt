-- Classes of characters, by the properties that widths and cluster boundaries depend on. `examples` has one character
-- of each class.
use Rattle.std.proofs.Common.{◌<◌, ◌*◌, ◌≤◌, ◌+◌, ◌≡◌, ◌⊎◌, inl, inr, ⊎_elim, ℕ, suc, Bool, true, false, ◌&&◌, ◌||◌, ◌==◌, nat_le, List, [], ◌∷◌, refl, sym, ap, ◌∙◌, arith}
use Rattle.std.specs.Int.{is_in_range}
use Rattle.std.specs.List.{list_all, list_any}
use Rattle.std.proofs.lemmas.Bool.{and_parts, or_cases, eqb-true}
use Rattle.std.proofs.lemmas.Bool.Decides.{nat_tests}
use Rattle.ucd_table.specs.Steps.{step_value}
use Rattle.ucd_table.proofs.Facts.{Stepped-everywhere, ends_by}
use Rattle.ucd_table.proofs.Stepped.{Stepped, map_stepped, zip_stepped}
use Rattle.ucd_table.proofs.StepsLemmas.{step_value-nil}
use Rattle.ucd_bidi.specs.JoiningType.{joining_type, joining_type_eq}
use Rattle.ucd_bidi.specs.declared.JoiningType.TheVariants.{Transparent}
use Rattle.ucd_bidi.specs.JoiningGroup.{joining_group, joining_group_eq}
use Rattle.ucd_bidi.specs.declared.JoiningGroup.TheVariants.{Lam}
use Rattle.ucd_bidi.proofs.JoiningGroupLemmas.{joining_group_stepped}
use Rattle.ucd_bidi.proofs.JoiningTypeLemmas.{joining_type_stepped}
use Rattle.ucd_breaks.specs.GraphemeClusterBreak.{grapheme_cluster_break, grapheme_cluster_break_number}
use Rattle.ucd_breaks.proofs.GraphemeClusterBreakLemmas.{grapheme_cluster_break_number_stepped, grapheme_cluster_break_number-lt, grapheme_cluster_break_number_injective}
use Rattle.ucd_derived.specs.IndicConjunctBreak.{indic_conjunct_break}
use Rattle.ucd_derived.specs.declared.IndicConjunctBreak.{IndicConjunctBreak}
use Rattle.ucd_derived.specs.declared.IndicConjunctBreak.TheVariants as InCb
use Rattle.ucd_derived.proofs.IndicConjunctBreakLemmas.{indic_conjunct_break_stepped}
use Rattle.ucd_emoji.specs.Binary.{is_emoji_modifier_base, is_emoji_variation_base, is_extended_pictographic}
use Rattle.ucd_emoji.proofs.BinaryLemmas.{is_emoji_modifier_base_stepped, is_emoji_variation_base_stepped, is_extended_pictographic_stepped}
use Rattle.unicode_segmentation.specs.Grapheme.{is_consonant, is_zwj}
use Rattle.unicode_segmentation.proofs.Computing.{unicode_segmentation}
use Rattle.unicode_width.specs.declared.kind.Kind.{Kind}
use Rattle.unicode_width.specs.declared.kind.Kind.TheVariants as kinds
use Rattle.unicode_width.specs.Kind.{is_ligature_transparent, is_text_presentation_base, kind, kind_from_number, number_of_kind}
use Rattle.unicode_width.specs.Width.{is_lam}
use Rattle.unicode_width.proofs.Computing.{unicode_width}
use Rattle.unicode_width.proofs.KindLemmas.{is_ligature_transparent_stepped, is_text_presentation_base_stepped, kind_stepped}

-- a consonant may be joined to this character, if others come before it
abbrev pub may_link : IndicConjunctBreak → Bool
may_link InCb.Linker = true
may_link InCb.Extend = true
may_link _ = false

-- rule GB9c or GB11 may join the two, d before c
abbrev pub are_linkable : ℕ → ℕ → Bool
are_linkable d c =
    (may_link (indic_conjunct_break d) && is_consonant (indic_conjunct_break c)) || (is_zwj (grapheme_cluster_break d) && is_extended_pictographic c)

-- ---- tests of a character, and the steps of each

pub at_least : (n c : ℕ) → nat_le n c ≡ step_value true ((n, false) ∷ []) c
unfolding step_value
at_least n c = grind (arith, nat_tests)

pub at_most : (n c : ℕ) → nat_le c n ≡ step_value false ((suc n, true) ∷ []) c
unfolding step_value
at_most n c = grind (arith, nat_tests)

pub is_one : (n c : ℕ) → (c == n) ≡ is_in_range n n c
is_one n c = grind (arith, nat_tests)

-- the steps of a bound, of a range and of one character
abbrev up_to : (n : ℕ) → Stepped (λ c. nat_le c n)
up_to n = record { default = false; steps = (suc n, true) ∷ []; gives = at_most n }

abbrev within : (a z : ℕ) → Stepped (is_in_range a z)
within a z = zip_stepped ◌&&◌ (nat_le a) (λ c. nat_le c z) (record { default = true; steps = (a, false) ∷ []; gives = at_least a }) (up_to z)

abbrev one : (n : ℕ) → Stepped (λ c. c == n)
one n = let s = within n n in record { default = s.default; steps = s.steps; gives = λ c. is_one n c ∙ s.gives c }

-- the steps of one more test
infixr 5 ◌and◌
abbrev ◌and◌ : {p : ℕ → Bool} {f : ℕ → List Bool} → Stepped p → Stepped f → Stepped (λ c. p c ∷ f c)
◌and◌ {p} {f} s t = zip_stepped (λ b bs. b ∷ bs) p f s t

-- the steps of no test
abbrev nothing : Stepped {V = List Bool} (λ c. [])
nothing = record { default = []; steps = []; gives = λ c. sym (step_value-nil [] c) }

-- the results of all tests: the named characters and ranges, and the properties
abbrev pub answers : ℕ → List Bool
answers c =
    (c == 0x000A) ∷ (c == 0x000D) ∷ (c == 0x05D0) ∷ (c == 0x05DC) ∷ (c == 0x17D2) ∷ (c == 0x17D8) ∷ (c == 0x1A10) ∷ (c == 0x1A15) ∷ (c == 0x1A17)
    ∷ (c == 0x200D) ∷ (c == 0x20E3) ∷ (c == 0x2D6F) ∷ (c == 0x2D7F) ∷ (c == 0xFB3C) ∷ (c == 0xFE01) ∷ (c == 0xFE0E) ∷ (c == 0xFE0F) ∷ (c == 0x10C03)
    ∷ (c == 0x10C32) ∷ (c == 0x16D63) ∷ (c == 0x16D67) ∷ (c == 0x16D68) ∷ (c == 0x16D69) ∷ (c == 0x1F3F4) ∷ (c == 0xE007F) ∷ nat_le c 0xA0
    ∷ is_in_range 0x2018 0x2019 c ∷ is_in_range 0x201C 0x201D c ∷ is_in_range 0x2D31 0x2D65 c ∷ is_in_range 0xA4F8 0xA4FB c
    ∷ is_in_range 0x1F1E6 0x1F1FF c ∷ is_in_range 0x1F3FB 0x1F3FF c ∷ is_in_range 0xE0030 0xE0039 c ∷ is_in_range 0xE0061 0xE007A c
    ∷ is_emoji_variation_base c ∷ is_emoji_modifier_base c ∷ is_text_presentation_base c ∷ is_extended_pictographic c ∷ is_ligature_transparent c
    ∷ is_lam c ∷ joining_type_eq (joining_type c) Transparent ∷ is_consonant (indic_conjunct_break c) ∷ may_link (indic_conjunct_break c) ∷ []

-- the steps of all tests, in the same order
unfoldable answers_stepped : Stepped answers
answers_stepped =
    one 0x000A and one 0x000D and one 0x05D0 and one 0x05DC and one 0x17D2 and one 0x17D8 and one 0x1A10 and one 0x1A15 and one 0x1A17
    and one 0x200D and one 0x20E3 and one 0x2D6F and one 0x2D7F and one 0xFB3C and one 0xFE01 and one 0xFE0E and one 0xFE0F and one 0x10C03
    and one 0x10C32 and one 0x16D63 and one 0x16D67 and one 0x16D68 and one 0x16D69 and one 0x1F3F4 and one 0xE007F and up_to 0xA0
    and within 0x2018 0x2019 and within 0x201C 0x201D and within 0x2D31 0x2D65 and within 0xA4F8 0xA4FB
    and within 0x1F1E6 0x1F1FF and within 0x1F3FB 0x1F3FF and within 0xE0030 0xE0039 and within 0xE0061 0xE007A
    and is_emoji_variation_base_stepped and is_emoji_modifier_base_stepped and is_text_presentation_base_stepped and is_extended_pictographic_stepped
    and is_ligature_transparent_stepped and map_stepped (λ g. joining_group_eq g Lam) joining_group joining_group_stepped
    and map_stepped (λ t. joining_type_eq t Transparent) joining_type joining_type_stepped
    and map_stepped is_consonant indic_conjunct_break indic_conjunct_break_stepped
    and map_stepped may_link indic_conjunct_break indic_conjunct_break_stepped and nothing

-- the results as one number
abbrev number : List Bool → ℕ
number [] = 1
number (true ∷ bs) = suc (2 * number bs)
number (false ∷ bs) = 2 * number bs

number-some : (bs : List Bool) → 1 ≤ number bs
number-some [] = omega arith
number-some (true ∷ bs) = omega arith
number-some (false ∷ bs) = omega (arith, number-some bs)

number-injective : (xs ys : List Bool) → number xs ≡ number ys → xs ≡ ys
number-injective [] [] e = refl
number-injective [] (true ∷ ys) e = absurd (omega (arith, number-some ys))
number-injective [] (false ∷ ys) e = absurd (omega arith)
number-injective (true ∷ xs) [] e = absurd (omega (arith, number-some xs))
number-injective (false ∷ xs) [] e = absurd (omega arith)
number-injective (true ∷ xs) (true ∷ ys) e = ap (λ bs. true ∷ bs) (number-injective xs ys (omega arith))
number-injective (false ∷ xs) (false ∷ ys) e = ap (λ bs. false ∷ bs) (number-injective xs ys (omega arith))
number-injective (true ∷ xs) (false ∷ ys) e = absurd (omega arith)
number-injective (false ∷ xs) (true ∷ ys) e = absurd (omega arith)

-- the results for a character as one number
unfoldable code : ℕ → ℕ
code c = number_of_kind (kind c) + 12 * (grapheme_cluster_break_number (grapheme_cluster_break c) + 14 * number (answers c))

-- the steps of this number
unfoldable code_stepped : Stepped code
unfolding code answers_stepped
code_stepped =
    zip_stepped (λ k n. k + 12 * n) (λ c. number_of_kind (kind c)) (λ c. grapheme_cluster_break_number (grapheme_cluster_break c) + 14 * number (answers c))
    (map_stepped number_of_kind kind kind_stepped)
    (zip_stepped (λ b bs. b + 14 * number bs) (λ c. grapheme_cluster_break_number (grapheme_cluster_break c)) answers grapheme_cluster_break_number_stepped answers_stepped)

-- ---- the classes

-- a character of each class
unfoldable pub examples : List ℕ
examples =
    0x0000 ∷ 0x000A ∷ 0x000D ∷ 0x0020 ∷ 0x0023 ∷ 0x00A1 ∷ 0x00A2 ∷ 0x00A9 ∷ 0x00AD ∷ 0x00AE ∷ 0x0300 ∷ 0x0338 ∷ 0x034F ∷ 0x05D0 ∷ 0x05DC ∷ 0x0600
    ∷ 0x0605 ∷ 0x0622 ∷ 0x0644 ∷ 0x070F ∷ 0x0903 ∷ 0x0915 ∷ 0x09BE ∷ 0x1100 ∷ 0x1160 ∷ 0x11A8 ∷ 0x1780 ∷ 0x17A4 ∷ 0x17D2 ∷ 0x17D8 ∷ 0x180E ∷ 0x1A10
    ∷ 0x1A15 ∷ 0x1A17 ∷ 0x1CF5 ∷ 0x200C ∷ 0x200D ∷ 0x2018 ∷ 0x201C ∷ 0x2028 ∷ 0x20E3 ∷ 0x231A ∷ 0x2329 ∷ 0x261D ∷ 0x26F9 ∷ 0x270A ∷ 0x2D31 ∷ 0x2D6F
    ∷ 0x2D7F ∷ 0x3030 ∷ 0x3164 ∷ 0xA4F8 ∷ 0xA4FC ∷ 0xAC00 ∷ 0xAC01 ∷ 0xFB3C ∷ 0xFE00 ∷ 0xFE01 ∷ 0xFE0E ∷ 0xFE0F ∷ 0xFF9E ∷ 0xFFF9 ∷ 0x10C03 ∷ 0x10C32
    ∷ 0x16D63 ∷ 0x16D67 ∷ 0x16D68 ∷ 0x16D69 ∷ 0x16D6A ∷ 0x1E94B ∷ 0x1F02C ∷ 0x1F0CF ∷ 0x1F1E6 ∷ 0x1F21A ∷ 0x1F385 ∷ 0x1F3F4 ∷ 0x1F3FB ∷ 0xE0030
    ∷ 0xE0061 ∷ 0xE007F ∷ []

-- each character has the number of an example; computed over all of Unicode
has_example : (c : ℕ) → list_any (λ d. code c == code d) examples ≡ true
unfolding unicode_segmentation unicode_width examples code code_stepped ends_by
has_example = Stepped-everywhere (λ c. list_any (λ d. code c == code d) examples) (map_stepped (λ n. list_any (λ d. n == code d) examples) code code_stepped) refl

-- the two lists are the same, element by element
abbrev pub Same : List Bool → List Bool → Type 0
Same (a ∷ xs) (b ∷ ys) = (a ≡ b) × Same xs ys
Same _ _ = Unit {0}

same : (xs ys : List Bool) → xs ≡ ys → Same xs ys
same [] ys e = tt
same (a ∷ xs) [] e = tt
same (a ∷ xs) (b ∷ ys) e = (cc e, same xs ys (cc e))

-- the two characters are of one class
pub record IsLike (c d : ℕ) : Type 0 where
  pub kind : kind c ≡ kind d
  pub breaks : grapheme_cluster_break c ≡ grapheme_cluster_break d
  pub answers : Same (answers c) (answers d)

kind_bound : (k : Kind) → number_of_kind k < 12
kind_bound kinds.Zero = omega arith
kind_bound _ = omega arith

kind_back : (k : Kind) → kind_from_number (number_of_kind k) ≡ k
kind_back kinds.Zero = refl
kind_back _ = refl

-- characters with one number are of one class
like : (c d : ℕ) → code c ≡ code d → IsLike c d
unfolding code
like c d e =
    let one = kind_bound (kind c) in
    let two = kind_bound (kind d) in
    let three = grapheme_cluster_break_number-lt (grapheme_cluster_break c) in
    let four = grapheme_cluster_break_number-lt (grapheme_cluster_break d) in
    let j : number_of_kind (kind c) ≡ number_of_kind (kind d) = omega arith in
    record {
      kind = sym (kind_back (kind c)) ∙ ap kind_from_number j ∙ kind_back (kind d);
      breaks = grapheme_cluster_break_number_injective _ _ (omega arith);
      answers = same _ _ (number-injective (answers c) (answers d) (omega arith));
    }

-- ---- members of lists

-- x is a member of the list
abbrev pub IsIn : {X : Type 0} → List X → X → Type 0
IsIn [] x = ⊥
IsIn (y ∷ ys) x = (x ≡ y) ⊎ IsIn ys x

pub found : {X : Type 0} (p : X → Bool) (xs : List X) → list_any p xs ≡ true → (x : X) × IsIn xs x × (p x ≡ true)
found p [] h = absurd (cc h)
found p (x ∷ xs) h = ⊎_elim (λ here. (x, inl refl, here)) (λ later. let it = found p xs later in (it.0, inr it.1, it.2)) (or_cases (p x) (list_any p xs) h)

pub each : {X : Type 0} (p : X → Bool) (xs : List X) → list_all p xs ≡ true → (x : X) → IsIn xs x → p x ≡ true
each p [] h x none = absurd none
each p (y ∷ ys) h x (inl same) = ap p same ∙ (and_parts (p y) (list_all p ys) h).0
each p (y ∷ ys) h x (inr later) = each p ys (and_parts (p y) (list_all p ys) h).1 x later

-- each character is of the class of an example
pub example_of : (c : ℕ) → (d : ℕ) × IsIn examples d × IsLike c d
example_of c = let it = found (λ d. code c == code d) examples (has_example c) in (it.0, it.1, like c it.0 (eqb-true _ _ it.2))
