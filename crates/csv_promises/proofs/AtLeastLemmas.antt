-- A text without U+FE0E is at least as wide as each of its characters alone that is wider than one terminal column.
use Rattle.std.proofs.Common.{◌≡◌, ◌≤◌, ℕ, ◌+◌, Bool, true, false, not, ◌&&◌, ◌||◌, ◌==◌, nat_le, List, [], ◌∷◌, length, max, slice_index_or, zero, suc, ◌<◌, inl, inr, refl, sym, ap, ◌∙◌, subst, arith}
use Rattle.std.specs.Prelude.{if◌then◌else◌, chars, encode_utf8, IsUtf8}
use Rattle.std.specs.Str.{all_scalars}
use Rattle.std.specs.List.{list_all}
use Rattle.std.proofs.lemmas.Bool.Decides.{nat_tests}
use Rattle.std.proofs.Math.Utf8.{scalar}
use Rattle.std.proofs.lemmas.Str.{scalars-chars}
use Rattle.std.proofs.lemmas.Bool.{and_from, and_parts, eqb-true, leb-true, not-true}
use Rattle.unicode_width.specs.declared.state.After.{After}
use Rattle.unicode_width.specs.declared.state.After.TheVariants.{Nothing, LineFeed, EmojiModifier, RegionalIndicator, RegionalIndicators, Emoji, ZwjEmoji, KeycapZwjEmoji, IndicatorZwj, EvenIndicatorsZwj, OddIndicatorsZwj, TagEnd, TagDigit1, TagDigit2, TagDigit3, TagLetter1, TagLetter2, TagLetter3, TagLetter4, TagLetter5, TagLetter6, KiratE, KiratAi, Alef, Solidus, SolidusAlef, Lamed, ZwjLamed, Ya, ZwjYa, VowelZwjYa, Tifinagh, ZwjTifinagh, JoinerTifinagh, LisuTone, OrkhonI, ZwjOrkhonI, KhmerLetter}
use Rattle.unicode_width.specs.declared.state.State.{State}
use Rattle.unicode_width.specs.Width.{Reading, plain, step, str_width}
use Rattle.unicode_width.proofs.Computing.{unicode_width}
use Rattle.cluster_width.specs.ClusterSums.{Text, measure}
use Rattle.cluster_width.proofs.Classes.{IsIn, IsLike, each, example_of, examples}
use Rattle.cluster_width.proofs.Pairs.{number_of}
use Rattle.cluster_width.proofs.SpaceMeasureLemmas.{one_character}
use Rattle.cluster_width.proofs.Steps.{step-like}
use Rattle.cluster_width.proofs.Sums.{implied, one_more, read, read-step}

-- ---- what one step back keeps

-- the number of terminal columns that the next step may take away
abbrev credit : After → ℕ
credit KhmerLetter = 1
credit JoinerTifinagh = 1
credit IndicatorZwj = 1
credit OddIndicatorsZwj = 1
credit _ = 0

-- the least number of terminal columns of a text that leads to this state
abbrev least : After → ℕ
least EmojiModifier = 2
least RegionalIndicators = 2
least Emoji = 2
least ZwjEmoji = 2
least KeycapZwjEmoji = 2
least IndicatorZwj = 3
least EvenIndicatorsZwj = 2
least OddIndicatorsZwj = 3
least TagEnd = 2
least TagDigit1 = 2
least TagDigit2 = 2
least TagDigit3 = 2
least TagLetter1 = 2
least TagLetter2 = 2
least TagLetter3 = 2
least TagLetter4 = 2
least TagLetter5 = 2
least TagLetter6 = 2
least JoinerTifinagh = 2
least Nothing = 0
least Solidus = 0
least SolidusAlef = 0
least _ = 1

-- the least total, counted from 1, after a character of n - 1 columns; U+17D2 may take one column away again
abbrev required : ℕ → ℕ
required n = if n == 2 then 1 else n

-- the characters that may follow
abbrev may_come : ℕ → Bool
may_come c = not (c == 0xFE0E)

-- the reading r of one step from a total of 1 has a as its next state, and keeps these bounds; n is the total of the
-- character alone
abbrev is_well_read : After → ℕ → Reading → Bool
is_well_read a n r =
    not r.1.text
    && (nat_le (1 + credit r.1.after) (r.0 + credit a)
    && (nat_le (1 + least r.1.after) (r.0 + least a)
    && nat_le (required n + credit r.1.after) (r.0 + least a)))

-- the same if d, the character of this step, may follow
abbrev is_well_read_by : ℕ → After → ℕ → Reading → Bool
is_well_read_by d a n r = not (may_come d) || is_well_read a n r

-- a state that no U+FE0E leads to
abbrev after_flags : After → Bool → Bool → State
after_flags a emoji quote = record { after = a; emoji = emoji; text = false; quote = quote }

-- the same for all flags
abbrev in_all_flags : After → ℕ → ℕ → Bool
in_all_flags a d n =
    (is_well_read_by d a n (step false d (1, after_flags a true true)) && is_well_read_by d a n (step false d (1, after_flags a true false)))
    && (is_well_read_by d a n (step false d (1, after_flags a false true)) && is_well_read_by d a n (step false d (1, after_flags a false false)))

-- the total of a character alone, counted from 1
abbrev own : ℕ → ℕ
own d = (step false d (1, plain)).0

-- the same with the character's own total
abbrev in_all_states : After → ℕ → Bool
in_all_states a d = in_all_flags a d (own d)

-- all states, in the order of `number_of`
abbrev afters : List After
afters =
    Nothing ∷ LineFeed ∷ EmojiModifier ∷ RegionalIndicator ∷ RegionalIndicators ∷ Emoji ∷ ZwjEmoji ∷ KeycapZwjEmoji ∷ IndicatorZwj
    ∷ EvenIndicatorsZwj ∷ OddIndicatorsZwj ∷ TagEnd ∷ TagDigit1 ∷ TagDigit2 ∷ TagDigit3 ∷ TagLetter1 ∷ TagLetter2 ∷ TagLetter3 ∷ TagLetter4
    ∷ TagLetter5 ∷ TagLetter6 ∷ KiratE ∷ KiratAi ∷ Alef ∷ Solidus ∷ SolidusAlef ∷ Lamed ∷ ZwjLamed ∷ Ya ∷ ZwjYa ∷ VowelZwjYa ∷ Tifinagh
    ∷ ZwjTifinagh ∷ JoinerTifinagh ∷ LisuTone ∷ OrkhonI ∷ ZwjOrkhonI ∷ KhmerLetter ∷ []

-- computed for a character of each class, and each next state
all-well : list_all (λ d. list_all (λ a. in_all_states a d) afters) examples ≡ true
unfolding unicode_width examples
all-well = refl

-- each state is in the list
place_back : (a : After) → slice_index_or afters (number_of a) Nothing ≡ a
place_back Nothing = refl
place_back _ = refl

place_bound : (a : After) → number_of a < 38
place_bound Nothing = omega arith
place_bound _ = omega arith

at_place : {X : Type 0} (xs : List X) (n : ℕ) (d : X) → n < length xs → IsIn xs (slice_index_or xs n d)
at_place [] n d h = absurd (omega arith)
at_place (x ∷ xs) zero d h = inl refl
at_place (x ∷ xs) (suc n) d h = inr (at_place xs n d (omega arith))

in_afters : (a : After) → IsIn afters a
in_afters a = subst (IsIn afters) (place_back a) (at_place afters (number_of a) Nothing (place_bound a))

-- ---- the step in every state

by_flags : (f : Bool → Bool → Bool) → ((f true true && f true false) && (f false true && f false false)) ≡ true → (e q : Bool) → f e q ≡ true
by_flags f h true true = (and_parts (f true true) (f true false) (and_parts (f true true && f true false) (f false true && f false false) h).0).0
by_flags f h true false = (and_parts (f true true) (f true false) (and_parts (f true true && f true false) (f false true && f false false) h).0).1
by_flags f h false true = (and_parts (f false true) (f false false) (and_parts (f true true && f true false) (f false true && f false false) h).1).0
by_flags f h false false = (and_parts (f false true) (f false false) (and_parts (f true true && f true false) (f false true && f false false) h).1).1

well_read : (d : ℕ) (a : After) (e q : Bool) → IsIn examples d → may_come d ≡ true → is_well_read a (own d) (step false d (1, after_flags a e q)) ≡ true
well_read d a e q d_in may =
    let here : in_all_states a d ≡ true = each (λ x. in_all_states x d) afters (each (λ y. list_all (λ x. in_all_states x y) afters) examples all-well d d_in) a (in_afters a) in
    implied (may_come d) (is_well_read a (own d) (step false d (1, after_flags a e q))) (by_flags (λ x y. is_well_read_by d a (own d) (step false d (1, after_flags a x y))) here e q) may

-- ---- the reading of a text

-- the invariant at each end of a text
record IsRead (cs : List ℕ) : Type 0 where
  shown : (read cs).1.text ≡ false
  enough : least (read cs).1.after + 1 ≤ (read cs).0
  each_fits : (x : ℕ) → IsIn cs x → required (own x) + credit (read cs).1.after ≤ (read cs).0

read-nothing : IsRead []
read-nothing = record { shown = refl; enough = omega arith; each_fits = λ x none. absurd none }

may_come-like : (c d : ℕ) → IsLike c d → may_come c ≡ may_come d
may_come-like c d like = cc

read-more : (c : ℕ) (cs : List ℕ) → may_come c ≡ true → IsRead cs → IsRead (c ∷ cs)
read-more c cs may r =
    let d = example_of c in
    let a = (read cs).1.after in
    let s = after_flags a (read cs).1.emoji (read cs).1.quote in
    let same : (read cs).1 ≡ s = ap (λ (t : Bool). record { after = (read cs).1.after; emoji = (read cs).1.emoji; text = t; quote = (read cs).1.quote }) r.shown in
    let it = read-step c d.0 d.2 cs s same in
    let next : Reading = step false d.0 (1, s) in
    let well = well_read d.0 a (read cs).1.emoji (read cs).1.quote d.1 (sym (may_come-like c d.0 d.2) ∙ may) in
    let one = and_parts (not next.1.text) _ well in
    let two = and_parts (nat_le (1 + credit next.1.after) (next.0 + credit a)) _ one.1 in
    let three = and_parts (nat_le (1 + least next.1.after) (next.0 + least a)) _ two.1 in
    let kept = leb-true _ _ two.0 in
    let enough = leb-true _ _ three.0 in
    let fits = leb-true _ _ three.1 in
    let credits = ap (λ (x : State). credit x.after) it.0 in
    let leasts = ap (λ (x : State). least x.after) it.0 in
    let mine = ap (λ (x : Reading). required x.0) (step-like c d.0 1 plain d.2) in
    let before = r.enough in
    record {
      shown = ap (λ (x : State). x.text) it.0 ∙ not-true _ one.0;
      enough = omega (arith, enough, before, leasts, it.1);
      each_fits = more d.0 next it.1 credits kept (omega (arith, fits, before, credits, mine, it.1));
    }
  where
    more : (d : ℕ) (next : Reading) → (read (c ∷ cs)).0 + 1 ≡ (read cs).0 + next.0 → credit (read (c ∷ cs)).1.after ≡ credit next.1.after
        → 1 + credit next.1.after ≤ next.0 + credit (read cs).1.after
        → required (own c) + credit (read (c ∷ cs)).1.after ≤ (read (c ∷ cs)).0
        → (x : ℕ) → IsIn (c ∷ cs) x → required (own x) + credit (read (c ∷ cs)).1.after ≤ (read (c ∷ cs)).0
    more d next total credits kept mine x (inl is) = subst (λ y. required (own y) + credit (read (c ∷ cs)).1.after ≤ (read (c ∷ cs)).0) (sym is) mine
    more d next total credits kept mine x (inr later) = let old = r.each_fits x later in omega (arith, old, kept, credits, total)

read-all : (cs : List ℕ) → list_all (may_come) cs ≡ true → IsRead cs
read-all [] all = read-nothing
read-all (c ∷ cs) all =
    let parts = and_parts (may_come c) (list_all (may_come) cs) all in
    read-more c cs parts.0 (read-all cs parts.1)

-- ---- a text and its characters

required-one : (n w : ℕ) → required (n + 1) ≤ w + 1 → n ≤ max 1 w
required-one n w h = by_test (n + 1 == 2) refl h
  where
    by_test : (b : Bool) → (n + 1 == 2) ≡ b → (if b then 1 else n + 1) ≤ w + 1 → n ≤ max 1 w
    by_test true is h = let two = eqb-true (n + 1) 2 is in omega (arith, two)
    by_test false is h = omega arith

-- a text without U+FE0E is at least as wide as each of its characters alone that is wider than one terminal column
wide_as_each_or_one : (cs : List ℕ) → list_all (λ c. not (c == 0xFE0E)) cs ≡ true → (c : ℕ) → IsIn cs c → str_width false (c ∷ []) ≤ max 1 (str_width false cs)
wide_as_each_or_one cs all c known =
    let fits = (read-all cs all).each_fits c known in
    let total = one_more cs in
    let mine = one_more (c ∷ []) in
    required-one (str_width false (c ∷ [])) (str_width false cs) (omega (arith, fits, total, ap required mine))

-- ---- the same of a text in UTF-8

pub leb-from : (a b : ℕ) → a ≤ b → nat_le a b ≡ true
leb-from a b h = grind (arith, nat_tests)

each-text : (n : ℕ) (cs : List ℕ) → all_scalars cs ≡ true → ((c : ℕ) → IsIn cs c → str_width false (c ∷ []) ≤ n) → list_all (λ c. nat_le (measure (encode_utf8 c)) n) cs ≡ true
each-text n [] scalars each = refl
each-text n (c ∷ cs) scalars each =
    let parts = and_parts (scalar c) (all_scalars cs) scalars in
    let spells = ap (str_width false) (one_character c parts.0).1 in
    let own_fits = each c (inl refl) in
    and_from _ _ (leb-from (measure (encode_utf8 c)) n (omega (arith, spells, own_fits))) (each-text n cs parts.1 (λ x later. each x (inr later)))

-- the same for the UTF-8 of the text
pub text_wide_as_each_or_one : (text : Text) → IsUtf8 text → list_all (λ c. not (c == 0xFE0E)) (chars text) ≡ true
    → list_all (λ c. nat_le (measure (encode_utf8 c)) (max 1 (measure text))) (chars text) ≡ true
text_wide_as_each_or_one text utf8 all =
    each-text (max 1 (measure text)) (chars text) (scalars-chars text utf8) (wide_as_each_or_one (chars text) all)
