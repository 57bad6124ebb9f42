-- The parts of a text. A text begins either with a sequence or with a visible byte, and its other parts are those of
-- the text after it.
use Rattle.std.proofs.Common.{◌≡◌, ◌⊎◌, inl, inr, ⊎_elim, ℕ, suc, ◌+◌, ◌-◌, Bool, true, false, cond, ◌&&◌, ◌==◌, [], ◌∷◌, ◌++◌, length, take, nat_lt, refl, sym, ap, ap₂, ◌∙◌, arith, eqb-true}
use Rattle.std.specs.List.{list_all, prefix_len, flat_map, slice_index}
use Rattle.std.specs.Prelude.{if◌then◌else◌}
use Rattle.std.proofs.lemmas.Bool.{and_parts, cases_Bool, cond_both, true≢false}
use Rattle.std.proofs.lemmas.Bool.Decides.{nat_tests}
use Rattle.comfy_parts.specs.Text.{Text}
use Rattle.comfy_parts.specs.VisibleText.{Part, is_parameter, parameter_count, sequence_len, part_at, parts, parts_past, visible_bytes, visible_text}
use Rattle.comfy_parts.specs.Laws.{SequencesAreTakenOut, OtherBytesAreVisible}

-- the byte at the next position
one_on : (c : ℕ) (cs : Text) (n : ℕ) → slice_index (c ∷ cs) (1 + n) ≡ slice_index cs n
one_on c cs n =
    let next : 1 + n ≡ suc n = omega arith in
    ap (slice_index (c ∷ cs)) next

-- ---- the front of a text

-- true if a text consists of parameters, an `m` and a rest, as after ESC and `[`
abbrev pub ends_here : Text → Bool
ends_here text = slice_index text (prefix_len is_parameter text) == 0x6D

-- the text is a sequence
pub record IsSequence (text : Text) : Type 0 where
  pub code : Text
  pub parameters : list_all is_parameter code ≡ true
  pub is : text ≡ 0x1B ∷ 0x5B ∷ (code ++ (0x6D ∷ []))

-- the text begins with a sequence
pub record BeginsWithSequence (text : Text) : Type 0 where
  pub code : Text
  pub rest : Text
  pub parameters : list_all is_parameter code ≡ true
  pub is : text ≡ 0x1B ∷ 0x5B ∷ (code ++ (0x6D ∷ rest))

-- a text that passes this test is parameters, an `m` and a rest
ends_here-is : (text : Text) → ends_here text ≡ true → (code : Text) × (rest : Text) × (list_all is_parameter code ≡ true) × (text ≡ code ++ (0x6D ∷ rest))
ends_here-is [] ends = absurd (true≢false (sym ends))
ends_here-is (c ∷ cs) ends =
    cond_both (is_parameter c) _ _ (λ n. (slice_index (c ∷ cs) n == 0x6D) ≡ true → (code : Text) × (rest : Text) × (list_all is_parameter code ≡ true) × (c ∷ cs ≡ code ++ (0x6D ∷ rest)))
    (λ passes ends.
    let more = ends_here-is cs (ap (λ x. x == 0x6D) (sym (one_on c cs (prefix_len is_parameter cs))) ∙ ends) in
    (c ∷ more.0, more.1, ap (λ b. b && list_all is_parameter more.0) passes ∙ more.2, ap (λ xs. c ∷ xs) more.3))
    (λ stops ends. ([], cs, refl, ap (λ x. x ∷ cs) (eqb-true c 0x6D ends))) ends

-- true if a text begins with a sequence
abbrev pub begins_with_sequence : Text → Bool
begins_with_sequence text =
    (slice_index text 0 == 0x1B) && ((slice_index text 1 == 0x5B) && (slice_index text (2 + parameter_count text) == 0x6D))

-- a text whose first byte isn't ESC doesn't begin with a sequence
pub no_sequence : (b : ℕ) (bs : Text) → (b == 0x1B) ≡ false → begins_with_sequence (b ∷ bs) ≡ false
no_sequence b bs other = rw other refl

-- the byte after the parameters, counted from two bytes before them
two_on : (a b : ℕ) (text : Text) → slice_index (a ∷ b ∷ text) (2 + prefix_len is_parameter text) ≡ slice_index text (prefix_len is_parameter text)
two_on a b text =
    let next : 2 + prefix_len is_parameter text ≡ suc (suc (prefix_len is_parameter text)) = omega arith in
    ap (slice_index (a ∷ b ∷ text)) next

-- a text begins with a sequence exactly if it is ESC, `[` and such a text
begins-two : (a b : ℕ) (text : Text) → begins_with_sequence (a ∷ b ∷ text) ≡ ((a == 0x1B) && ((b == 0x5B) && ends_here text))
begins-two a b text = ap (λ x. (a == 0x1B) && ((b == 0x5B) && (x == 0x6D))) (two_on a b text)

-- a text that passes this test begins with a sequence
begins-is : (text : Text) → begins_with_sequence text ≡ true → BeginsWithSequence text
begins-is [] begins = absurd (true≢false (sym begins))
begins-is (a ∷ []) begins =
    absurd (true≢false (sym (and_parts (a == 0x1B) false begins).1))
begins-is (a ∷ b ∷ text) begins =
    let first = and_parts (a == 0x1B) ((b == 0x5B) && ends_here text) (sym (begins-two a b text) ∙ begins) in
    let next = and_parts (b == 0x5B) (ends_here text) first.1 in
    let more = ends_here-is text next.1 in
    record { code = more.0; rest = more.1; parameters = more.2; is = ap₂ (λ x xs. x ∷ xs) (eqb-true a 0x1B first.0) (ap₂ (λ x xs. x ∷ xs) (eqb-true b 0x5B next.0) more.3) }

-- a text either begins with a sequence or doesn't
pub front_of : (text : Text) → BeginsWithSequence text ⊎ (begins_with_sequence text ≡ false)
front_of text = ⊎_elim (λ begins. inl (begins-is text begins)) inr (cases_Bool (begins_with_sequence text))

-- ---- texts that can't complete a sequence

-- the text can't continue an unfinished sequence
pub record Stops (rest : Text) : Type 0 where
  pub no_end : ends_here rest ≡ false
  pub no_start : (slice_index rest 0 == 0x5B) ≡ false

-- the empty text can't, and neither can a text that begins with ESC
pub Stops-nil : Stops []
Stops-nil = record { no_end = refl; no_start = refl }

pub Stops-escape : (more : Text) → Stops (0x1B ∷ more)
Stops-escape more = record { no_end = refl; no_start = refl }

-- bytes without an `m` after their parameters before any rest have none before such a text
ends_here-stops : (xs rest other : Text) → Stops other → ends_here (xs ++ rest) ≡ false → ends_here (xs ++ other) ≡ false
ends_here-stops [] rest other stops free = stops.no_end
ends_here-stops (c ∷ cs) rest other stops free = by_test (is_parameter c) free (ends_here-stops cs rest other stops)
  where
    by_test : (b : Bool) → (slice_index (c ∷ (cs ++ rest)) (cond b (1 + prefix_len is_parameter (cs ++ rest)) 0) == 0x6D) ≡ false
        → (ends_here (cs ++ rest) ≡ false → ends_here (cs ++ other) ≡ false)
        → (slice_index (c ∷ (cs ++ other)) (cond b (1 + prefix_len is_parameter (cs ++ other)) 0) == 0x6D) ≡ false
    by_test true free more =
        ap (λ x. x == 0x6D) (one_on c (cs ++ other) (prefix_len is_parameter (cs ++ other)))
        ∙ more (ap (λ x. x == 0x6D) (sym (one_on c (cs ++ rest) (prefix_len is_parameter (cs ++ rest)))) ∙ free)
    by_test false free more = free

-- a first byte that is visible before any rest is visible before such a text
pub visible-stops : (b : ℕ) (xs rest other : Text) → Stops other → begins_with_sequence (b ∷ (xs ++ rest)) ≡ false → begins_with_sequence (b ∷ (xs ++ other)) ≡ false
visible-stops b [] rest other stops free = by_test (b == 0x1B) (slice_index other 0 == 0x5B) stops.no_start
  where
    by_test : (first next : Bool) → next ≡ false → (first && (next && (slice_index (b ∷ other) (2 + parameter_count (b ∷ other)) == 0x6D))) ≡ false
    by_test false next is = refl
    by_test true true is = absurd (true≢false is)
    by_test true false is = refl
visible-stops b (c ∷ cs) rest other stops free =
    begins-two b c (cs ++ other)
    ∙ by_test (b == 0x1B) (c == 0x5B) (ends_here (cs ++ rest)) (ends_here (cs ++ other)) (sym (begins-two b c (cs ++ rest)) ∙ free) (ends_here-stops cs rest other stops)
  where
    by_test : (first next end end' : Bool) → (first && (next && end)) ≡ false → (end ≡ false → end' ≡ false) → (first && (next && end')) ≡ false
    by_test false next end end' free more = refl
    by_test true false end end' free more = refl
    by_test true true end end' free more = more free

-- ---- the parts of a text

-- the parameters before an `m` are counted
prefix_len-parameters : (code rest : Text) → list_all is_parameter code ≡ true → prefix_len is_parameter (code ++ (0x6D ∷ rest)) ≡ length code
prefix_len-parameters [] rest all = refl
prefix_len-parameters (c ∷ cs) rest all =
    let both = and_parts (is_parameter c) (list_all is_parameter cs) all in
    let more = prefix_len-parameters cs rest both.1 in
    ap (λ t. cond t (1 + prefix_len is_parameter (cs ++ (0x6D ∷ rest))) 0) both.0 ∙ omega (arith, more)

-- the byte after a prefix
pub slice_index_after : (xs : Text) (x : ℕ) (ys : Text) → slice_index (xs ++ (x ∷ ys)) (length xs) ≡ x
slice_index_after [] x ys = refl
slice_index_after (c ∷ cs) x ys = slice_index_after cs x ys

-- skipped bytes give no part
parts_past-after : (code : Text) (m : ℕ) (rest : Text) → parts_past (suc (length code)) (code ++ (m ∷ rest)) ≡ parts_past 0 rest
parts_past-after [] m rest = refl
parts_past-after (c ∷ cs) m rest = parts_past-after cs m rest

-- the bytes of a sequence
take-sequence : (code rest : Text) → take (suc (length code)) (code ++ (0x6D ∷ rest)) ≡ code ++ (0x6D ∷ [])
take-sequence [] rest = refl
take-sequence (c ∷ cs) rest = ap (λ xs. c ∷ xs) (take-sequence cs rest)

-- the length of the sequence at the front of a text
pub sequence_len-sequence : (code rest : Text) → list_all is_parameter code ≡ true → sequence_len (0x1B ∷ 0x5B ∷ (code ++ (0x6D ∷ rest))) ≡ suc (suc (suc (length code)))
sequence_len-sequence code rest all = ap₂ (λ x n. if x == 0x6D then n + 3 else 0) ends count ∙ omega arith
  where
    text : Text
    text = 0x1B ∷ 0x5B ∷ (code ++ (0x6D ∷ rest))

    count : parameter_count text ≡ length code
    count = prefix_len-parameters code rest all

    ends : slice_index text (2 + parameter_count text) ≡ 0x6D
    ends =
        let place : 2 + parameter_count text ≡ suc (suc (length code)) = omega (arith, count) in
        ap (slice_index text) place ∙ slice_index_after code 0x6D rest

-- a text that begins with a sequence has it as its first part
pub parts-sequence : (code rest : Text) → list_all is_parameter code ≡ true
    → parts (0x1B ∷ 0x5B ∷ (code ++ (0x6D ∷ rest))) ≡ record { is_sequence = true; bytes = 0x1B ∷ 0x5B ∷ (code ++ (0x6D ∷ [])) } ∷ parts rest
parts-sequence code rest all = ap₂ (λ (p : Part) ps. p ∷ ps) part skipped
  where
    text : Text
    text = 0x1B ∷ 0x5B ∷ (code ++ (0x6D ∷ rest))

    len : sequence_len text ≡ suc (suc (suc (length code)))
    len = sequence_len-sequence code rest all

    part : part_at text ≡ record { is_sequence = true; bytes = 0x1B ∷ 0x5B ∷ (code ++ (0x6D ∷ [])) }
    part =
        let some : nat_lt 0 (suc (suc (suc (length code)))) ≡ true = grind (arith, nat_tests) in
        ap (λ n. if nat_lt 0 n then record { is_sequence = true; bytes = take n text } else record { is_sequence = false; bytes = take 1 text }) len
        ∙ ap (λ t. if t then record { is_sequence = true; bytes = take (suc (suc (suc (length code)))) text } else record { is_sequence = false; bytes = take 1 text }) some
        ∙ ap (λ (bytes : Text). record { is_sequence = true; bytes = 0x1B ∷ 0x5B ∷ bytes }) (take-sequence code rest)

    skipped : parts_past (sequence_len text - 1) (0x5B ∷ (code ++ (0x6D ∷ rest))) ≡ parts_past 0 rest
    skipped =
        let back : sequence_len text - 1 ≡ suc (suc (length code)) = omega (arith, len) in
        ap (λ n. parts_past n (0x5B ∷ (code ++ (0x6D ∷ rest)))) back ∙ parts_past-after code 0x6D rest

-- the first part of any other text is its first byte
pub parts-visible : (b : ℕ) (rest : Text) → begins_with_sequence (b ∷ rest) ≡ false → parts (b ∷ rest) ≡ record { is_sequence = false; bytes = b ∷ [] } ∷ parts rest
parts-visible b rest free =
    ap (λ n. (if nat_lt 0 n then record { is_sequence = true; bytes = take n (b ∷ rest) } else record { is_sequence = false; bytes = take 1 (b ∷ rest) }) ∷ parts_past (n - 1) rest) none
  where
    none : sequence_len (b ∷ rest) ≡ 0
    none = ap (λ t. if t then parameter_count (b ∷ rest) + 3 else 0) free

-- ---- visible text

-- a sequence at the front of a text isn't visible
pub sequences_are_taken_out : (code rest : Text) → SequencesAreTakenOut code rest
sequences_are_taken_out code rest all = ap (flat_map visible_bytes) (parts-sequence code rest all)

-- any other first byte is visible
pub other_bytes_are_visible : (b : ℕ) (rest : Text) → OtherBytesAreVisible b rest
other_bytes_are_visible b rest none = by_front (front_of (b ∷ rest))
  where
    by_front : BeginsWithSequence (b ∷ rest) ⊎ (begins_with_sequence (b ∷ rest) ≡ false) → visible_text (b ∷ rest) ≡ b ∷ visible_text rest
    by_front (inl s) = absurd (none s.code s.rest s.parameters s.is)
    by_front (inr free) = ap (flat_map visible_bytes) (parts-visible b rest free)
