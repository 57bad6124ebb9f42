-- Lines whose fields are separated by spaces, and the places where they are cut.
use Rattle.std.proofs.Common.{◌≡◌, ◌∙◌, ◌⊎◌, Option, append_assoc, eqb-true, sym, inl, inr, ◌<◌, ◌≤◌, ◌==◌, ◌+◌, ◌-◌, ℕ, zero, suc, Bool, true, false, [], ◌∷◌, ◌++◌, Some, None, arith, drop, get_or, length, nat_lt, refl, subst, take, tests, ap}
use Rattle.std.proofs.Math.Seq.{take-length}
use Rattle.std.proofs.lemmas.Bool.{cases_lt}
use Rattle.std.proofs.lemmas.List.{drop_more, length-drop, map-append, take-append-drop}
use Rattle.std.proofs.lemmas.List.Quantifiers.{position-Some}
use Rattle.std.proofs.lemmas.List.Sums.{fails_before_first, passes_at_first, prefix_len-le-length, prefix_len_passes}
use Rattle.std.proofs.lemmas.Str.{IsCharBoundary-after_ascii, IsCharBoundary-before_ascii, IsCharBoundary-end, IsCharBoundary-start}
use Rattle.std.specs.List.{position, position_or_len, prefix_len}
use Rattle.std.specs.Option.{option_map, unwrap_or}
use Rattle.std.specs.Prelude.{if◌then◌else◌, not}
use Rattle.std.specs.Str.{IsCharBoundary, IsUtf8}
use Rattle.comfy_parts.specs.Text.{Text}
use Rattle.csv_records.specs.Number.{halves}
use Rattle.csv_records.specs.Spaces.{after_field, first_field, is_gap, spaced, tabbed_line}

gap_is_ascii : (b : ℕ) → is_gap b ≡ true → b < 128
gap_is_ascii b is = grind (arith, is, tests)

-- a text may be cut before its first gap
pub boundary_before_gap : (text : Text) → IsCharBoundary text (position_or_len is_gap text)
boundary_before_gap text = by_place (cases_lt (position_or_len is_gap text) (length text))
  where
    by_place : (position_or_len is_gap text < length text) ⊎ (length text ≤ position_or_len is_gap text) → IsCharBoundary text (position_or_len is_gap text)
    by_place (inl inside) = IsCharBoundary-before_ascii text (position_or_len is_gap text) inside (gap_is_ascii (get_or text (position_or_len is_gap text) 0) (passes_at_first is_gap text 0 inside))
    by_place (inr outside) =
        let le = prefix_len-le-length (λ b. not (is_gap b)) text in
        let whole : length text ≡ position_or_len is_gap text = omega arith in
        subst (λ (n : ℕ). IsCharBoundary text n) whole (IsCharBoundary-end text)

-- a text may be cut after the gap at its front
pub boundary_after_gap : (text : Text) → IsUtf8 text → IsCharBoundary text (prefix_len is_gap text)
boundary_after_gap text utf8 = by_len (prefix_len is_gap text) refl
  where
    by_len : (n : ℕ) → prefix_len is_gap text ≡ n → IsCharBoundary text n
    by_len zero is = IsCharBoundary-start text utf8
    by_len (suc n) is =
        let le = prefix_len-le-length is_gap text in
        let gap = prefix_len_passes is_gap text n 0 (omega (arith, is)) in
        subst (λ (k : ℕ). IsCharBoundary text k) (omega arith) (IsCharBoundary-after_ascii text n utf8 (omega (arith, is, le)) (gap_is_ascii (get_or text n 0) gap))

-- ---- TABs

-- a prefix without TABs stays as it is
spaced_front : (line : Text) (at : ℕ) → ((k : ℕ) → k < at → (get_or line k 0 == 0x09) ≡ false) → spaced (take at line) ≡ take at line
spaced_front line zero none = refl
spaced_front [] (suc at) none = refl
spaced_front (b ∷ bs) (suc at) none = rw (none 0 (omega arith)) (ap (λ (t : Text). b ∷ t) (spaced_front bs at (λ k less. none (suc k) (omega (arith, less)))))

pub spaced_halves : (line before after : Text) → halves 0x09 line ≡ Some (before, after) → (spaced line ≡ before ++ 0x20 ∷ spaced after) × (length after < length line)
spaced_halves line before after is = by_place (position (λ b. b == 0x09) line) refl is
  where
    at_place : (at : ℕ) → position (λ b. b == 0x09) line ≡ Some at → (spaced line ≡ take at line ++ 0x20 ∷ spaced (drop (at + 1) line)) × (length (drop (at + 1) line) < length line)
    at_place at found =
        let known = position-Some (λ b. b == 0x09) line at 0 found in
        let byte = eqb-true (get_or line at 0) 0x09 known.1 in
        let back : drop at line ≡ 0x09 ∷ drop (at + 1) line = drop_more line at 0 known.0 ∙ ap (λ b. b ∷ drop (at + 1) line) byte in
        let parts : spaced line ≡ spaced (take at line) ++ spaced (drop at line) = ap spaced (sym (take-append-drop at line)) ∙ map-append (λ b. if b == 0x09 then 0x20 else b) (take at line) (drop at line) in
        let shorter = length-drop (at + 1) line in
        (parts ∙ ap (λ (t : Text). t ++ spaced (drop at line)) (spaced_front line at known.2) ∙ ap (λ (t : Text). take at line ++ spaced t) back, omega (arith, shorter, known.0))

    by_place : (o : Option ℕ) → position (λ b. b == 0x09) line ≡ o → option_map {U = Text × Text} (λ at. (take at line, drop (at + 1) line)) o ≡ Some (before, after) → (spaced line ≡ before ++ 0x20 ∷ spaced after) × (length after < length line)
    by_place None found is = absurd (cc is)
    by_place (Some at) found is =
        subst (λ (p : Text × Text). (spaced line ≡ p.0 ++ 0x20 ∷ spaced p.1) × (length p.1 < length line))
        (ap (λ (o : Option (Text × Text)). unwrap_or o ([], [])) is) (at_place at found)

pub spaced_whole : (line : Text) → halves 0x09 line ≡ None → spaced line ≡ line
spaced_whole line is = by_place (nat_lt (position_or_len (λ b. b == 0x09) line) (length line)) refl is
  where
    by_place : (v : Bool) → nat_lt (position_or_len (λ b. b == 0x09) line) (length line) ≡ v
        → option_map {U = Text × Text} (λ at. (take at line, drop (at + 1) line)) (if v then Some (position_or_len (λ b. b == 0x09) line) else None) ≡ None → spaced line ≡ line
    by_place true less is = absurd (cc is)
    by_place false more is = subst (λ (t : Text). spaced t ≡ t) (take-length line) (spaced_front line (length line) (λ k less. fails_before_first (λ b. b == 0x09) line k 0 (grind (arith, more, less, tests))))

pub one_more : (had field more whole : Text) (d : ℕ) → had ++ (field ++ d ∷ more) ≡ whole → ((had ++ field) ++ d ∷ []) ++ more ≡ whole
one_more had field more whole d is = append_assoc (had ++ field) (d ∷ []) more ∙ append_assoc had field (d ∷ more) ∙ is

-- ---- lines

pub one_gap_less : (gaps at : ℕ) (line : Text) → at < gaps → (length (after_field line) == 0) ≡ false
    → tabbed_line (gaps - at) line ≡ first_field line ++ 0x09 ∷ tabbed_line (gaps - (at + 1)) (after_field line)
one_gap_less gaps at line less some =
    let step : gaps - at ≡ suc (gaps - (at + 1)) = omega arith in
    rw (step, some) refl
