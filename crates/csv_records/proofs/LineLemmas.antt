-- Lines of a text.
use Rattle.std.proofs.Common.{◌≡◌, ◌≢◌, ◌⊎◌, inl, inr, ◌+◌, ◌-◌, ◌<◌, ◌≤◌, ◌==◌, ◌&&◌, ℕ, zero, suc, Bool, true, false, [], ◌∷◌, ◌++◌, ap, append_assoc, arith, drop, eqb-true, get_or, length, refl, subst, sym, take, tests, ◌∙◌}
use Rattle.std.proofs.lemmas.Bool.{and_parts, cases_lt, ne_eqb}
use Rattle.std.proofs.lemmas.List.{take-append-drop}
use Rattle.std.proofs.lemmas.List.Sums.{passes_at_first, prefix_len-le-length}
use Rattle.std.proofs.lemmas.Str.{IsCharBoundary-after_ascii, IsCharBoundary-before_ascii, IsCharBoundary-end, IsCharBoundary-start}
use Rattle.std.specs.Prelude.{if◌then◌else◌, not}
use Rattle.std.specs.Str.{IsCharBoundary, IsUtf8}
use Rattle.comfy_parts.specs.Text.{Text}
use Rattle.csv_records.specs.Lines.{EndsIn, below_line, below_lines, end_len, ends_line, line_len}

ascii_end : (b : ℕ) → ends_line b ≡ true → b < 128
ascii_end b is = grind (arith, is, tests)

pub line_len-le : (text : Text) → line_len text ≤ length text
line_len-le text = prefix_len-le-length (λ b. not (ends_line b)) text

-- a text may be cut before its first line end
pub boundary_before : (text : Text) → IsCharBoundary text (line_len text)
boundary_before text = by_place (cases_lt (line_len text) (length text))
  where
    by_place : (line_len text < length text) ⊎ (length text ≤ line_len text) → IsCharBoundary text (line_len text)
    by_place (inl inside) = IsCharBoundary-before_ascii text (line_len text) inside (ascii_end (get_or text (line_len text) 0) (passes_at_first ends_line text 0 inside))
    by_place (inr outside) =
        let le = line_len-le text in
        let whole : length text ≡ line_len text = omega arith in
        subst (λ (n : ℕ). IsCharBoundary text n) whole (IsCharBoundary-end text)

-- a text may be cut after a line end
pub boundary_after : (text : Text) → IsUtf8 text → IsCharBoundary text (end_len text)
boundary_after [] utf8 = IsCharBoundary-end []
boundary_after (a ∷ []) utf8 = by_end (ends_line a)
  where
    by_end : (v : Bool) → IsCharBoundary (a ∷ []) (if v then 1 else 0)
    by_end true = IsCharBoundary-end (a ∷ [])
    by_end false = IsCharBoundary-start (a ∷ []) utf8
boundary_after (a ∷ b ∷ rest) utf8 = by_ends ((a == 0x0D) && (b == 0x0A)) refl (ends_line a) refl
  where
    by_ends : (v : Bool) → ((a == 0x0D) && (b == 0x0A)) ≡ v → (w : Bool) → ends_line a ≡ w → IsCharBoundary (a ∷ b ∷ rest) (if v then 2 else if w then 1 else 0)
    by_ends true both w is =
        let feed = eqb-true b 0x0A (and_parts (a == 0x0D) (b == 0x0A) both).1 in
        IsCharBoundary-after_ascii (a ∷ b ∷ rest) 1 utf8 (omega arith) (omega (arith, feed))
    by_ends false both true is = IsCharBoundary-after_ascii (a ∷ b ∷ rest) 0 utf8 (omega arith) (ascii_end a is)
    by_ends false both false is = IsCharBoundary-start (a ∷ b ∷ rest) utf8

-- ---- ends of a text

pub EndsIn-trans : (text rest end : Text) → EndsIn text rest → EndsIn rest end → EndsIn text end
EndsIn-trans text rest end (front, is) (more, others) = (front ++ more, is ∙ ap (λ (t : Text). front ++ t) others ∙ sym (append_assoc front more end))

drop-EndsIn : (n : ℕ) (text : Text) → EndsIn text (drop n text)
drop-EndsIn n text = (take n text, sym (take-append-drop n text))

pub line-EndsIn : (text : Text) → EndsIn text (below_line text)
line-EndsIn text =
    let rest = drop (line_len text) text in
    EndsIn-trans text rest (below_line text) (drop-EndsIn (line_len text) text) (drop-EndsIn (end_len rest) rest)

-- one line less is left to skip
pub one_line_less : (count done : ℕ) (text : Text) → done < count → below_lines (count - done) text ≡ below_lines (count - (done + 1)) (below_line text)
one_line_less count done text more =
    let left : count - done ≡ suc (count - (done + 1)) = omega arith in
    rw left refl

-- nothing is below the lines of an empty text
pub no_lines_left : (count : ℕ) (text : Text) → (length text == 0) ≡ true → below_lines count text ≡ text
no_lines_left count (b ∷ text) is = absurd (omega (arith, eqb-true (suc (length text)) 0 is))
no_lines_left zero [] is = refl
no_lines_left (suc count) [] is = no_lines_left count [] is

-- ---- lines that are left out

-- the text after a place and the line end there
abbrev below_at : ℕ → Text → Text
below_at n text = drop (end_len (drop n text)) (drop n text)

-- a unit that ends no line is passed over
pub line_goes_on : (u : ℕ) (more : Text) → u ≢ 0x0A → u ≢ 0x0D → below_line (u ∷ more) ≡ below_line more
line_goes_on u more no_feed no_return = by_end (ends_line u) (rw (ne_eqb u 0x0A no_feed, ne_eqb u 0x0D no_return) refl)
  where
    by_end : (v : Bool) → v ≡ false → below_at (if not v then 1 + line_len more else 0) (u ∷ more) ≡ below_line more
    by_end true end = absurd (cc end)
    by_end false end =
        let step : 1 + line_len more ≡ suc (line_len more) = omega arith in
        rw step refl
