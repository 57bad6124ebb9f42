-- Text lines without ESC are their own visible texts. Printable ASCII is such a text line.
use Rattle.std.proofs.Common.{◌≡◌, ◌<◌, ◌||◌, ◌==◌, ℕ, Bool, true, false, List, [], ◌∷◌, length, map, refl, sym, ap, ap₂, ◌∙◌, arith, nat_lt, slice_index, eqb-true}
use Rattle.std.specs.Int.{is_in_range}
use Rattle.std.specs.List.{All, list_all, list_any, slice_split}
use Rattle.std.proofs.lemmas.Bool.{and_parts, or_parts, true≢false}
use Rattle.std.proofs.lemmas.Bool.Decides.{nat_tests}
use Rattle.std.proofs.lemmas.List.Elements.{All-cons, All-from_get_or, All-nil}
use Rattle.std.proofs.lemmas.List.Folds.{list_any_none}
use Rattle.std.proofs.lemmas.Str.{NoCharPasses-byte}
use Rattle.std.specs.Str.{NoCharPasses}
use Rattle.std.proofs.lemmas.List.Splits.{slice_split_none}
use Rattle.comfy_parts.proofs.PrintableLemmas.{measure-printable}
use Rattle.comfy_parts.proofs.ShownLemmas.{Shows-clear, visible_text-is}
use Rattle.comfy_parts.specs.Text.{Text, is_printable_ascii}
use Rattle.comfy_parts.specs.TextLines.{IsClearLine}
use Rattle.comfy_parts.specs.VisibleText.{has_escape, visible_text}

-- a text without ESC is its visible text
pub clear_text : (text : Text) → has_escape text ≡ false → visible_text text ≡ text
clear_text text clear = visible_text-is text text (Shows-clear text clear)

-- texts without ESC are their visible texts
pub clear_lines : (texts : List Text) → list_any has_escape texts ≡ false → texts ≡ map visible_text texts
clear_lines [] clear = refl
clear_lines (text ∷ texts) clear =
    let parts = or_parts (has_escape text) (list_any has_escape texts) clear in
    ap₂ (λ t ts. t ∷ ts) (sym (clear_text text parts.0)) (clear_lines texts parts.1)

-- printable ASCII doesn't contain a byte below the space
pub none_below : (c : ℕ) → c < 0x20 → (text : Text) → is_printable_ascii text ≡ true → list_any (λ b. b == c) text ≡ false
none_below c low [] printable = refl
none_below c low (b ∷ bs) printable =
    let both = and_parts (is_in_range 0x20 0x7E b) (list_all (is_in_range 0x20 0x7E) bs) printable in
    let other : (b == c) ≡ false = grind (arith, nat_tests, low, both.0) in
    ap (λ t. t || list_any (λ x. x == c) bs) other ∙ none_below c low bs both.1

-- a text without control characters doesn't contain one particular control character
pub none_of_control : (c : ℕ) → c < 0x20 → (text : Text) → list_any (λ b. nat_lt b 0x20) text ≡ false → list_any (λ b. b == c) text ≡ false
none_of_control c low [] none = refl
none_of_control c low (b ∷ bs) none =
    let both = or_parts (nat_lt b 0x20) (list_any (λ x. nat_lt x 0x20) bs) none in
    let other : (b == c) ≡ false = grind (arith, nat_tests, low, both.0) in
    ap (λ t. t || list_any (λ x. x == c) bs) other ∙ none_of_control c low bs both.1

-- a byte that fails a test isn't the byte c, if c passes the test
pub unlike : (p : ℕ → Bool) (b c : ℕ) → p c ≡ true → (b ≡ c → p b ≡ false) → (b == c) ≡ false
unlike p b c passes fails = by_test (b == c) refl
  where
    by_test : (same : Bool) → (b == c) ≡ same → same ≡ false
    by_test false differs = refl
    by_test true same = let is = eqb-true b c same in absurd (true≢false (sym passes ∙ ap p (sym is) ∙ fails is))

-- if no character of a text passes a test, the text doesn't contain an ASCII byte that does
pub none_by_characters : (p : ℕ → Bool) (c : ℕ) → c < 128 → p c ≡ true → (text : Text) → NoCharPasses p text → list_any (λ b. b == c) text ≡ false
none_by_characters p c seven passes text none =
    list_any_none (λ b. b == c) text (All-from_get_or (λ b. (b == c) ≡ false) text 0 (λ i below. unlike p (slice_index text i) c passes (λ is. NoCharPasses-byte p text i none below (omega (arith, is, seven)))))

-- a text without line feeds is one text line
pub unbroken_line : (text : Text) → list_any (λ b. b == 0x0A) text ≡ false → slice_split (λ b. b == 0x0A) text ≡ text ∷ []
unbroken_line text none = slice_split_none (λ b. b == 0x0A) text (each text none)
  where
    each : (bs : Text) → list_any (λ b. b == 0x0A) bs ≡ false → All (λ b. (b == 0x0A) ≡ false) bs
    each [] none = All-nil (λ b. (b == 0x0A) ≡ false)
    each (b ∷ bs) none =
        let both = or_parts (b == 0x0A) (list_any (λ x. x == 0x0A) bs) none in
        All-cons (λ x. (x == 0x0A) ≡ false) b bs both.0 (each bs both.1)

-- printable ASCII is one text line, and each of its bytes takes one terminal column
pub printable_line : (text : Text) → is_printable_ascii text ≡ true → IsClearLine text (length text)
printable_line text printable = record { unbroken = none_below 0x0A (omega arith) text printable; clear = none_below 0x1B (omega arith) text printable; width = sym (measure-printable text printable) }
