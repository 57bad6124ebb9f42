-- Fields with spaces after them are cleaned.
use Rattle.std.proofs.Common.{◌≡◌, ℕ, zero, suc, false, List, [], ◌∷◌, ◌++◌, chars, sym, ap, ◌∙◌, arith, append-nil, append_assoc}
use Rattle.std.specs.Prelude.{fold, slice_index, ◌<◌}
use Rattle.std.proofs.lemmas.List.{map-append}
use Rattle.comfy_parts.specs.VisibleText.{Part}
use Rattle.std.specs.Str.{IsUtf8}
use Rattle.std.proofs.lemmas.List.Sums.{fold-append}
use Rattle.std.proofs.lemmas.Str.{chars-append, chars-IsAscii, encode_ascii}
use Rattle.comfy_parts.specs.Text.{Text, spaces}
use Rattle.csv_records.specs.Cleaning.{CleanedText, after_character, after_piece, cleaned, pieces, start}

after_spaces : (n : ℕ) (s : CleanedText) → (fold after_piece s (pieces false (spaces n))).text ≡ s.text ++ spaces n
after_spaces zero s = sym (append-nil s.text)
after_spaces (suc n) s =
    let here : (after_character s 0x20).text ≡ s.text ++ 0x20 ∷ [] = ap (λ (t : Text). s.text ++ t) (encode_ascii 0x20 (omega arith)) in
    after_spaces n (after_character s 0x20) ∙ ap (λ (t : Text). t ++ spaces n) here ∙ append_assoc s.text (0x20 ∷ []) (spaces n)

space_below : (n i : ℕ) → slice_index (spaces n) i < 128
space_below zero i = omega arith
space_below (suc n) zero = omega arith
space_below (suc n) (suc i) = space_below n i

abbrev single : ℕ → Part
single c = record { is_sequence = false; bytes = c ∷ [] }

abbrev folded : CleanedText → List ℕ → CleanedText
folded s cs = fold after_piece s (pieces false cs)

-- spaces stay after a cleaned field
pub cleaned-spaced : (field : Text) (n : ℕ) → IsUtf8 field → cleaned false (field ++ spaces n) ≡ cleaned false field ++ spaces n
cleaned-spaced field n utf8 =
    ap (λ (cs : List ℕ). (folded start cs).text) (chars-append field (spaces n) utf8 ∙ ap (λ (cs : List ℕ). chars field ++ cs) (chars-IsAscii (spaces n) (space_below n)))
    ∙ ap (λ (ps : List Part). (fold after_piece start ps).text) (map-append single (chars field) (spaces n))
    ∙ ap (λ (s : CleanedText). s.text) (fold-append after_piece start (pieces false (chars field)) (pieces false (spaces n)))
    ∙ after_spaces n (folded start (chars field))
