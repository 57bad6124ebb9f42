-- Texts that are split at zero bytes.
use Rattle.std.proofs.Common.{◌≡◌, ◌≢◌, ◌∙◌, ◌+◌, ◌-◌, ◌<◌, ◌==◌, ◌||◌, Bool, true, false, cond, ℕ, List, [], ◌∷◌, ◌++◌, Option, Some, None, Bor, MatchOption, ap, ap₂, codes, length, refl, sym, arith, eqb-true, get_or, length-append, take}
use Rattle.std.proofs.lemmas.List.{get_or_push, nil_from_length, take_more}
use Rattle.std.proofs.Math.Seq.{take-length}
use Rattle.std.proofs.lemmas.List.Elements.{All-cons, All-head, All-nil, All-tail}
use Rattle.std.proofs.lemmas.List.Splits.{length-slice_split}
use Rattle.std.proofs.lemmas.Bool.{cond_both}
use Rattle.std.specs.Option.{unwrap_or}
use Rattle.std.specs.List.{All, flat_map, onto_first, slice_split}
use Rattle.comfy_parts.specs.Text.{HasNo, Text}
use Rattle.comfy_c.specs.Calls.{IsCommandLine, closed, ended}

-- the parts of a text between its zero bytes
abbrev pub parts : Text → List Text
parts text = slice_split (λ byte. byte == 0) text

some_parts : (text : Text) → 0 < length (parts text)
some_parts text = omega (arith, length-slice_split (λ byte. byte == 0) text)

-- a byte before the first of some texts is before all of them, with the zero byte after each
ended-onto : (byte : ℕ) (texts : List Text) → 0 < length texts → flat_map ended (onto_first byte texts) ≡ byte ∷ flat_map ended texts
ended-onto byte [] some = absurd (omega (arith, some))
ended-onto byte (text ∷ texts) some = refl

-- the parts of a text with a zero byte after each are the text with a zero byte after it
pub ended-parts : (text : Text) → flat_map ended (parts text) ≡ ended text
ended-parts [] = refl
ended-parts (byte ∷ text) = by_test (byte == 0) refl (ended-parts text)
  where
    by_test : (is : Bool) → (byte == 0) ≡ is → flat_map ended (parts text) ≡ ended text → flat_map ended (parts (byte ∷ text)) ≡ ended (byte ∷ text)
    by_test true is rest =
        ap (λ t. flat_map ended (cond t ([] ∷ parts text) (onto_first byte (parts text)))) is ∙ ap₂ (λ b t. b ∷ t) (sym (eqb-true byte 0 is)) rest
    by_test false is rest =
        ap (λ t. flat_map ended (cond t ([] ∷ parts text) (onto_first byte (parts text)))) is ∙ ended-onto byte (parts text) (some_parts text) ∙ ap (λ t. byte ∷ t) rest

clear-onto : (byte : ℕ) (texts : List Text) → (byte == 0) ≡ false → All (HasNo 0) texts → All (HasNo 0) (onto_first byte texts)
clear-onto byte [] other each = All-cons (HasNo 0) (byte ∷ []) [] (ap (λ t. t || false) other) (All-nil (HasNo 0))
clear-onto byte (text ∷ texts) other each = All-cons (HasNo 0) (byte ∷ text) texts (ap₂ (λ s t. s || t) other (All-head (HasNo 0) text texts each)) (All-tail (HasNo 0) text texts each)

-- no part has a zero byte
pub parts-clear : (text : Text) → All (HasNo 0) (parts text)
parts-clear [] = All-cons (HasNo 0) [] [] refl (All-nil (HasNo 0))
parts-clear (byte ∷ text) =
    let rest = parts-clear text in
    cond_both (byte == 0) _ _ (All (HasNo 0)) (λ _. All-cons (HasNo 0) [] (parts text) refl rest) (λ other. clear-onto byte (parts text) other rest)

-- the parts of a text are the arguments, after the program's name, of a text that the same zero byte ends
pub arguments_in : (text front : Text) (line : List Text) → ended front ≡ closed text → line ≡ codes "csvtable" ∷ parts front → IsCommandLine text line
arguments_in text front line same is = record { arguments = parts front; after_name = is; hold_no_end = parts-clear front; are_all = ended-parts front ∙ same }

-- an empty text has no arguments
pub no_arguments : (text : Text) (line : List Text) → length text ≡ 0 → line ≡ codes "csvtable" ∷ [] → IsCommandLine text line
no_arguments text line none is = record { arguments = []; after_name = is; hold_no_end = All-nil (HasNo 0); are_all = ap closed (sym (nil_from_length text none)) }

-- a zero byte at the end is the last byte
last-ended : (front : Text) → get_or (ended front) (length (ended front) - 1) 0 ≡ 0
last-ended front = get_or_push front 0 0 _ (omega (arith, length-append front (0 ∷ [])))

-- a text that a zero byte ends is closed
pub closed-ended : (front : Text) → closed (ended front) ≡ ended front
closed-ended front = ap (λ byte. cond (byte == 0) (ended front) (ended (ended front))) (last-ended front)

-- the text before the last byte, and that byte
front_and_last : (text : Text) → 0 < length text → text ≡ take (length text - 1) text ++ get_or text (length text - 1) 0 ∷ []
front_and_last text some =
    let all : length text - 1 + 1 ≡ length text = omega arith in
    sym (take-length text) ∙ ap (λ n. take n text) (sym all) ∙ take_more text (length text - 1) 0 (omega arith)

-- a text that isn't empty and has no zero byte at its end is closed with one
pub closed-open : (text : Text) → 0 < length text → ((front : Text) → text ≢ ended front) → ended text ≡ closed text
closed-open text some open_end = by_test (get_or text (length text - 1) 0 == 0) refl
  where
    by_test : (is : Bool) → (get_or text (length text - 1) 0 == 0) ≡ is → ended text ≡ closed text
    by_test true is = absurd (open_end (take (length text - 1) text) (front_and_last text some ∙ ap (λ byte. take (length text - 1) text ++ byte ∷ []) (eqb-true _ 0 is)))
    by_test false is = sym (ap (λ t. cond t text (ended text)) is)

-- a text without the zero byte at its end, if it has one
pub without_end : (text : Bor Text) (found : Option (Bor Text)) → MatchOption found ((front : Text) → text.now ≢ ended front) (λ front. text.now ≡ ended front.now)
    → 0 < length text.now → ended (unwrap_or found text).now ≡ closed text.now
without_end text None none some = closed-open text.now some none
without_end text (Some front) is some = sym (ap closed is ∙ closed-ended front.now)
