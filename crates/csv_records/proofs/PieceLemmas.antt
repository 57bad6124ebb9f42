-- The piece at the front of a text: a character, or an SGR sequence, which is the same in bytes and in characters.
use Rattle.std.proofs.Common.{◌≡◌, ◌⊎◌, inl, inr, ◌<◌, ◌+◌, ℕ, Bool, true, false, [], ◌∷◌, ◌++◌, chars, encode_utf8, encode_utf8_all, length, map, take, drop, sym, ap, ap₂, ◌∙◌, arith, tests, append_assoc, length-append}
use Rattle.std.proofs.lemmas.Bool.{and_parts}
use Rattle.std.proofs.lemmas.List.{take-append-le, take_all}
use Rattle.std.proofs.lemmas.Str.{IsAscii-append, IsUtf8-from_ascii, chars-IsAscii, chars-append, chars_past_char, encodes-IsAscii, encodes-append, encodes-chars}
use Rattle.std.proofs.lemmas.Str.Ascii.{IsAscii-cons, IsAscii-nil}
use Rattle.std.specs.List.{list_all}
use Rattle.std.specs.Prelude.{if◌then◌else◌}
use Rattle.std.specs.Str.{IsAscii, IsUtf8}
use Rattle.comfy_parts.proofs.CallerLemmas.{BeginsWithSequence, begins_with_sequence, front_of, parts-sequence, parts-visible, past_sequence, sequence_len-sequence}
use Rattle.comfy_parts.specs.Cursor.{sequence_part, visible_part}
use Rattle.comfy_parts.specs.Text.{Text}
use Rattle.comfy_parts.specs.VisibleText.{is_parameter, parameter_count, parts, sequence_len}
use Rattle.csv_records.specs.Cleaning.{pieces}

parameter_below : (c : ℕ) → is_parameter c ≡ true → c < 128
parameter_below c is = grind (arith, tests)

code-IsAscii : (code : Text) → list_all is_parameter code ≡ true → IsAscii code
code-IsAscii [] all = IsAscii-nil
code-IsAscii (c ∷ cs) all =
    let both = and_parts (is_parameter c) (list_all is_parameter cs) all in
    IsAscii-cons c cs (parameter_below c both.0) (code-IsAscii cs both.1)

-- the sequence with these parameters
abbrev pub sequence_of : Text → Text
sequence_of code = 0x1B ∷ 0x5B ∷ (code ++ (0x6D ∷ []))

pub sequence-IsAscii : (code : Text) → list_all is_parameter code ≡ true → IsAscii (sequence_of code)
sequence-IsAscii code all =
    IsAscii-cons 0x1B (0x5B ∷ (code ++ (0x6D ∷ []))) (omega arith)
    (IsAscii-cons 0x5B (code ++ (0x6D ∷ [])) (omega arith)
    (IsAscii-append code (0x6D ∷ []) (code-IsAscii code all) (IsAscii-cons 0x6D [] (omega arith) IsAscii-nil)))

-- the text after a sequence, separated from it
pub apart : (code rest : Text) → 0x1B ∷ 0x5B ∷ (code ++ (0x6D ∷ rest)) ≡ sequence_of code ++ rest
apart code rest = ap (λ (xs : Text). 0x1B ∷ 0x5B ∷ xs) (sym (append_assoc code (0x6D ∷ []) rest))

-- a sequence at the front is the first part
sequence_first : (text : Text) → IsUtf8 text → 0 < sequence_len text
    → parts (chars text) ≡ sequence_part (take (sequence_len text) text) ∷ parts (chars (drop (sequence_len text) text))
sequence_first text utf8 some = by_front (front_of text)
  where
    by_front : BeginsWithSequence text ⊎ (begins_with_sequence text ≡ false)
        → parts (chars text) ≡ sequence_part (take (sequence_len text) text) ∷ parts (chars (drop (sequence_len text) text))
    by_front (inr free) = absurd (let none = ap (λ b. if b then parameter_count text + 3 else 0) free in omega (arith, none, some))
    by_front (inl s) =
        let front = sequence_of s.code in
        let ascii = sequence-IsAscii s.code s.parameters in
        let is : text ≡ front ++ s.rest = s.is ∙ apart s.code s.rest in
        let len : sequence_len text ≡ length s.code + 3 = ap sequence_len s.is ∙ sequence_len-sequence s.code s.rest s.parameters ∙ omega arith in
        let whole : sequence_len text ≡ length front = omega (arith, len, length-append s.code (0x6D ∷ [])) in
        let taken : take (sequence_len text) text ≡ front =
        ap₂ take whole is ∙ take-append-le (length front) front s.rest (omega arith) ∙ take_all (length front) front (omega arith) in
        let found : chars text ≡ 0x1B ∷ 0x5B ∷ (s.code ++ (0x6D ∷ chars s.rest)) =
        ap chars is ∙ chars-append front s.rest (IsUtf8-from_ascii front ascii) ∙ ap (λ (xs : Text). xs ++ chars s.rest) (chars-IsAscii front ascii) ∙ sym (apart s.code (chars s.rest)) in
        ap parts found
        ∙ parts-sequence s.code (chars s.rest) s.parameters
        ∙ ap₂ (λ (xs ys : Text). sequence_part xs ∷ parts (chars ys)) (sym taken) (sym (past_sequence text s (sequence_len text) len))

-- if the bytes don't begin with a sequence, neither do the characters
none_among_characters : (text : Text) → IsUtf8 text → sequence_len text ≡ 0 → begins_with_sequence (chars text) ≡ false
none_among_characters text utf8 none = by_front (front_of (chars text))
  where
    by_front : BeginsWithSequence (chars text) ⊎ (begins_with_sequence (chars text) ≡ false) → begins_with_sequence (chars text) ≡ false
    by_front (inr free) = free
    by_front (inl s) =
        let front = sequence_of s.code in
        let bytes : text ≡ 0x1B ∷ 0x5B ∷ (s.code ++ (0x6D ∷ encode_utf8_all s.rest)) =
        sym (encodes-chars text utf8) ∙ ap encode_utf8_all (s.is ∙ apart s.code s.rest) ∙ encodes-append front s.rest
        ∙ ap (λ (xs : Text). xs ++ encode_utf8_all s.rest) (encodes-IsAscii front (sequence-IsAscii s.code s.parameters)) ∙ sym (apart s.code (encode_utf8_all s.rest)) in
        let len = ap sequence_len bytes ∙ sequence_len-sequence s.code (encode_utf8_all s.rest) s.parameters in
        absurd (omega (arith, len, none))

-- otherwise a character is the first part
character_first : (text rest : Text) (c : ℕ) → IsUtf8 text → sequence_len text ≡ 0 → text ≡ encode_utf8 c ++ rest → parts (chars text) ≡ visible_part c ∷ parts (chars rest)
character_first text rest c utf8 none is =
    let found = chars_past_char text rest c utf8 is in
    ap parts found ∙ parts-visible c (chars rest) (ap begins_with_sequence (sym found) ∙ none_among_characters text utf8 none)

-- ---- the first piece

pub pieces-sequence : (keeps : Bool) (text : Text) (n : ℕ) → IsUtf8 text → n ≡ (if keeps then sequence_len text else 0) → 0 < n
    → pieces keeps (chars text) ≡ sequence_part (take n text) ∷ pieces keeps (chars (drop n text))
pieces-sequence true text n utf8 is some = rw is (sequence_first text utf8 (omega (arith, is, some)))
pieces-sequence false text n utf8 is some = absurd (omega (arith, is, some))

pub pieces-character : (keeps : Bool) (text rest : Text) (c n : ℕ) → IsUtf8 text → n ≡ (if keeps then sequence_len text else 0) → n ≡ 0 → text ≡ encode_utf8 c ++ rest
    → pieces keeps (chars text) ≡ visible_part c ∷ pieces keeps (chars rest)
pieces-character true text rest c n utf8 is none front = character_first text rest c utf8 (sym is ∙ none) front
pieces-character false text rest c n utf8 is none front = ap (map visible_part) (chars_past_char text rest c utf8 front)
