-- The encoding and the text of inputs: examples of bytes.
use Rattle.std.proofs.Common.{◌≡◌, [], ◌∷◌, Some, None, map, refl}
use Rattle.std.specs.Char.Utf16.{utf16_chars}
use lib.Utf8.{encode}
use Rattle.comfy_parts.specs.Text.{Text}
use Rattle.csv_records.specs.Encoding.{IsFirstUnpaired, IsDecoded, cp1252_character, encoding_of, utf16_characters}
use Rattle.csv_records.specs.declared.encoding.Encoding.TheVariants.{Cp1252, Utf16, Utf8}

-- ---- which encoding

-- marks of either order, a mark of UTF-8, half a mark, a mark that isn't at the front, and nothing
found : map (encoding_of None) ((0xFF ∷ 0xFE ∷ 0x61 ∷ 0x00 ∷ []) ∷ (0xFE ∷ 0xFF ∷ []) ∷ (0xEF ∷ 0xBB ∷ 0xBF ∷ 0x61 ∷ []) ∷ (0xFF ∷ []) ∷ (0x61 ∷ 0xFF ∷ 0xFE ∷ []) ∷ [] ∷ [])
    ≡ Utf16 ∷ Utf16 ∷ Utf8 ∷ Utf8 ∷ Utf8 ∷ Utf8 ∷ []
found = refl

-- the encoding that is set is used, whatever mark there is
as_chosen : map (λ invocation. encoding_of (Some invocation) (0xFF ∷ 0xFE ∷ [])) (Utf8 ∷ Cp1252 ∷ Utf16 ∷ []) ≡ Utf8 ∷ Cp1252 ∷ Utf16 ∷ []
as_chosen = refl

-- ---- Windows-1252

-- a letter, the first and the last byte of the table, quotes, and bytes with the same number as their character
of_cp1252 : map cp1252_character (0x41 ∷ 0x7F ∷ 0x80 ∷ 0x8E ∷ 0x93 ∷ 0x94 ∷ 0x99 ∷ 0x9F ∷ 0xA0 ∷ 0xE9 ∷ 0xFF ∷ []) ≡ 0x41 ∷ 0x7F ∷ 0x20AC ∷ 0x017D ∷ 0x201C ∷ 0x201D ∷ 0x2122 ∷ 0x0178 ∷ 0xA0 ∷ 0xE9 ∷ 0xFF ∷ []
of_cp1252 = refl

-- the bytes that have no character
open_bytes : map cp1252_character (0x81 ∷ 0x8D ∷ 0x8F ∷ 0x90 ∷ 0x9D ∷ []) ≡ 0xFFFD ∷ 0xFFFD ∷ 0xFFFD ∷ 0xFFFD ∷ 0xFFFD ∷ []
open_bytes = refl

-- `é€` becomes UTF-8
text_of_cp1252 : IsDecoded Cp1252 0 (0xE9 ∷ 0x80 ∷ []) (0xC3 ∷ 0xA9 ∷ 0xE2 ∷ 0x82 ∷ 0xAC ∷ [])
unfolding encode
text_of_cp1252 = refl

-- ---- UTF-16

-- `a€` with a mark in either order, and without one: the mark isn't part of the text
abbrev euro : Text
euro = 0x61 ∷ 0xE2 ∷ 0x82 ∷ 0xAC ∷ []

little_endian : IsDecoded Utf16 0 (0xFF ∷ 0xFE ∷ 0x61 ∷ 0x00 ∷ 0xAC ∷ 0x20 ∷ []) euro
unfolding utf16_chars encode
little_endian = record { characters = 0x61 ∷ 0x20AC ∷ []; are_all = refl; spell = refl }

big_endian : IsDecoded Utf16 0 (0xFE ∷ 0xFF ∷ 0x00 ∷ 0x61 ∷ 0x20 ∷ 0xAC ∷ []) euro
unfolding utf16_chars encode
big_endian = record { characters = 0x61 ∷ 0x20AC ∷ []; are_all = refl; spell = refl }

without_mark : IsDecoded Utf16 0 (0x61 ∷ 0x00 ∷ 0xAC ∷ 0x20 ∷ []) euro
unfolding utf16_chars encode
without_mark = record { characters = 0x61 ∷ 0x20AC ∷ []; are_all = refl; spell = refl }

-- a mark alone is an empty text, and so is an empty input
mark_alone : map (utf16_characters 0) ((0xFF ∷ 0xFE ∷ []) ∷ (0xFE ∷ 0xFF ∷ []) ∷ [] ∷ []) ≡ [] ∷ [] ∷ [] ∷ []
unfolding utf16_chars
mark_alone = refl

-- a second mark is a character
second_mark : utf16_characters 0 (0xFF ∷ 0xFE ∷ 0xFF ∷ 0xFE ∷ []) ≡ Some 0xFEFF ∷ []
unfolding utf16_chars
second_mark = refl

-- two units of a pair are one character, U+1F600
pair : IsDecoded Utf16 0 (0x3D ∷ 0xD8 ∷ 0x00 ∷ 0xDE ∷ []) (0xF0 ∷ 0x9F ∷ 0x98 ∷ 0x80 ∷ [])
unfolding utf16_chars encode
pair = record { characters = 0x1F600 ∷ []; are_all = refl; spell = refl }

-- the second unit alone, the first one alone at the end, and before another character
unpaired : map (utf16_characters 0) ((0x00 ∷ 0xDE ∷ []) ∷ (0x61 ∷ 0x00 ∷ 0x3D ∷ 0xD8 ∷ []) ∷ (0x3D ∷ 0xD8 ∷ 0x61 ∷ 0x00 ∷ []) ∷ [])
    ≡ (None ∷ []) ∷ (Some 0x61 ∷ None ∷ []) ∷ (None ∷ Some 0x61 ∷ []) ∷ []
unfolding utf16_chars
unpaired = refl

-- an odd byte
odd : map (utf16_characters 0) ((0x61 ∷ []) ∷ (0xFF ∷ 0xFE ∷ 0x61 ∷ []) ∷ (0x61 ∷ 0x00 ∷ 0x62 ∷ []) ∷ []) ≡ (None ∷ []) ∷ (None ∷ []) ∷ (Some 0x61 ∷ None ∷ []) ∷ []
unfolding utf16_chars
odd = refl

-- a carriage return with a line feed is one break, and a line feed is another: the error is in line 3
third_line : IsFirstUnpaired (utf16_characters 0 (0x0D ∷ 0x00 ∷ 0x0A ∷ 0x00 ∷ 0x0A ∷ 0x00 ∷ 0x00 ∷ 0xDC ∷ 0x0A ∷ 0x00 ∷ [])) 0 3
unfolding utf16_chars encode
third_line = record { before = 0x0D ∷ 0x0A ∷ 0x0A ∷ []; after = Some 0x0A ∷ []; first = refl; numbered = refl }

-- U+0A0D has these bytes in one unit, and doesn't break a line
no_break : IsFirstUnpaired (utf16_characters 0 (0x0D ∷ 0x0A ∷ 0x61 ∷ [])) 0 1
unfolding utf16_chars encode
no_break = record { before = 0x0A0D ∷ []; after = []; first = refl; numbered = refl }

-- the text below one line, which has a surrogate without a partner and ends with a carriage return and a line feed;
-- U+0A0A doesn't end a line
below_a_line : map (utf16_characters 1) ((0x3D ∷ 0xD8 ∷ 0x0D ∷ 0x00 ∷ 0x0A ∷ 0x00 ∷ 0x62 ∷ 0x00 ∷ []) ∷ (0x0A ∷ 0x0A ∷ 0x0A ∷ 0x00 ∷ 0x62 ∷ 0x00 ∷ []) ∷ (0x61 ∷ 0x00 ∷ []) ∷ []) ≡ (Some 0x62 ∷ []) ∷ (Some 0x62 ∷ []) ∷ [] ∷ []
unfolding utf16_chars
below_a_line = refl

-- lines are counted from the start of the input
second_line : IsFirstUnpaired (utf16_characters 1 (0x0A ∷ 0x00 ∷ 0x00 ∷ 0xDC ∷ [])) 1 2
unfolding utf16_chars encode
second_line = record { before = []; after = []; first = refl; numbered = refl }

below_a_line_of_cp1252 : IsDecoded Cp1252 1 (0x81 ∷ 0x0A ∷ 0xE9 ∷ []) (0xC3 ∷ 0xA9 ∷ [])
unfolding encode
below_a_line_of_cp1252 = refl

-- ---- what laws refuse
