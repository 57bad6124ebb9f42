-- The encoding of an input, and the text of its bytes.
-- Source: the Unicode Standard for UTF-16, its mapping CP1252.TXT for Windows-1252.
use Rattle.std.specs.Prelude.{ℕ, ◌≡◌, ◌-◌, ◌%◌, ◌==◌, ◌&&◌, nat_le, nat_lt, List, [], ◌∷◌, ◌++◌, map, drop, length, Option, Some, None, IsUtf8, encode_utf8_all, is_some, if◌then◌else◌, slice_index}
use Rattle.std.specs.Char.Utf16.{utf16_chars}
use Rattle.std.specs.Int.{from_be_bytes, from_le_bytes, w16}
use Rattle.std.specs.Option.{unwrap_or}
use Rattle.comfy_parts.specs.Text.{Text}
use Rattle.csv_records.specs.Lines.{below_lines}
use Rattle.csv_records.specs.Input.{IsTextRefusal, line_number}
use Rattle.csv_records.specs.declared.encoding.ByteOrder.{ByteOrder}
use Rattle.csv_records.specs.declared.encoding.ByteOrder.TheVariants.{BigEndian, LittleEndian}
use Rattle.csv_records.specs.declared.encoding.Encoding.{Encoding}
use Rattle.csv_records.specs.declared.encoding.Encoding.TheVariants.{Cp1252, Utf16, Utf8}
use Rattle.csv_records.specs.declared.error.DecodeError.{DecodeError}
use Rattle.csv_records.specs.declared.error.DecodeError.TheVariants.{NotUtf16, OutOfMemory}

-- ---- which encoding

-- the order of a unit's two bytes, if the input begins with a byte-order mark of UTF-16
abbrev pub marked_order : Text → Option ByteOrder
marked_order [] = None
marked_order (a ∷ []) = None
marked_order (a ∷ b ∷ rest) =
    if (a == 0xFF) && (b == 0xFE) then Some LittleEndian
    else if (a == 0xFE) && (b == 0xFF) then Some BigEndian
    else None

-- the encoding that is set, or else UTF-16 after a byte-order mark of UTF-16, or else UTF-8
abbrev pub encoding_of : Option Encoding → Text → Encoding
encoding_of (Some encoding) input = encoding
encoding_of None input = if is_some (marked_order input) then Utf16 else Utf8

-- ---- Windows-1252

-- the characters for the bytes from 0x80 to 0x9F; U+FFFD for the five bytes that are undefined
abbrev pub cp1252_from_80 : List ℕ
cp1252_from_80 =
    0x20AC ∷ 0xFFFD ∷ 0x201A ∷ 0x0192 ∷ 0x201E ∷ 0x2026 ∷ 0x2020 ∷ 0x2021
    ∷ 0x02C6 ∷ 0x2030 ∷ 0x0160 ∷ 0x2039 ∷ 0x0152 ∷ 0xFFFD ∷ 0x017D ∷ 0xFFFD
    ∷ 0xFFFD ∷ 0x2018 ∷ 0x2019 ∷ 0x201C ∷ 0x201D ∷ 0x2022 ∷ 0x2013 ∷ 0x2014
    ∷ 0x02DC ∷ 0x2122 ∷ 0x0161 ∷ 0x203A ∷ 0x0153 ∷ 0xFFFD ∷ 0x017E ∷ 0x0178 ∷ []

-- the character for a byte
abbrev pub cp1252_character : ℕ → ℕ
cp1252_character b =
    if nat_le 0x80 b && nat_lt b 0xA0 then slice_index cp1252_from_80 (b - 0x80) else b

abbrev pub cp1252_text : Text → Text
cp1252_text input = encode_utf8_all (map cp1252_character input)

-- ---- UTF-16

-- the order of a unit's bytes: without a mark the low byte is first
abbrev pub order_of : Text → ByteOrder
order_of input = unwrap_or (marked_order input) LittleEndian

-- the input without its mark
abbrev pub without_utf16_mark : Text → Text
without_utf16_mark input = if is_some (marked_order input) then drop 2 input else input

abbrev pub unit : ByteOrder → ℕ → ℕ → ℕ
unit LittleEndian a b = from_le_bytes w16 (a ∷ b ∷ [])
unit BigEndian a b = from_be_bytes w16 (a ∷ b ∷ [])

-- the units of bytes; an odd byte at the end is in none
abbrev pub units : ByteOrder → Text → List ℕ
units order [] = []
units order (a ∷ []) = []
units order (a ∷ b ∷ rest) = unit order a b ∷ units order rest

-- a list with `None` for an odd byte at the end, or an empty list if there is none
abbrev pub odd_byte : Text → List (Option ℕ)
odd_byte bytes = if length bytes % 2 == 0 then [] else None ∷ []

-- the characters below the first `skip` lines of these bytes, with `None` for each surrogate
-- without a partner and for an odd byte. Line ends are units, as they are bytes in other encodings.
abbrev pub characters_in : ByteOrder → ℕ → Text → List (Option ℕ)
characters_in order skip bytes =
    utf16_chars (below_lines skip (units order bytes)) ++ odd_byte bytes

-- the characters of an input in UTF-16 below its first `skip` lines
abbrev pub utf16_characters : ℕ → Text → List (Option ℕ)
utf16_characters skip input = characters_in (order_of input) skip (without_utf16_mark input)

module _ (read : List (Option ℕ)) where
  -- all that was read are characters, and `text` is their UTF-8
  pub record AreCharactersOf (text : Text) : Type 0 where
    pub characters : List ℕ
    pub are_all : read ≡ map Some characters
    pub spell : text ≡ encode_utf8_all characters

  -- the first unpaired surrogate or odd byte is in this line; `above` lines were left out
  pub record IsFirstUnpaired (above : ℕ) (line : ℕ) : Type 0 where
    pub before : List ℕ
    pub after : List (Option ℕ)
    pub first : read ≡ map Some before ++ (None ∷ after)
    pub numbered : line ≡ line_number above (encode_utf8_all before)

  -- the error for bytes without a text: an unpaired surrogate or odd byte, or no memory
  abbrev pub IsUtf16Refusal : ℕ → DecodeError → Type 0
  IsUtf16Refusal above (NotUtf16 line) = IsFirstUnpaired above line
  IsUtf16Refusal above OutOfMemory = Unit {0}
  IsUtf16Refusal above _ = ⊥

-- ---- the text of an input

-- `text` is the text of an input in an encoding, below its first `skip` lines. These lines may be
-- in another encoding.
abbrev pub IsDecoded : Encoding → ℕ → Text → Text → Type 0
IsDecoded Utf8 skip input text =
    IsUtf8 (below_lines skip input) × (text ≡ below_lines skip input)
IsDecoded Cp1252 skip input text = text ≡ cp1252_text (below_lines skip input)
IsDecoded Utf16 skip input text = AreCharactersOf (utf16_characters skip input) text

-- the error for an input that has no text in this encoding below its first `skip` lines
abbrev pub IsRefusedIn : Encoding → ℕ → Text → DecodeError → Type 0
IsRefusedIn Utf8 skip input e = IsTextRefusal skip (below_lines skip input) e
IsRefusedIn Cp1252 skip input e = e ≡ OutOfMemory
IsRefusedIn Utf16 skip input e = IsUtf16Refusal (utf16_characters skip input) skip e

-- ---- laws
