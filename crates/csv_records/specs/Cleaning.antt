-- Fields without control characters, and without characters that turn the direction of text.
-- Source: this library's own; UAX 9 for the directions of text.
use Rattle.std.specs.Prelude.{◌≡◌, ℕ, Bool, false, not, nat_lt, ◌%◌, ◌==◌, ◌&&◌, ◌||◌, [], ◌∷◌, ◌++◌, List, fold, map, chars, codes, encode_utf8, IsUtf8, if◌then◌else◌}
use Rattle.std.specs.Char.{is_control}
use Rattle.std.specs.Int.{is_in_range}
use Rattle.std.specs.List.{list_any}
use Rattle.comfy_parts.specs.Text.{Text, measure}
use Rattle.comfy_parts.specs.VisibleText.{Part, parts, visible_text}

-- the pieces of a field's characters: SGR sequences if they are kept, and single characters
abbrev pub pieces : Bool → List ℕ → List Part
pieces keeps_sequences cs =
    if keeps_sequences
    then parts cs
    else map (λ c. record { is_sequence = false; bytes = c ∷ [] }) cs

-- true if a character turns the direction of the text after it: it begins or ends an embedding, an
-- override or an isolate
abbrev pub turns_direction : ℕ → Bool
turns_direction c = is_in_range 0x202A 0x202E c || is_in_range 0x2066 0x2069 c

-- true if a character is replaced by U+FFFD when it is drawn
abbrev pub is_replaced : ℕ → Bool
is_replaced c = is_control c || turns_direction c

-- true if the UTF-8 of a replaced character can begin with this byte
abbrev pub may_begin_replaced : ℕ → Bool
may_begin_replaced byte =
    nat_lt byte 0x20 || ((byte == 0x7F) || ((byte == 0xC2) || (byte == 0xE2)))

-- a character as it is drawn, if it is no line break and no TAB
abbrev pub shown : ℕ → ℕ
shown c = if is_replaced c then 0xFFFD else c

-- the number of terminal columns between two tab stops
abbrev pub tab_width : ℕ
tab_width = 4

-- the spaces to the next tab stop from a terminal column, which is counted from the last tab stop
abbrev pub blanks_at : ℕ → Text
blanks_at column =
    if column == 0
    then codes "    "
    else if column == 1
    then codes "   "
    else if column == 2
    then codes "  "
    else codes " "

-- the spaces to the next tab stop after a text that begins at a tab stop
abbrev pub blanks_after : Text → Text
blanks_after seen = blanks_at (measure seen % tab_width)

-- The state while a field is cleaned. `text` is written so far. `seen` is the visible part of its
-- last line, after the last tab stop that a TAB reached. `after_return` is true if the last
-- character was a carriage return.
pub record CleanedText : Type 0 where
  pub text : Text
  pub seen : Text
  pub after_return : Bool

abbrev pub start : CleanedText
start = record { text = []; seen = []; after_return = false }

-- the state after one more character. A line break is written once for a carriage return with a
-- line feed. A TAB becomes spaces. Any other character is written as it is drawn.
abbrev pub after_character : CleanedText → ℕ → CleanedText
after_character s c =
    if (c == 0x0A) && s.after_return then record s { after_return = false }
    else if (c == 0x0A) || (c == 0x0D) then record {
      text = s.text ++ 0x0A ∷ [];
      seen = [];
      after_return = c == 0x0D;
    }
    else if c == 0x09 then record {
      text = s.text ++ blanks_after s.seen;
      seen = [];
      after_return = false;
    }
    else record {
      text = s.text ++ encode_utf8 (shown c);
      seen = s.seen ++ encode_utf8 (shown c);
      after_return = false;
    }

-- the state after one more piece: a sequence is written as it is, and isn't visible
abbrev pub after_piece : CleanedText → Part → CleanedText
after_piece s p =
    if p.is_sequence then record s { text = s.text ++ p.bytes; after_return = false }
    else fold after_character s p.bytes

-- a field as it is drawn
abbrev pub cleaned : Bool → Text → Text
cleaned keeps_sequences field =
    (fold after_piece start (pieces keeps_sequences (chars field))).text

-- the visible text: without sequences if they are kept
abbrev pub visible_of : Bool → Text → Text
visible_of keeps_sequences text = if keeps_sequences then visible_text text else text

-- true if a character mustn't be drawn: it is a replaced character other than a line feed
abbrev pub is_harmful : ℕ → Bool
is_harmful c = is_replaced c && not (c == 0x0A)

-- the only control characters visible in a cleaned field are line feeds, and no visible character
-- turns the direction of text
abbrev pub HoldsNoControls : Bool → Text → Type 0
HoldsNoControls keeps_sequences field =
    IsUtf8 field
    → list_any is_harmful (chars (visible_of keeps_sequences (cleaned keeps_sequences field)))
    ≡ false

-- a cleaned field that is cleaned once more stays as it is
abbrev pub IsCleanedOnce : Bool → Text → Type 0
IsCleanedOnce keeps_sequences field =
    IsUtf8 field
    → cleaned keeps_sequences (cleaned keeps_sequences field) ≡ cleaned keeps_sequences field
