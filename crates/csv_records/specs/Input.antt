-- The text of an input, its records, and the errors if it has none.
-- Source: this library's own; RFC 4180, as the crate csv reads it, for records.
use Rattle.std.specs.Prelude.{ℕ, ◌≡◌, ◌+◌, ◌-◌, ◌^◌, ◌≤◌, ◌==◌, ◌&&◌, ◌||◌, min, nat_lt, not, Bool, false, List, [], ◌∷◌, Some, All, IsUtf8, take, if◌then◌else◌}
use Rattle.std.specs.List.{list_all}
use Rattle.std.specs.Str.Lossy.{utf8_valid_len}
use Rattle.comfy_parts.specs.Text.{Text}
use Rattle.csv.specs.Machine.{Read as FoundRecord, next_record}
use Rattle.csv.specs.Reading.{AreRecords, Reached, default_config, strip_bom}
use Rattle.csv.specs.Records.{AllText}
use Rattle.csv.specs.declared.parser.Config.{Config}
use Rattle.csv.specs.declared.parser.State.{State}
use Rattle.csv.specs.declared.parser.State.TheVariants as st
use Rattle.csv_records.specs.declared.error.DecodeError.{DecodeError}
use Rattle.csv_records.specs.declared.error.DecodeError.TheVariants.{NotUtf8}
use Rattle.csv_records.specs.declared.error.RecordsError.{RecordsError}
use Rattle.csv_records.specs.declared.error.RecordsError.TheVariants.{OutOfMemory, SplitCharacter}

-- ---- text

-- true if a byte breaks a line: a carriage return, or a line feed that doesn't follow one
abbrev pub breaks_line : Bool → ℕ → Bool
breaks_line after_return b = (b == 0x0D) || ((b == 0x0A) && not after_return)

-- the number of line breaks in a text; `after_return` is true if it follows a carriage return
abbrev pub line_breaks_after : Bool → Text → ℕ
line_breaks_after after_return [] = 0
line_breaks_after after_return (b ∷ bs) =
    (if breaks_line after_return b then 1 else 0) + line_breaks_after (b == 0x0D) bs

abbrev pub line_breaks : Text → ℕ
line_breaks text = line_breaks_after false text

-- the number of the line in which a text ends, below `above` other lines. Lines are counted from 1,
-- and up to the greatest `u64`.
abbrev pub line_number : ℕ → Text → ℕ
line_number above text = min (above + (line_breaks text + 1)) (2 ^ 64 - 1)

-- true for the bytes that Windows-1252 leaves undefined
abbrev pub is_open_in_cp1252 : ℕ → Bool
is_open_in_cp1252 b =
    (((b == 0x81) || (b == 0x8D)) || ((b == 0x8F) || (b == 0x90))) || (b == 0x9D)

-- the control characters of ASCII other than TAB, line feed, form feed and carriage return
abbrev pub is_stray_control : ℕ → Bool
is_stray_control b =
    (nat_lt b 0x20 && not (((b == 0x09) || (b == 0x0A)) || ((b == 0x0C) || (b == 0x0D))))
    || (b == 0x7F)

-- true if each byte can be in a text in Windows-1252
abbrev pub is_like_cp1252 : Text → Bool
is_like_cp1252 bytes = list_all (λ b. not (is_stray_control b || is_open_in_cp1252 b)) bytes

-- Bytes below `above` lines aren't UTF-8, and the first wrong byte is in this line. `may_be` is
-- true if they can be Windows-1252.
pub record IsFirstUnread (above : ℕ) (bytes : Text) (line : ℕ) (may_be : Bool) : Type 0 where
  pub no_text : ¬ (IsUtf8 bytes)
  pub numbered : line ≡ line_number above (take (utf8_valid_len bytes) bytes)
  pub looks : may_be ≡ is_like_cp1252 bytes

-- the error for bytes that aren't UTF-8, below `above` lines
abbrev pub IsTextRefusal : ℕ → Text → DecodeError → Type 0
IsTextRefusal above bytes (NotUtf8 line may_be) = IsFirstUnread above bytes line may_be
IsTextRefusal above bytes _ = ⊥

-- ---- records

-- Records are read as csv reads them by default, but with this delimiter. Without quotes, a quote
-- is an ordinary character.
abbrev pub config_for : ℕ → Bool → Config
config_for delimiter has_quotes =
    record default_config { delimiter = delimiter; quoting = has_quotes }

-- `records` are the records of an input, and each is UTF-8
pub record AreRecordsOf (delimiter : ℕ) (has_quotes : Bool) (input : Text)
    (records : List (List Text)) : Type 0 where
  pub all : AreRecords (config_for delimiter has_quotes) st.StartRecord (strip_bom input) records
  pub are_text : All AllText records

-- the delimiter isn't ASCII, and after some records of UTF-8 comes one that isn't UTF-8
pub record SplitsCharacter (delimiter : ℕ) (has_quotes : Bool) (input : Text) : Type 0 where
  pub no_ascii : 128 ≤ delimiter
  pub before : List (List Text)
  pub state : State
  pub rest : Text
  pub reached :
      Reached (config_for delimiter has_quotes) st.StartRecord (strip_bom input) before state rest
  pub are_text : All AllText before
  pub next : FoundRecord
  pub is_next : next_record (config_for delimiter has_quotes) state [] [] rest ≡ Some next
  pub is_no_text : ¬ (AllText next.0)

-- the error for a text without records: the delimiter splits a character, or there is no memory
abbrev pub IsReadingRefusal : ℕ → Bool → Text → RecordsError → Type 0
IsReadingRefusal delimiter has_quotes input SplitCharacter =
    SplitsCharacter delimiter has_quotes input
IsReadingRefusal delimiter has_quotes input OutOfMemory = Unit {0}
IsReadingRefusal delimiter has_quotes input _ = ⊥
