-- Texts for messages.
-- Source: this library's own.
use Rattle.std.specs.Prelude.{ℕ, Bool, ◌==◌, ◌&&◌, chars, map, if◌then◌else◌}
use Rattle.std.specs.Str.{encode_utf8_all}
use Rattle.comfy_parts.specs.Text.{Text}
use Rattle.csv_records.specs.Cleaning.{shown}

-- a character as it is written in a message. U+FFFD replaces a control character, and a character
-- that turns the direction of text. A line feed is kept if `keeps_breaks` is true.
abbrev pub shown_in : Bool → ℕ → ℕ
shown_in keeps_breaks c = if keeps_breaks && (c == 0x0A) then c else shown c

abbrev pub shown_text : Bool → Text → Text
shown_text keeps_breaks text = encode_utf8_all (map (shown_in keeps_breaks) (chars text))
