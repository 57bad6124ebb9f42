-- The characters of messages.
-- Source: this library's own.
use Rattle.std.specs.Prelude.{◌≡◌, ◌||◌, ◌++◌, codes}
use Rattle.std.specs.Char.{is_control}
use Rattle.std.specs.Str.{NoCharPasses}
use Rattle.comfy_parts.specs.Text.{Text}
use Rattle.csv_records.specs.Cleaning.{turns_direction}

-- no character of a text is a control character, and none turns the direction of text
abbrev pub IsTame : Text → Type 0
IsTame text = NoCharPasses (λ c. is_control c || turns_direction c) text

-- a text is one line of such characters, and a line feed
abbrev pub IsTameLine : Text → Type 0
IsTameLine text = (line : Text) × (text ≡ line ++ codes "\n") × IsTame line
