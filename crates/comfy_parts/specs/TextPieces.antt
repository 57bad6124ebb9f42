-- Texts that come in pieces.
-- Source: this library's own.
use Rattle.std.specs.Prelude.{◌≡◌, ◌<◌, [], ◌++◌, Option, Some, None, String, length, string_bytes}
use Rattle.comfy_parts.specs.Text.{Text}

-- a call returns a piece that isn't empty and leaves the text after it, or `None` if nothing is
-- left
abbrev pub IsNextPiece : {A : Type 0} → Text → Text → Option (String A) → Type 0
IsNextPiece old new None = old ≡ []
IsNextPiece old new (Some piece) =
    (old ≡ string_bytes piece ++ new) × (0 < length (string_bytes piece))

-- the text that is still to come if it is in memory as one piece
abbrev pub text_left : {A : Type 0} → Option (String A) → Text
text_left None = []
text_left (Some text) = string_bytes text
