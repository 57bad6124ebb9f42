-- The fields of a record.
-- Source: this library's own.
use Rattle.std.specs.Prelude.{ℕ, List, [], unwrap_or}
use Rattle.comfy_parts.specs.Text.{Text}
use Rattle.csv.specs.Records.{field_at}

-- a field of a record, or the empty text if it is missing
abbrev pub field_or_blank : List Text → ℕ → Text
field_or_blank fields position = unwrap_or (field_at fields position) []
