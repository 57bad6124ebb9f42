-- Columns whose fields are numbers.
-- Source: this library's own.
use Rattle.std.specs.Prelude.{Bool, true, false, List, if◌then◌else◌}
use Rattle.std.specs.List.{list_any}
use Rattle.comfy_parts.specs.Text.{Text}
use Rattle.csv_records.specs.Number.{is_neutral, is_number}
use Rattle.csv_tables.specs.declared.summary.FieldKind.{FieldKind}
use Rattle.csv_tables.specs.declared.summary.FieldKind.TheVariants.{Number, Neutral, Other}

-- the kind of a field; a number that is also neutral is a number
abbrev pub kind_of : Text → FieldKind
kind_of field = if is_number field then Number else if is_neutral field then Neutral else Other

abbrev pub is_number_kind : FieldKind → Bool
is_number_kind Number = true
is_number_kind Neutral = false
is_number_kind Other = false

abbrev pub is_other_kind : FieldKind → Bool
is_other_kind Number = false
is_other_kind Neutral = false
is_other_kind Other = true

-- the kind of two fields of one column together
abbrev pub joined_kind : FieldKind → FieldKind → FieldKind
joined_kind Neutral kind = kind
joined_kind Number kind = if is_other_kind kind then Other else Number
joined_kind Other kind = Other

-- the kind of all fields of a column together
abbrev pub column_kind : List Text → FieldKind
column_kind fields =
    if list_any (λ field. is_other_kind (kind_of field)) fields then Other
    else if list_any (λ field. is_number_kind (kind_of field)) fields then Number else Neutral
