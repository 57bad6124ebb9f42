-- Cells and rows of small values, and the order of values.
use Rattle.std.proofs.Common.{◌≡◌, [], ◌∷◌, Some, true, false, refl}
use Rattle.std.specs.Prelude.{codes}
use Rattle.std.specs.Fmt.{digits}
use Rattle.comfy_parts.proofs.Computing.{wrapping}
use Rattle.comfy_parts.specs.CellValue.{number_cell, bool_cell, char_cell, plain_cell, plain_row, content_of, with_cell, with_max_height, new_column, saturated_padding, shown_among}
use Rattle.comfy_parts.specs.Comparisons.{ascends, attribute_cmp, color_cmp}
use Rattle.comfy_parts.specs.declared.style.attribute.Attribute.TheVariants as attribute
use Rattle.comfy_parts.specs.declared.style.color.Color.TheVariants as color
use Rattle.comfy_parts.specs.declared.style.column.ColumnConstraint.TheVariants.{ContentWidth, Hidden}
use Rattle.comfy_table.specs.TableValue.{constrained}

a_number : number_cell 1205 ≡ plain_cell (codes "1205")
unfolding digits
a_number = refl

a_truth_value : bool_cell false ≡ plain_cell (codes "false")
a_truth_value = refl

a_character : char_cell 0x2705 ≡ plain_cell (0xE2 ∷ 0x9C ∷ 0x85 ∷ [])
unfolding wrapping
a_character = refl

a_content : content_of (plain_cell (codes "a\n\nb")) ≡ codes "a\n\nb"
a_content = refl

a_row : with_max_height 0 (with_cell (bool_cell true) (plain_row [])) ≡ record { cells = plain_cell (codes "true") ∷ []; max_height = Some 1 }
a_row = refl

wide_padding : saturated_padding (record (new_column 0) { padding = (65535, 65535) }) ≡ 65535
wide_padding = refl

one_of_two : shown_among (record (new_column 0) { constraint = Some Hidden } ∷ new_column 1 ∷ []) ≡ 1
one_of_two = refl

-- constraints past the last column are ignored
further_constraints : constrained (Hidden ∷ ContentWidth ∷ []) (new_column 0 ∷ []) ≡ record (new_column 0) { constraint = Some Hidden } ∷ []
further_constraints = refl

-- columns past the last constraint keep theirs
further_columns : constrained (ContentWidth ∷ []) (new_column 0 ∷ record (new_column 1) { constraint = Some Hidden } ∷ []) ≡ record (new_column 0) { constraint = Some ContentWidth } ∷ record (new_column 1) { constraint = Some Hidden } ∷ []
further_columns = refl

-- ---- ascending values

least_first : ascends attribute_cmp (attribute.Bold ∷ attribute.Dim ∷ attribute.Italic ∷ []) ≡ true
least_first = refl

-- false: comfy_parts::laws::attributes_are_ordered
greater_first : ascends attribute_cmp (attribute.Bold ∷ attribute.Italic ∷ attribute.Dim ∷ []) ≡ false
greater_first = refl

-- equal values don't ascend
twice_the_same : ascends attribute_cmp (attribute.Bold ∷ attribute.Bold ∷ []) ≡ false
twice_the_same = refl

-- lists of fewer than two values ascend
one_ascends : ascends attribute_cmp (attribute.Dim ∷ []) ≡ true
one_ascends = refl

-- RGB colours ascend by the first part in which they differ
by_the_second_part : ascends color_cmp (color.Rgb 1 2 9 ∷ color.Rgb 1 3 0 ∷ []) ≡ true
by_the_second_part = refl

-- false: comfy_parts::laws::colors_are_ordered
greater_part_first : ascends color_cmp (color.Rgb 1 3 0 ∷ color.Rgb 1 2 9 ∷ []) ≡ false
greater_part_first = refl
