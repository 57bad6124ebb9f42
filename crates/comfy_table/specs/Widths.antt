-- The widths of columns: fixed widths, widths if no table width is known, and the needs of columns,
-- from which dynamic widths are found.
-- Source: arrangement: constraint, helper, disabled and even_widths of comfy-table 8.0.1.
use Rattle.std.specs.Prelude.{ℕ, ◌+◌, ◌-◌, ◌*◌, ◌/◌, ◌%◌, List, Option, Some, None, unwrap_or, option_map, map, length, nat_lt, nat_le, max, min, if◌then◌else◌}
use Rattle.std.specs.List.{range_with_len}
use Rattle.comfy_parts.specs.CellValue.{ColumnValue, column_padding}
use Rattle.comfy_parts.specs.declared.style.column.ColumnConstraint.{ColumnConstraint}
use Rattle.comfy_parts.specs.declared.style.column.ColumnConstraint.TheVariants.{ContentWidth, Absolute, LowerBoundary, UpperBoundary, Boundaries}
use Rattle.comfy_parts.specs.declared.style.column.Width.{Width}
use Rattle.comfy_parts.specs.declared.style.column.Width.TheVariants.{Fixed, Percentage}
use Rattle.comfy_table.specs.Frame.{border_count}
use Rattle.comfy_table.specs.Lines.{longest_line}
use Rattle.comfy_table.specs.TableValue.{TableValue, table_width, column_content_width, shown_columns}

-- the j-th of k even parts of x: x / k, and one more for the first x mod k parts
abbrev pub part_of : ℕ → ℕ → ℕ → ℕ
part_of x k j = x / k + (if nat_lt j (x % k) then 1 else 0)

-- x in k even parts
abbrev pub even_spread : ℕ → ℕ → List ℕ
even_spread x k = map (part_of x k) (range_with_len 0 k)

-- the number of shown columns
abbrev pub shown_count : TableValue → ℕ
shown_count table = length (shown_columns table)

-- p percent, at most 100, of the table's width less the border characters, rounded down
abbrev pub percentage_of : Option ℕ → ℕ → ℕ → Option ℕ
percentage_of None borders p = None
percentage_of (Some w) borders p = Some (min p 100 * (w - borders) / 100)

-- the terminal columns of a width in a table with n shown columns; a percentage needs a known table
-- width
abbrev pub resolved_width : TableValue → ℕ → Width → Option ℕ
resolved_width table n (Fixed x) = Some x
resolved_width table n (Percentage p) =
    percentage_of (table_width table) (border_count table.style n) p

-- the lower boundary that a constraint sets for the whole width, in terminal columns, if it has one
abbrev pub lower_boundary : TableValue → ℕ → Option ColumnConstraint → Option ℕ
lower_boundary table n (Some (LowerBoundary lower)) = resolved_width table n lower
lower_boundary table n (Some (Boundaries lower upper)) = resolved_width table n lower
lower_boundary table n _ = None

-- the upper boundary that a constraint sets for the whole width, in terminal columns, if it has one
abbrev pub upper_boundary : TableValue → ℕ → Option ColumnConstraint → Option ℕ
upper_boundary table n (Some (UpperBoundary upper)) = resolved_width table n upper
upper_boundary table n (Some (Boundaries lower upper)) = resolved_width table n upper
upper_boundary table n _ = None

-- the content width of a column whose whole width is x: x less the paddings, but at least 1
abbrev pub without_padding : ℕ → ℕ → ℕ
without_padding padding x = max 1 (x - padding)

-- a lower boundary decides the width at once if the content with its padding isn't wider
abbrev pub fixed_by_boundary : ℕ → ℕ → Option ℕ → Option ℕ
fixed_by_boundary content padding None = None
fixed_by_boundary content padding (Some l) =
    if nat_le (content + padding) l then Some (without_padding padding l) else None

-- the fixed width of a column, if it has one: the width of its content, its absolute width, or its
-- lower boundary
abbrev pub fixed_by_constraint : TableValue → ℕ → ℕ → ℕ → Option ColumnConstraint → Option ℕ
fixed_by_constraint table n content padding (Some ContentWidth) = Some (max 1 content)
fixed_by_constraint table n content padding (Some (Absolute x)) =
    option_map (without_padding padding) (resolved_width table n x)
fixed_by_constraint table n content padding constraint =
    fixed_by_boundary content padding (lower_boundary table n constraint)

-- the fixed width of a shown column, if it has one
abbrev pub fixed_width : TableValue → ℕ × ColumnValue → Option ℕ
fixed_width table p =
    fixed_by_constraint table (shown_count table) (column_content_width table p.0)
    (column_padding p.1) p.1.constraint

-- the upper boundary less the paddings, if the content alone is wider than the boundary; otherwise
-- the width of the content, at least 1
abbrev pub capped_content : ℕ → ℕ → Option ℕ → ℕ
capped_content content padding None = max 1 content
capped_content content padding (Some u) =
    if nat_lt u content then without_padding padding u else max 1 content

-- the width of a shown column, if it doesn't depend on other columns
abbrev pub disabled_width : TableValue → ℕ × ColumnValue → ℕ
disabled_width table p =
    unwrap_or (fixed_width table p)
    (capped_content (column_content_width table p.0) (column_padding p.1)
    (upper_boundary table (shown_count table) p.1.constraint))

-- the numbers that the dynamic width of a shown column depends on
pub record ColumnNeeds : Type 0 where
  -- the content of the column
  pub content : ℕ
  -- the left and the right padding together
  pub padding : ℕ
  -- the fixed width, the lower boundary and the upper boundary, if it has them
  pub fixed : Option ℕ
  pub lower : Option ℕ
  pub upper : Option ℕ
  -- the width of the longest line of its cells, wrapped at a width
  pub longest : ℕ → ℕ

-- the needs of a shown column
abbrev pub needs_of : TableValue → ℕ × ColumnValue → ColumnNeeds
needs_of table p =
    record {
      content = column_content_width table p.0;
      padding = column_padding p.1;
      fixed = fixed_width table p;
      lower = lower_boundary table (shown_count table) p.1.constraint;
      upper = upper_boundary table (shown_count table) p.1.constraint;
      longest = longest_line table p.0 p.1.delimiter;
    }

-- the needs of the shown columns, in list order
abbrev pub shown_needs : TableValue → List ColumnNeeds
shown_needs table = map (needs_of table) (shown_columns table)
