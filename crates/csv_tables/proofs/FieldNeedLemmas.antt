-- The fields of a column below its name, and their widths.
use Rattle.std.proofs.Common.{◌≡◌, ◌<◌, ◌≤◌, ℕ, Bool, true, false, List, [], ◌∷◌, ◌++◌, Option, Some, None, flat_map, filter_map, map, max, option_map, arith, ap, ◌∙◌}
use Rattle.std.specs.List.{cons_option, slice_get}
use Rattle.std.specs.Prelude.{if◌then◌else◌, option_to_list}
use Rattle.std.proofs.lemmas.Bool.{le-leb}
use Rattle.std.proofs.lemmas.List.{map-append}
use Rattle.comfy_parts.specs.CellValue.{CellValue, RowValue}
use Rattle.comfy_parts.specs.Text.{Text, greatest, measure}
use Rattle.comfy_parts.specs.Wrapping.{lines_of_text, wrapped}
use Rattle.comfy_table.proofs.ColumnCellLemmas.{greatest-append}
use Rattle.comfy_table.specs.Lines.{cell_delimiter, cell_lines, longest_line}
use Rattle.comfy_table.specs.TableValue.{TableValue, cell_content_width, column_content_width, visible_row}
use Rattle.csv_tables.specs.NoWrap.{fields_need}

-- ---- cells below a header

module _ (i : ℕ) (custom : Bool) (rows : List RowValue) where
  abbrev cells : List RowValue → List CellValue
  cells all = filter_map (λ (row : RowValue). slice_get row.cells i) all

  -- a value that more cells don't make smaller isn't smaller with a header
  below_header : (g : List CellValue → ℕ) → ((cell : CellValue) (more : List CellValue) → g more ≤ g (cell ∷ more)) → (header : Option RowValue)
      → g (cells (option_to_list (if custom then option_map visible_row None else None) ++ rows)) ≤ g (cells (option_to_list (if custom then option_map visible_row header else header) ++ rows))
  below_header g more header = by_style custom header
    where
      by_cell : (o : Option CellValue) → g (cells rows) ≤ g (cons_option o (cells rows))
      by_cell None = omega arith
      by_cell (Some cell) = more cell (cells rows)

      by_style : (c : Bool) (h : Option RowValue) → g (cells (option_to_list (if c then option_map visible_row None else None) ++ rows)) ≤ g (cells (option_to_list (if c then option_map visible_row h else h) ++ rows))
      by_style true None = omega arith
      by_style false None = omega arith
      by_style true (Some row) = by_cell (slice_get (visible_row row).cells i)
      by_style false (Some row) = by_cell (slice_get row.cells i)

-- the rows as they are measured
abbrev measured : TableValue → List RowValue
measured table = if table.custom_styling then map visible_row table.rows else table.rows

-- fields are at most as wide as the content
pub fields-within : (table : TableValue) (i : ℕ) → fields_need true table i ≤ column_content_width table i
fields-within table i = below_header i table.custom_styling (measured table) (λ (all : List CellValue). greatest (map cell_content_width all)) (λ cell more. omega arith) table.header

-- ---- lines that fit

-- a text line that fits a width stays as it is
pub stays_whole : (width delimiter : ℕ) (line : Text) → measure line ≤ width → lines_of_text width delimiter line ≡ line ∷ []
stays_whole width delimiter line short = ap (λ (b : Bool). if b then line ∷ [] else wrapped width delimiter line) (le-leb (measure line) width short)

-- the greatest value over concatenated parts
parts : {X : Type 0} (f : Text → ℕ) (g : X → List Text) (x : X) (xs : List X) → greatest (map f (flat_map g (x ∷ xs))) ≡ max (greatest (map f (g x))) (greatest (map f (flat_map g xs)))
parts f g x xs = ap greatest (map-append f (g x) (flat_map g xs)) ∙ greatest-append (map f (g x)) (map f (flat_map g xs))

module _ (table : TableValue) (delimiter : Option ℕ) (n : ℕ) where
  lines-long : (d : ℕ) (lines : List Text) → greatest (map measure lines) ≤ n → greatest (map measure lines) ≤ greatest (map measure (flat_map (lines_of_text n d) lines))
  lines-long d [] short = omega arith
  lines-long d (line ∷ lines) short =
      let own : greatest (map measure (lines_of_text n d line)) ≡ greatest (measure line ∷ []) = ap (λ (ls : List Text). greatest (map measure ls)) (stays_whole n d line (omega (arith, short))) in
      let more = lines-long d lines (omega (arith, short)) in
      omega (arith, own, more, parts measure (lines_of_text n d) line lines)

  abbrev lines_of : CellValue → List Text
  lines_of cell = cell_lines n (cell_delimiter table delimiter cell) cell

  cells-long : (cells : List CellValue) → greatest (map cell_content_width cells) < 65535 → greatest (map cell_content_width cells) ≤ n → greatest (map cell_content_width cells) ≤ max 1 (greatest (map measure (flat_map lines_of cells)))
  cells-long [] small short = omega arith
  cells-long (cell ∷ cells) small short =
      let own = lines-long (cell_delimiter table delimiter cell) cell.text_lines (omega (arith, small, short)) in
      let more = cells-long cells (omega (arith, small)) (omega (arith, short)) in
      omega (arith, own, more, small, parts measure lines_of cell cells)

-- the longest line of a column is at least as wide as its fields
pub fields-longest : (table : TableValue) (i : ℕ) (delimiter : Option ℕ) (n : ℕ) → fields_need true table i < 65535 → fields_need true table i ≤ n → fields_need true table i ≤ max 1 (longest_line table i delimiter n)
fields-longest table i delimiter n small short =
    let lines : CellValue → List Text = λ (cell : CellValue). cell_lines n (cell_delimiter table delimiter cell) cell in
    let own = cells-long table delimiter n (filter_map (λ (row : RowValue). slice_get row.cells i) (option_to_list (if table.custom_styling then option_map visible_row None else None) ++ measured table)) small short in
    let more = below_header i table.custom_styling (measured table) (λ (all : List CellValue). greatest (map measure (flat_map lines all))) (λ cell rest. omega (arith, parts measure lines cell rest)) table.header in
    omega (arith, own, more)
