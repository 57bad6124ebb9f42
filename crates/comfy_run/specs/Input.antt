-- The table of an input text: a line for the header, a line for each row, and TABs between cells.
-- Source: this library's own.
use Rattle.std.specs.Prelude.{ℕ, List, [], ◌∷◌, Option, fold}
use Rattle.std.specs.Str.Lines.{lines}
use Rattle.comfy_parts.specs.Text.{Text}
use Rattle.comfy_parts.specs.declared.style.table.ContentArrangement.{ContentArrangement}
use Rattle.comfy_parts.specs.declared.style.table_style.TableStyle.{TableStyle}
use Rattle.comfy_table.specs.Headline.{TerminatesLines}
use Rattle.comfy_table.specs.TableValue.{TableValue, new_table, with_header, with_row}
use Rattle.comfy_run.specs.Rows.{row_of_line}

-- the table with a header made from the first line, and rows made from the others
abbrev pub table_of_lines : TableValue → List Text → TableValue
table_of_lines table [] = table
table_of_lines table (first ∷ others) =
    fold (λ (t : TableValue) (line : Text). with_row (row_of_line line) t)
    (with_header (row_of_line first) table) others

-- the table of an input with these settings; a carriage return before a line feed isn't part of a
-- line, and after a line feed at the end there is no further line
abbrev pub input_table : Option ℕ → ContentArrangement → TableStyle → Text → TableValue
input_table width arrangement style text =
    table_of_lines (record (new_table style) { set_width = width; arrangement = arrangement })
    (lines text)

-- the bytes that are written for an input are a drawing of its table (`IsTableDrawing`), with a
-- line feed after each line
abbrev pub RendersInput : Option ℕ → ContentArrangement → TableStyle → Text → Text → Type 0
RendersInput width arrangement style text output =
    TerminatesLines (input_table width arrangement style text) output
