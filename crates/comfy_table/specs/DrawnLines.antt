-- Private: the lines of a cell as they are drawn.
-- Source: this library's own.
use Rattle.std.specs.Prelude.{ℕ, List, [], ◌∷◌}
use Rattle.comfy_parts.specs.Text.{Text, measure}
use Rattle.comfy_parts.specs.VisibleLines.{CellLine}
use Rattle.comfy_table.specs.Lines.{as_measured}

-- a line of a cell as it is drawn: its terminal columns, and the text that is written
pub record DrawnLine : Type 0 where
  pub columns : ℕ
  pub written : Text

-- the drawn line of a line of a cell
abbrev pub drawn_line : CellLine → DrawnLine
drawn_line line = record { columns = measure line.measured; written = line.written }

-- the drawn line of a text that is written as it is measured
abbrev pub drawn_text : Text → DrawnLine
drawn_text line = drawn_line (as_measured line)

-- the lines, with these texts in place of the written texts of the first ones
abbrev pub with_texts : List DrawnLine → List Text → List DrawnLine
with_texts [] texts = []
with_texts (line ∷ lines) [] = line ∷ lines
with_texts (line ∷ lines) (text ∷ texts) =
    record { columns = line.columns; written = text } ∷ with_texts lines texts
