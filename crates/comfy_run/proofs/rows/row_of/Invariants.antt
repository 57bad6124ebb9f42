use Rattle.std.proofs.Common.{◌≡◌, ◌++◌, length}
use denote.Text.{Utf8}
use denote.Shadow.{shadow}
use Rattle.comfy_run.specs.Rows.{cells_of_line, row_of_line}
use Rattle.comfy_run.proofs.rows.row_of.Given as goal

abbrev pub invariant-loop-row : goal.invariant-loop-row
invariant-loop-row l =
    record {
      utf8 : shadow (Utf8 l.rest);
      cells : record l.row { cells = l.row.cells ++ cells_of_line l.rest } ≡ row_of_line l.line;
    }

abbrev pub decreases-loop-row : goal.decreases-loop-row
decreases-loop-row l = length l.rest
