use Rattle.std.proofs.Common.{◌≡◌, ◌++◌, drop}
use Rattle.csv_records.specs.CutLists.{cut_by}
use Rattle.comfy_c.specs.Looks.{rows_by}
use Rattle.comfy_c.proofs.rows_looks.push_rows.Given as goal

-- the settings that are left to append
abbrev pub invariant-loop-at : goal.invariant-loop-at
invariant-loop-at l =
    l.initial.rows.items ++ rows_by (cut_by l.counts l.looks) l.heights ≡ l.rows.items ++ rows_by (cut_by (drop l.at l.counts) l.rest) (drop l.at l.heights)
