-- The number of records below the header.
use Rattle.std.proofs.Common.{◌≡◌, ◌-◌, Bool, true, false, List, [], ◌∷◌, arith, length}
use Rattle.std.specs.Prelude.{if◌then◌else◌}
use Rattle.comfy_parts.specs.Text.{Text}
use Rattle.csv_tables.specs.Drawn.{count_below, records_below}
use Rattle.csv_tables.specs.declared.selection.Selection.{Selection}

-- the number of records below the header
pub below_header : (selection : Selection) (all : List (List Text)) → length all - (if selection.has_header then 1 else 0) ≡ count_below selection all
below_header selection all = by_header selection.has_header all
  where
    by_header : (h : Bool) (all : List (List Text)) → length all - (if h then 1 else 0) ≡ length (records_below h all)
    by_header false all = omega arith
    by_header true [] = omega arith
    by_header true (r ∷ all) = omega arith
