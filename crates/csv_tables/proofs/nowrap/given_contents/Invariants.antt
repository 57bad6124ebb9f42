use Rattle.std.proofs.Common.{◌≡◌, map}
use Rattle.std.specs.List.{range_with_len}
use Rattle.comfy_table.specs.TableValue.{TableValue}
use Rattle.csv_tables.specs.NoWrap.{Wanted, by_columns, min_width, reserved_width}
use Rattle.csv_tables.specs.declared.needs.Words.{Words}
use Rattle.csv_tables.proofs.nowrap.given_contents.Given as goal

abbrev pub invariant-loop-at : goal.invariant-loop-at
invariant-loop-at l =
    (words : Words) (table : TableValue) → let wanted : Wanted = record { nowrap = l.nowrap; words = words } in l.kept ≡ by_columns (min_width wanted table) table
    → l.given.items ≡ map (reserved_width l.level wanted table) (range_with_len 0 l.at)
