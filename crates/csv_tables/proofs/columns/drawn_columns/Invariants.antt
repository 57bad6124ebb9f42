use Rattle.std.proofs.Common.{◌≡◌, map, take}
use Rattle.csv_tables.specs.Columns.{drawn_columns, seen}
use Rattle.csv_tables.proofs.columns.drawn_columns.Given as goal

abbrev pub invariant-loop-position : goal.invariant-loop-position
invariant-loop-position l = l.drawn.items ≡ drawn_columns (record l.columns { drawn = take l.position-index l.position-items }) (map (seen l.has_sequences) l.rows)
