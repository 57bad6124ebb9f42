use Rattle.std.proofs.Common.{◌≡◌, flat_map, max}
use Rattle.comfy_table.specs.TableValue.{cell_content_width}
use Rattle.csv_tables.proofs.PairWidthLemmas.{most_fields}
use Rattle.csv_tables.specs.Contents.{greatest_at, pairs_by}
use Rattle.csv_tables.proofs.lazy_table.pair_widths.Given as goal

-- the longest record and the widest field so far, and those of the records that are left
abbrev pub invariant-loop-fields : goal.invariant-loop-fields
invariant-loop-fields l =
    (max l.longest (most_fields l.fields-iterator) ≡ most_fields l.initial.fields-iterator)
    × (max l.field (greatest_at l.table cell_content_width (flat_map (pairs_by l.rows) l.fields-iterator) 1)
    ≡ greatest_at l.table cell_content_width (flat_map (pairs_by l.rows) l.initial.fields-iterator) 1)
