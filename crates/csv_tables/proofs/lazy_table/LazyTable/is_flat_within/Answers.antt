use Rattle.std.proofs.Common.{◌≤◌, ℕ, ap, arith, map, nat_lt, subst, sym, ◌∙◌}
use Rattle.std.specs.List.{list_any, slice_index_or}
use Rattle.comfy_table.specs.Pieces.{row_height}
use Rattle.comfy_table.specs.TableValue.{cell_content_width, with_other_rows}
use Rattle.csv_tables.proofs.ContentLemmas.{measured_alike, width_below}
use Rattle.csv_tables.proofs.FlatLemmas.{none_tall}
use Rattle.csv_tables.specs.Contents.{greatest_at, rows_from}
use Rattle.csv_tables.specs.LazyTableValue.{LazyTableValue}
use Rattle.csv_tables.specs.LazyRows.{AreWithin}
use Rattle.csv_tables.proofs.lazy_table.LazyTable.is_flat_within.Goals as goal

pub returns-then-self : goal.returns-then-self
returns-then-self c = λ is.
    let own = c.self.inside in
    let all = rows_from own.rows 0 own.rows.selected.rows in
    let table = with_other_rows all own.table in
    let infos = c.args.infos.now in
    let within : AreWithin own.widths.items infos = subst (λ widths. AreWithin widths infos) c.as_slice.ensures.value (c.are_within.ensures is) in
    let bound : (i : ℕ) → greatest_at table cell_content_width all i ≤ slice_index_or own.widths.items i 0 =
    λ i.
    let below = width_below own.table all i c.self.invariant.0 in
    let alike = measured_alike cell_content_width own.table all all i in
    let width = c.self.invariant.2 i in
    omega (arith, below, alike, width) in
    ap (λ (v : LazyTableValue). list_any (nat_lt 1) (map (row_height v.table infos) v.table.rows)) (sym c.self.view_is)
    ∙ none_tall table own.widths.items infos within all (c.self.invariant.3 c.if-self.true) bound
