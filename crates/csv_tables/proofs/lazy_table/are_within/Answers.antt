use Rattle.std.proofs.Common.{◌≡◌, ◌<◌, ◌≤◌, Some, ap, arith, length, refl, slice_get, slice_index_or}
use Rattle.std.proofs.lemmas.Option.{slice_get_read, slice_get_within}
use Rattle.comfy_parts.specs.CellValue.{ColumnInfo}
use Rattle.csv_tables.proofs.FlatLemmas.{one_more}
use Rattle.csv_tables.proofs.lazy_table.are_within.Goals as goal

pub loop-position-preserved : goal.loop-position-preserved
loop-position-preserved c =
    let widths = c.args.widths.now in
    let infos = c.args.infos.now in
    let k = c.loop-position.position in
    let info = c.index-infos-position.result in
    let at : slice_get infos k ≡ Some info = slice_get_read infos (length infos) k info refl c.loop-position-test.true c.index-infos-position.is in
    let width : c.unwrap_or-width.result ≡ slice_index_or widths k 0 = grind arith in
    let content = ap (λ (info : ColumnInfo). info.content_width) c.info.view_is in
    one_more (λ i info. (slice_index_or widths i 0 ≤ info.content_width) × (slice_index_or widths i 0 < 65535)) infos k info at
    (omega (arith, width, content, c.if-width-info.false), omega (arith, width, c.if-width-ge65535.false))
    c.loop-position.invariant

pub returns : goal.returns
returns c = λ _ i info is.
    let within = slice_get_within c.args.infos.now i info is in
    c.loop-position.invariant i info (omega (arith, within, c.loop-position-test.false)) is
