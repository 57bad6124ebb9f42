use Rattle.std.proofs.Common.{ℕ, not, arith, append-nil}
use Rattle.std.proofs.lemmas.List.{map-id}
use Rattle.comfy_parts.specs.CellValue.{ColumnInfo}
use Rattle.comfy_parts.proofs.CallerLemmas.{filtered_all, filtered_more}
use Rattle.comfy_table.specs.Pieces.{shown_infos}
use Rattle.comfy_table.proofs.utils.formatting.shown_column.shown_infos.Goals as goal

pub loop-position-preserved-then-is_hidden : goal.loop-position-preserved-then-is_hidden
loop-position-preserved-then-is_hidden c =
    let more = filtered_more (λ (p : ℕ × ColumnInfo). p) (λ p. not p.1.is_hidden) c.args.infos.now c.loop-position.position c.index-infos-position.result c.loop-position-test.true c.index-infos-position.is in
    grind (arith, more, append-nil)

pub loop-position-preserved : goal.loop-position-preserved
loop-position-preserved c =
    let more = filtered_more (λ (p : ℕ × ColumnInfo). p) (λ p. not p.1.is_hidden) c.args.infos.now c.loop-position.position c.index-infos-position.result c.loop-position-test.true c.index-infos-position.is in
    grind (arith, more)

pub returns : goal.returns
returns c =
    let all = map-id (shown_infos c.args.infos.now) in
    grind (arith, filtered_all, all)
