use Rattle.std.proofs.Common.{◌≡◌, ℕ, List, map, ap, ◌∙◌, arith}
use Rattle.std.proofs.lemmas.List.{map-append}
use Rattle.std.proofs.lemmas.List.FromFn.{map-range_with_len_more}
use Rattle.std.specs.List.{range_with_len}
use Rattle.comfy_parts.specs.Text.{Text}
use Rattle.comfy_table.proofs.DrawnCellLemmas.{drawn_lines}
use Rattle.comfy_table.specs.DrawnCells.{drawn_cell, greatest_height, piece_at}
use Rattle.comfy_table.proofs.utils.formatting.content_format.format_row.Goals as goal

pub loop-line-preserved : goal.loop-line-preserved
loop-line-preserved c =
    let line : ℕ → List Text = λ k. map (piece_at k) c.as_slice-cells.result.now in
    let more = map-range_with_len_more line 0 c.loop-line.line c.loop-line.line (omega arith) in
    grind (arith, more, map-append)

pub returns : goal.returns
returns c =
    let cells = c.as_slice-cells.result.now in
    let all : c.loop-line.line ≡ greatest_height cells = let e : c.loop-line.line ≡ c.greatest_height-line-end.result = omega arith in e ∙ c.greatest_height-line-end.ensures in
    c.loop-line.invariant
    ∙ ap (λ n. map (λ k. map (piece_at k) cells) (range_with_len 0 n)) all
    ∙ drawn_lines c.args.table.now c.args.display_infos.now c.args.row.now cells
    (c.as_slice-cells.ensures.value ∙ c.in_ok-cells.ensures ∙ ap (map (drawn_cell c.args.table.now c.args.row.now)) (c.as_slice.ensures.value ∙ c.in_ok-columns.ensures))
