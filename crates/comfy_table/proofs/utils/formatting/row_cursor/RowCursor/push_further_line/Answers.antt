use Rattle.std.proofs.Common.{◌≡◌, ◌<◌, ◌≤◌, ◌-◌, ◌++◌, ℕ, List, length, string_bytes, sym, ap, ap₂, ◌∙◌, arith, append_assoc, slice_index_or}
use Rattle.std.proofs.lemmas.Bool.Decides.{nat_tests}
use Rattle.comfy_parts.specs.CellValue.{ColumnInfo}
use Rattle.comfy_parts.specs.Text.{Text, spaces}
use Rattle.comfy_table.proofs.FurtherLineLemmas.{kept-at, length-filled, low-at}
use Rattle.comfy_table.proofs.RowGapLemmas.{gap_more, joined_all, joined_to}
use Rattle.comfy_table.proofs.SpaceLemmas.{last-pushed}
use Rattle.comfy_table.specs.DrawnCells.{DrawnCell, filled, piece_at, without_piece}
use Rattle.comfy_table.specs.Pieces.{blank_piece}
use Rattle.comfy_table.proofs.utils.formatting.row_cursor.RowCursor.push_further_line.Goals.{then-position-first, else-position-first}
use Rattle.comfy_table.proofs.utils.formatting.row_cursor.RowCursor.push_further_line.Goals as goal

pub loop-position-preserved : goal.loop-position-preserved
loop-position-preserved c =
    let columns = c.args.columns.now in
    let further = c.args.self.now in
    let gaps = c.args.gaps.now in
    let cells = filled columns further in
    let i = c.loop-position.position in
    let column = c.index-columns-position.result in
    let size : length c.as_slice.result.now ≡ length further = ap length (c.as_slice.ensures.value ∙ c.self.view_is) in
    let within : i < length cells = omega (arith, length-filled columns further c.requires.columns, c.loop-position-test.true) in
    let more = λ (drawn : DrawnCell). gap_more gaps (piece_at c.args.line) cells i drawn (string_bytes c.args.text.now) (string_bytes c.loop-position.text) c.loop-position.gap.now (spaces c.loop-position.free) c.if-position-first.piece within in (
      grind (arith, nat_tests, c.junction-gap.ensures),
      elim c.if-position-first.branch [
        | then-position-first w ↦
            let below : i < length columns - length further = omega (arith, w.if-position-first.true, size) in
            c.in_ok-free.ensures
            ∙ more (without_piece column) (low-at columns further i column below c.index-columns-position.is) c.loop-position.invariant.1 c.loop-position.invariant.0
            (w.piece-is ∙ w.blank-piece.ensures ∙ ap (λ (p : ℕ × ColumnInfo). blank_piece p.1) c.column.view_is)
        | else-position-first w ↦
            let from : length columns - length further ≤ i = omega (arith, w.if-position-first.false, size) in
            let drawn = w.index.result.now in
            let at : drawn ≡ slice_index_or further (i - (length columns - length further)) drawn = w.index.ensures ∙ ap₂ (λ (ds : List DrawnCell) k. slice_index_or ds k drawn) c.self.view_is (omega (arith, size)) in
            c.in_ok-free.ensures
            ∙ more drawn (kept-at columns further i drawn from at) c.loop-position.invariant.1 c.loop-position.invariant.0
            (w.piece-is ∙ w.piece_at-piece.ensures)
      ],
    )

pub returns : goal.returns
returns c =
    let gaps = c.args.gaps.now in
    let cells = filled c.args.columns.now c.args.self.now in
    let drawn = piece_at c.args.line in
    let old = string_bytes c.args.text.now in
    let line = string_bytes c.loop-position.text in
    let free = spaces c.loop-position.free in
    let size = length-filled c.args.columns.now c.args.self.now c.requires.columns in
    let some : 0 < length cells = omega (arith, size, c.requires.some) in
    let count : c.loop-position.position ≡ length cells = omega (arith, size, c.loop-position-test.false, c.loop-position.auto.position-end) in
    last-pushed c.push_end.result (string_bytes c.push_end.new.text) line (free ++ gaps.right) _
    (λ pushed.
    pushed
    ∙ sym (append_assoc line free gaps.right)
    ∙ ap (λ (t : Text). t ++ gaps.right) (c.loop-position.invariant.1 ∙ ap (λ i. old ++ joined_to gaps drawn cells i) count)
    ∙ append_assoc old (joined_to gaps drawn cells (length cells)) gaps.right
    ∙ ap (λ (t : Text). old ++ t) (joined_all gaps drawn cells some))
    c.push_end.ensures
