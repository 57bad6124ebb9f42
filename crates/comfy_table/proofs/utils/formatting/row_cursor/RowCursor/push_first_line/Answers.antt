use Rattle.std.proofs.Common.{ap₂, refl, ◌≡◌, ◌<◌, ◌+◌, ◌-◌, ◌++◌, ◌∷◌, [], ℕ, List, length, map, max, take, drop, string_bytes, sym, subst, ap, ◌∙◌, arith, append_assoc, slice_index_or}
use Rattle.std.proofs.lemmas.Bool.Decides.{nat_tests}
use Rattle.std.proofs.lemmas.List.{at_drop_more, get_or-map, length-map, map_more, nil_from_length}
use Rattle.comfy_parts.specs.CellValue.{ColumnInfo}
use Rattle.comfy_parts.specs.Text.{Text, spaces}
use Rattle.comfy_table.proofs.FurtherLineLemmas.{further-more, further-none, kept-last}
use Rattle.comfy_table.proofs.RowGapLemmas.{gap_more, joined_all, joined_to}
use Rattle.comfy_table.specs.DrawnCells.{AreFurther, DrawnCell, drawn_cell, greatest_height, piece_at}
use Rattle.comfy_table.specs.Pieces.{blank_piece}
use Rattle.comfy_table.specs.RowCells.{row_in}
use Rattle.comfy_table.proofs.utils.formatting.row_cursor.RowCursor.push_first_line.Goals.{then-is_empty+in-Some+in_ok-free, else-is_empty+in_ok-make_room+in_ok-cell+in_ok-push+in_ok-free-2}
use Rattle.comfy_table.proofs.utils.formatting.row_cursor.RowCursor.push_first_line.Goals as goal

pub loop-column-preserved : goal.loop-column-preserved
loop-column-preserved c =
    let f = drawn_cell c.args.table.now (row_in c.args.row) in
    let columns = c.args.columns.now in
    let cells = map f columns in
    let i = c.loop-column.column-index in
    let column = c.column-item.result in
    let drawn = f column in
    let below : i < length columns = omega (arith, c.loop-column-test.true) in
    let within : i < length cells = omega (arith, below, length-map columns f) in
    let at : drawn ≡ slice_index_or cells i drawn = ap f c.column-item.is ∙ sym (get_or-map f columns i column drawn below) in
    let tall : greatest_height (map f (drop i columns)) ≡ max (length drawn.pieces) (greatest_height (map f (drop (i + 1) columns))) =
    at_drop_more (λ (xs : List (ℕ × ColumnInfo)). greatest_height (map f xs)) columns i column below ∙ ap (λ (x : ℕ × ColumnInfo). greatest_height (map f (x ∷ drop (i + 1) columns))) (sym c.column-item.is) in
    let taken : map f (take (i + 1) columns) ≡ map f (take i columns) ++ drawn ∷ [] =
    map_more f columns i column below ∙ ap (λ (d : DrawnCell). map f (take i columns) ++ d ∷ []) (ap f (sym c.column-item.is)) in
    let old = string_bytes c.loop-column.text ++ (spaces c.loop-column.free ++ (c.loop-column.gap.now ++ piece_at 0 drawn)) in
    let only : (piece : Text) → piece ∷ [] ≡ drawn.pieces → piece ≡ piece_at 0 drawn = λ piece is. ap (λ (pieces : List Text). slice_index_or pieces 0 (blank_piece column.1)) is in
    let text : string_bytes c.if-is_empty.text ++ spaces c.if-is_empty.free ≡ old =
    elim c.if-is_empty.branch [
      | then-is_empty+in-Some+in_ok-free w ↦
          ap₂ (λ text free. string_bytes text ++ spaces free) w.text-is w.free-is
          ∙ w.in_ok-free.ensures
          ∙ ap (λ (t : Text). string_bytes c.loop-column.text ++ (spaces c.loop-column.free ++ (c.loop-column.gap.now ++ t))) (only w.in-Some.piece w.in-Some.ensures)
      | else-is_empty+in_ok-make_room+in_ok-cell+in_ok-push+in_ok-free-2 w ↦
          ap₂ (λ text free. string_bytes text ++ spaces free) w.text-is w.free-is
          ∙ w.in_ok-free-2.ensures
          ∙ ap (λ (t : Text). string_bytes c.loop-column.text ++ (spaces c.loop-column.free ++ (c.loop-column.gap.now ++ t)))
          (let cell = w.in_ok-cell.cell in
          let further = c.loop-column.self-inside.further.items in
          let pushed : w.push-else-is_empty.new.self.items ≡ further ++ cell ∷ [] =
          w.in_ok-push.ensures.items ∙ ap (λ (ds : List DrawnCell). ds ++ cell ∷ []) w.in_ok-make_room.ensures in
          let size : length w.push-else-is_empty.new.self.items ≡ length (further ++ cell ∷ []) = ap length pushed in
          let long : w.len.result ≡ length w.push-else-is_empty.new.self.items = grind (arith, w.len.ensures) in
          let count : w.len.result - 1 ≡ length (further ++ cell ∷ []) - 1 = ap (λ n. n - 1) (long ∙ size) in
          let last : w.index.result.now ≡ cell = w.index.ensures ∙ ap (λ (ds : List DrawnCell). slice_index_or ds (w.len.result - 1) w.index.result.now) pushed ∙ kept-last further cell w.index.result.now (w.len.result - 1) count in
          w.piece_at.ensures ∙ ap (piece_at 0) (last ∙ w.in_ok-cell.ensures))
    ] in
    let height : c.if-is_empty.height ≡ max (length drawn.pieces) c.loop-column.height =
    elim c.if-is_empty.branch [
      | then-is_empty+in-Some+in_ok-free w ↦ let one : length drawn.pieces ≡ 1 = sym (ap length w.in-Some.ensures) in grind (arith, nat_tests, w.height-is, w.max-height.ensures, one)
      | else-is_empty+in_ok-make_room+in_ok-cell+in_ok-push+in_ok-free-2 w ↦
          let high : w.height.result ≡ length drawn.pieces = w.height.ensures ∙ ap (λ (d : DrawnCell). length d.pieces) w.in_ok-cell.ensures in
          omega (arith, w.height-is, w.max-height-else-is_empty.ensures, high)
    ] in
    let before = map f (take i columns) in
    let kept : AreFurther c.if-is_empty.self-inside.further.items (before ++ drawn ∷ []) =
    elim c.if-is_empty.branch [
      | then-is_empty+in-Some+in_ok-free w ↦
          let few : length c.loop-column.self-inside.further.items ≡ 0 = grind arith in
          let none : c.loop-column.self-inside.further.items ≡ [] = nil_from_length c.loop-column.self-inside.further.items few in
          let size : length drawn.pieces ≡ 1 = sym (ap length w.in-Some.ensures) in
          subst (λ (fs : List DrawnCell). AreFurther fs (before ++ drawn ∷ [])) (sym (ap (λ inside. inside.further.items) w.self-inside-is ∙ none))
          (further-none before drawn (omega (arith, size)) (subst (λ (fs : List DrawnCell). AreFurther fs before) none c.loop-column.invariant.3))
      | else-is_empty+in_ok-make_room+in_ok-cell+in_ok-push+in_ok-free-2 w ↦
          subst (λ (fs : List DrawnCell). AreFurther fs (before ++ drawn ∷ []))
          (sym (ap (λ inside. inside.further.items) w.self-inside-is
          ∙ w.in_ok-push.ensures.items
          ∙ ap (λ (ds : List DrawnCell). ds ++ w.in_ok-cell.cell ∷ []) w.in_ok-make_room.ensures
          ∙ ap (λ (d : DrawnCell). c.loop-column.self-inside.further.items ++ d ∷ []) w.in_ok-cell.ensures))
          (further-more c.loop-column.self-inside.further.items before drawn c.loop-column.invariant.3)
    ] in (
      grind (arith, nat_tests, c.junction-gap.ensures),
      text
          ∙ gap_more c.args.gaps.now (piece_at 0) cells i drawn (string_bytes c.args.text.now) (string_bytes c.loop-column.text) c.loop-column.gap.now (spaces c.loop-column.free) (piece_at 0 drawn)
          within at c.loop-column.invariant.1 c.loop-column.invariant.0 refl,
      omega (arith, tall, height, c.loop-column.invariant.2),
      subst (λ (ds : List DrawnCell). AreFurther c.if-is_empty.self-inside.further.items ds) (sym taken) kept,
    )

pub returns-clause-line : goal.returns-clause-line
returns-clause-line c = λ some.
    let gaps = c.args.gaps.now in
    let columns = c.args.columns.now in
    let f = drawn_cell c.args.table.now (row_in c.args.row) in
    let cells = map f columns in
    let old = string_bytes c.args.text.now in
    let line = string_bytes c.loop-column.text in
    let free = spaces c.loop-column.free in
    let size = length-map columns f in
    let count : c.loop-column.column-index ≡ length cells = omega (arith, size, c.loop-column-test.false, c.loop-column.auto.column-index-end) in
    c.in_ok-push_end.ensures
    ∙ sym (append_assoc line free gaps.right)
    ∙ ap (λ (t : Text). t ++ gaps.right) (c.loop-column.invariant.1 ∙ ap (λ i. old ++ joined_to gaps (piece_at 0) cells i) count)
    ∙ append_assoc old (joined_to gaps (piece_at 0) cells (length cells)) gaps.right
    ∙ ap (λ (t : Text). old ++ t) (joined_all gaps (piece_at 0) cells (omega (arith, size, some)))
