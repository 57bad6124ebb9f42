use Rattle.std.proofs.Common.{◌≡◌, ◌<◌, ◌≤◌, ◌+◌, ℕ, Some, None, List, ◌∷◌, ap, drop, length, replicate, subst, sym, ◌∙◌, arith}
use Rattle.std.specs.List.{slice_index_or}
use Rattle.std.proofs.lemmas.List.{drop_all, drop_more}
use Rattle.comfy_parts.specs.CellValue.{RowValue}
use Rattle.comfy_table.specs.TableValue.{TableValue, widened}
use Rattle.comfy_table.proofs.WidenedLemmas.{AreContentsWith, before_rows, no_row_left, row_more}
use Rattle.comfy_table.proofs.table.Table.column_max_content_widths.Goals as goal
use Rattle.comfy_table.proofs.table.Table.column_max_content_widths.Goals.{in-Some, in_default}

pub loop-row-init : goal.loop-row-init
loop-row-init c =
    let table : TableValue = c.args.self.now in
    elim c.match-self.branch [
      | in-Some w ↦
          let header : table.header ≡ Some w.in-Some.header = sym (ap (λ (t : TableValue). t.header) c.self.view_is) ∙ w.in-Some.is in
          let zeros : c.in_ok-widths.widths.items ≡ replicate (length table.columns) 0 = c.in_ok-widths.ensures in
          subst (AreContentsWith table table.rows) (sym (ap (λ ws. ws.items) w.widths-is ∙ w.widen.ensures ∙ ap (widened table w.in-Some.header.cells) zeros)) (before_rows table (Some w.in-Some.header) header)
      | in_default w ↦
          let header : table.header ≡ None = sym (ap (λ (t : TableValue). t.header) c.self.view_is) ∙ w.in_default.is in
          let zeros : c.in_ok-widths.widths.items ≡ replicate (length table.columns) 0 = c.in_ok-widths.ensures in
          subst (AreContentsWith table table.rows) (sym (ap (λ ws. ws.items) w.widths-is ∙ zeros)) (before_rows table None header)
    ]

pub loop-row-preserved : goal.loop-row-preserved
loop-row-preserved c =
    let table : TableValue = c.args.self.now in
    let k : ℕ = c.loop-row.row-index in
    let row : RowValue = c.row-item.result in
    let items : c.deref-row-items.result.now ≡ table.rows = c.deref-row-items.ensures.value ∙ ap (λ (t : TableValue). t.rows) c.self.view_is in
    let below : k < length table.rows = subst (λ (rows : List RowValue). k < length rows) items c.loop-row-test.true in
    let at : row ≡ slice_index_or table.rows k row = c.row-item.is ∙ ap (λ (rows : List RowValue). slice_index_or rows k row) items in
    let rest : drop k table.rows ≡ row ∷ drop (k + 1) table.rows = drop_more table.rows k row below ∙ ap (λ (first : RowValue). first ∷ drop (k + 1) table.rows) (sym at) in
    subst (AreContentsWith table (drop (k + 1) table.rows)) (sym c.widen-in-loop-row.ensures)
    (row_more table row (drop (k + 1) table.rows) c.loop-row.widths.items
    (subst (λ (rows : List RowValue). AreContentsWith table rows c.loop-row.widths.items) rest c.loop-row.invariant))

pub returns : goal.returns
returns c =
    let table : TableValue = c.args.self.now in
    let k : ℕ = c.loop-row.row-index in
    let items : c.deref-row-items.result.now ≡ table.rows = c.deref-row-items.ensures.value ∙ ap (λ (t : TableValue). t.rows) c.self.view_is in
    let test = c.loop-row-test.false in
    let long = ap length items in
    let all : length table.rows ≤ k = omega (arith, test, long) in
    no_row_left table c.loop-row.widths.items (subst (λ (rows : List RowValue). AreContentsWith table rows c.loop-row.widths.items) (drop_all k table.rows all) c.loop-row.invariant)
