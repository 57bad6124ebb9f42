use Rattle.std.proofs.Common.{◌≡◌, ◌∷◌, List, ap, subst, ◌∙◌, rules}
use Rattle.std.specs.Prelude.{OnOk}
use Rattle.comfy_parts.specs.CellValue.{RowValue}
use Rattle.comfy_table.proofs.OutputLemmas.{with_lines-append}
use Rattle.comfy_table.specs.Drawing.{drawn_row, drawn_rows, further_rows}
use Rattle.comfy_table.specs.Gaps.{FrameValue, RowGapsValue, row_between, row_gaps}
use Rattle.comfy_table.specs.Output.{with_lines}
use Rattle.comfy_table.specs.Parts.{ArrangedValue}
use Rattle.comfy_table.proofs.utils.formatting.drawing.Writer.write_rows.Goals as goal

pub returns-in_ok-write_row-in-Some-clause-ok : goal.returns-in_ok-write_row-in-Some-clause-ok
returns-in_ok-write_row-in-Some-clause-ok g c =
    let kept_of = g.O.Output.kept_of in
    let had = g.O.Output.kept c.args.output.now in
    let new = g.O.Output.kept c.write_further_rows.new.output in
    let start = c.args.self.now in
    let table = start.table in
    let first = c.in-Some.first.now in
    let rest = c.in-Some.rest.now in
    let gaps : c.frame.inside.gaps ≡ row_gaps table.style table.style.content_lines =
    ap (λ (f : FrameValue). f.gaps) (c.frame.view_is ∙ c.self.invariant.1) ∙ ap (λ (w : ArrangedValue). row_gaps w.table.style w.table.style.content_lines) c.self.view_is in
    let one : g.O.Output.kept c.write_row.new.output ≡ with_lines kept_of (drawn_row table start.infos table.style.content_lines first) had =
    c.in_ok-write_row-in-Some.ensures.ok ∙ ap (λ (g : RowGapsValue). with_lines kept_of (row_between g table start.infos first) had) gaps in
    let rows : first ∷ rest ≡ c.args.rows.now = search rules in
    let same = subst (λ (w : ArrangedValue). OnOk c.write_further_rows.result (new ≡ with_lines kept_of (further_rows w.table w.infos rest) (g.O.Output.kept c.write_row.new.output))) c.write_row.ensures.kept c.write_further_rows.ensures.ok in
    subst (λ kept. OnOk c.write_further_rows.result (new ≡ kept))
    (ap (with_lines kept_of (further_rows table start.infos rest)) one
    ∙ with_lines-append kept_of (drawn_row table start.infos table.style.content_lines first) (further_rows table start.infos rest) had
    ∙ ap (λ (rs : List RowValue). with_lines kept_of (drawn_rows table start.infos rs) had) rows)
    same
