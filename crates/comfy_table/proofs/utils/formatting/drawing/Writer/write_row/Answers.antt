use Rattle.std.proofs.Common.{◌≡◌, ◌<◌, ◌++◌, ◌∷◌, ◌-◌, List, length, map, string_bytes, ap, sym, ◌∙◌, arith}
use Rattle.std.proofs.lemmas.List.{length-map}
use Rattle.std.proofs.lemmas.Result.{on_ok_weaker}
use Rattle.std.specs.List.{range_with_len}
use Rattle.comfy_parts.specs.Text.{Text}
use Rattle.comfy_table.proofs.FurtherLineLemmas.{further-few, lines-between, none-between, some-columns}
use Rattle.comfy_table.proofs.OutputLemmas.{with_lines-none}
use Rattle.comfy_table.specs.DrawnCells.{drawn_cell, filled, piece_at}
use Rattle.comfy_table.specs.Gaps.{gap_line, row_between}
use Rattle.comfy_table.specs.Output.{with_lines}
use Rattle.comfy_table.specs.Parts.{ArrangedValue}
use Rattle.comfy_table.specs.RowCells.{row_in}
use Rattle.comfy_table.proofs.utils.formatting.drawing.Writer.write_row.Goals as goal

pub push_row-requires-clause-some : goal.push_row-requires-clause-some
push_row-requires-clause-some g c =
    some-columns c.self.inside.table.now (row_in c.args.row) c.as_slice-columns.result.now c.in_ok-height.height c.in_ok-height.ensures.height (omega (arith, c.if-height-eq0.false))

pub push_row-requires-clause-columns : goal.push_row-requires-clause-columns
push_row-requires-clause-columns g c =
    let few = further-few c.push_first_line.new.self (map (drawn_cell c.self.inside.table.now (row_in c.args.row)) c.as_slice-columns.result.now) c.in_ok-height.ensures.further in
    omega (arith, few, length-map c.as_slice-columns.result.now (drawn_cell c.self.inside.table.now (row_in c.args.row)))

pub returns-then-height-eq0-clause-ok : goal.returns-then-height-eq0-clause-ok
returns-then-height-eq0-clause-ok g c =
    let kept_of = g.O.Output.kept_of in
    let had = g.O.Output.kept c.args.output.now in
    let gaps = c.args.gaps.now in
    let row = row_in c.args.row in
    let table = c.self.inside.table.now in
    let none = none-between table row gaps c.as_slice-columns.result.now c.self.inside.infos.now c.in_ok-height.height (c.as_slice-columns.ensures.value ∙ c.self.invariant.0) c.in_ok-height.ensures.height c.if-height-eq0.true in
    sym (with_lines-none kept_of had)
    ∙ ap (λ (ls : List Text). with_lines kept_of ls had) (sym none)
    ∙ ap (λ (w : ArrangedValue). with_lines kept_of (row_between gaps w.table w.infos row) had) c.self.view_is

pub returns-clause-ok : goal.returns-clause-ok
returns-clause-ok g c =
    let kept_of = g.O.Output.kept_of in
    let had = g.O.Output.kept c.args.output.now in
    let gaps = c.args.gaps.now in
    let row = row_in c.args.row in
    let table = c.self.inside.table.now in
    let infos = c.self.inside.infos.now in
    let columns = c.as_slice-columns.result.now in
    let cells = map (drawn_cell table row) columns in
    let height = c.in_ok-height.height in
    let positive : 0 < height = omega (arith, c.if-height-eq0.false) in
    let some : 0 < length columns = some-columns table row columns height c.in_ok-height.ensures.height positive in
    let others = map (λ k. gap_line gaps (map (piece_at k) (filled columns c.push_first_line.new.self))) (range_with_len 1 (height - 1)) in
    let first : string_bytes c.push_first_line.new.text ≡ gap_line gaps (map (piece_at 0) cells) =
    c.in_ok-height.ensures.line some ∙ ap (λ (t : Text). t ++ gap_line gaps (map (piece_at 0) cells)) c.clear.ensures.bytes in
    let lines : string_bytes c.push_first_line.new.text ∷ others ≡ row_between gaps table infos row =
    ap (λ (t : Text). t ∷ others) first
    ∙ lines-between table row columns c.push_first_line.new.self c.in_ok-height.ensures.further gaps infos height (c.as_slice-columns.ensures.value ∙ c.self.invariant.0) c.in_ok-height.ensures.height positive in
    on_ok_weaker c.push_row.result
    (λ (pushed : g.O.Output.kept c.push_row.new.output ≡ _).
    pushed
    ∙ ap (λ (ls : List Text). with_lines kept_of ls had) lines
    ∙ ap (λ (w : ArrangedValue). with_lines kept_of (row_between gaps w.table w.infos row) had) c.self.view_is)
    c.push_row.ensures.ok
