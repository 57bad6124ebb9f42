use Rattle.std.proofs.Common.{◌≡◌, ◌∙◌, ◌∷◌, ap, map, rules}
use Rattle.std.proofs.lemmas.Iterator.Consumers.{YieldsList-end}
use Rattle.std.proofs.lemmas.Iterator.Splits.{YieldsList-from_lines}
use Rattle.std.specs.Str.Lines.{lines}
use Rattle.comfy_run.specs.Input.{table_of_lines}
use Rattle.comfy_table.specs.TableValue.{TableValue}
use Rattle.comfy_run.proofs.run.input.table_of.Goals as goal

pub returns : goal.returns
returns c =
    let cut = YieldsList-from_lines {s = c.lines-lines.result} c.args.text.now c.lines-lines.ensures.rest in
    let others = rw c.into_iter-line-iterator.ensures.into_iter_gives at c.loop-line.yielded_by in
    let all = YieldsList-end cut (c.in-Some.first ∷ c.loop-line.yielded) _ (c.next.new.self, c.in-Some.ensures.steps, others) _ _ c.in-None.is c.next-in-loop-line.ensures.steps in
    let done : c.loop-line.table ≡ table_of_lines (c.empty_table-table.result) (c.in-Some.first.now ∷ map (λ p. p.now) c.loop-line.yielded) = search rules in
    done ∙ ap (table_of_lines (c.empty_table-table.result)) all.0 ∙ ap (λ (t : TableValue). table_of_lines t (lines c.args.text.now)) c.empty_table-table.ensures
