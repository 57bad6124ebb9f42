use Rattle.std.proofs.Common.{◌∙◌, ap, arith, map, sym}
use Rattle.std.proofs.lemmas.List.{length-map, take-map}
use Rattle.std.proofs.lemmas.Result.{on_err_weaker, on_ok_weaker}
use Rattle.comfy_table.proofs.ItemsLemmas.{all_given, not_all_given}
use Rattle.comfy_table.specs.TableValue.{with_rows}
use Rattle.comfy_table.proofs.table.Table.push_items.Goals as goal

pub returns-clause-ok : goal.returns-clause-ok
returns-clause-ok g c =
    let gives = g.met.I.Items.gives_items c.args.rows _ c.into_iter-rows.ensures.into_iter_gives in
    on_ok_weaker c.push_rows.result
    (λ done. done.2 ∙ ap (λ rows. with_rows (map g.I.Item.IntoRow.row_of rows) c.args.self.now) (all_given _ _ done.0 gives (_, done.1)))
    c.push_rows.ensures.ok

pub returns-clause-err : goal.returns-clause-err
returns-clause-err g c =
    let gives = g.met.I.Items.gives_items c.args.rows _ c.into_iter-rows.ensures.into_iter_gives in
    let row_of = g.I.Item.IntoRow.row_of in
    let items = g.I.Items.items_of c.args.rows in
    on_err_weaker c.push_rows.result
    (λ done.
    let part = not_all_given _ _ _ items done.0 done.1 gives done.2.1 done.2.2 in
    let taken = ap (map row_of) part.2 ∙ sym (take-map row_of part.0 items) in
    let fewer = length-map items row_of in
    (part.0, omega (arith, part.1, fewer), done.3 ∙ ap (λ rows. with_rows rows c.args.self.now) taken))
    c.push_rows.ensures.err
