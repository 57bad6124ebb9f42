use Rattle.std.proofs.Common.{◌++◌, ◌∙◌, ap, map}
use Rattle.std.proofs.lemmas.Result.{on_err_weaker, on_ok_weaker}
use Rattle.comfy_table.proofs.ItemsLemmas.{drained_from_vec, taken_from_vec}
use Rattle.comfy_table.specs.TableValue.{with_rows}
use Rattle.comfy_table.proofs.table.Table.try_add_rows.Goals as goal

pub returns-clause-ok : goal.returns-clause-ok
returns-clause-ok g c =
    on_ok_weaker c.push_rows.result
    (λ done. done.2 ∙ ap (λ rows. with_rows (map g.T.IntoRow.row_of rows) c.args.self.now) (drained_from_vec done.0 c.args.rows.now (c.push_rows.new.rows, done.1)))
    c.push_rows.ensures.ok

pub returns-clause-err : goal.returns-clause-err
returns-clause-err g c =
    on_err_weaker c.push_rows.result
    (λ done. (
      done.0,
      done.1,
      taken_from_vec done.0 c.args.rows.now done.2.0 done.2.1 ∙ ap (λ rest. done.0 ++ rest) done.2.2.0,
      done.3,
    ))
    c.push_rows.ensures.err
