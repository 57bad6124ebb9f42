use Rattle.std.proofs.Common.{◌≡◌, ◌==◌, ◌∙◌, ℕ, List, ap, false, length, sym}
use Rattle.comfy_table.specs.TableValue.{TableValue, constrained}
use Rattle.csv_tables.proofs.LimitLemmas.{limited-contents}
use Rattle.csv_tables.specs.Drawn.{wanted_in}
use Rattle.csv_tables.specs.LazyTableValue.{LazyTableValue}
use Rattle.csv_tables.specs.Limits.{with_limits}
use Rattle.csv_tables.proofs.nowrap.keep_contents.Goals as goal

pub returns : goal.returns
returns c =
    let own : LazyTableValue = c.args.contents.now in
    let limits = c.args.limits.now in
    let some : (length limits == 0) ≡ false = sym c.is_empty.ensures ∙ c.if-is_empty.false in
    c.constrain_contents.ensures
    ∙ ap (λ constraints. record own { table = record own.table { columns = constrained constraints own.table.columns } }) c.in_ok-constraints.ensures
    ∙ ap (λ (widths : List ℕ). record own { table = with_limits limits widths own.table }) c.widths.ensures
    ∙ ap (λ (t : TableValue). record own { table = t }) (limited-contents limits (wanted_in own.rows.look own.rows.selected) own.table some)
