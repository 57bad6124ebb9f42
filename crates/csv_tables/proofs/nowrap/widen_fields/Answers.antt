use Rattle.std.proofs.Common.{◌≡◌, ◌∙◌, ◌<◌, ◌≤◌, ap, refl, arith, length, rules, slice_index_or, slice_set}
use Rattle.csv_tables.proofs.NoWrapLemmas.{with_second-none, with_second-set}
use Rattle.csv_tables.specs.NoWrap.{with_content, with_second}
use Rattle.csv_tables.proofs.nowrap.widen_fields.Goals as goal

pub returns-in-Some : goal.returns-in-Some
returns-in-Some c =
    let columns = c.args.table.now.columns in
    let content = c.args.content in
    let column = c.in-Some.column.now in
    let below : 1 < length columns = search rules in
    let set : c.set_content.new.column ≡ with_content content (slice_index_or columns 1 column) = c.set_content.ensures ∙ ap (with_content content) c.in-Some.ensures.value in
    ap (λ cs. record c.args.table.now { columns = cs }) (ap (slice_set columns 1) set ∙ with_second-set columns content column below)

pub returns-in_default : goal.returns-in_default
returns-in_default c =
    let columns = c.args.table.now.columns in
    let past : length columns ≤ 1 = search (rules, arith) in
    let all : with_second c.args.content columns ≡ columns = with_second-none columns c.args.content past in
    rw all refl
