use Rattle.std.proofs.Common.{◌≡◌, ◌∙◌, ◌<◌, ◌≤◌, List, ap, refl, arith, length, rules, slice_index_or, slice_set}
use Rattle.comfy_parts.specs.CellValue.{ColumnValue}
use Rattle.csv_tables.proofs.LimitLemmas.{padded_past, padded_set}
use Rattle.csv_tables.specs.Limits.{padded_at}
use Rattle.csv_tables.proofs.limits.pad_column.Goals as goal

pub returns-in-Some : goal.returns-in-Some
returns-in-Some c =
    let columns = c.args.table.now.columns in
    let at = c.args.at in
    let column = c.in-Some.column.now in
    let below : at < length columns = search rules in
    let set : c.set_padding.new.column ≡ record (slice_index_or columns at column) { padding = c.args.padding } = c.set_padding.ensures ∙ ap (λ (k : ColumnValue). record k { padding = c.args.padding }) c.in-Some.ensures.value in
    ap (λ (cs : List ColumnValue). record c.args.table.now { columns = cs }) (ap (slice_set columns at) set ∙ padded_set at c.args.padding columns column below)

pub returns-in_default : goal.returns-in_default
returns-in_default c =
    let columns = c.args.table.now.columns in
    let past : length columns ≤ c.args.at = search (rules, arith) in
    let all : padded_at c.args.at c.args.padding columns ≡ columns = padded_past c.args.at c.args.padding columns past in
    rw all refl
