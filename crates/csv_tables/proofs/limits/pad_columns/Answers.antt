use Rattle.std.proofs.Common.{◌≡◌, ◌∙◌, ◌+◌, suc, ℕ, List, ap, ap₂, arith, take}
use Rattle.std.proofs.lemmas.List.{take_all}
use Rattle.comfy_parts.specs.CellValue.{ColumnValue}
use Rattle.comfy_table.specs.TableValue.{TableValue}
use Rattle.csv_tables.proofs.LimitLemmas.{padded_more}
use Rattle.csv_tables.specs.Limits.{no_limits, padded_at, with_paddings}
use Rattle.csv_tables.specs.declared.limits.ColumnLimits.{ColumnLimits}
use Rattle.csv_tables.proofs.limits.pad_columns.Goals as goal

pub loop-at-preserved : goal.loop-at-preserved
loop-at-preserved c =
    let limits = c.args.limits.now in
    let at : ℕ = c.loop-at.at in
    let table = c.args.table.now in
    let one : suc at ≡ at + 1 = omega arith in
    c.pad_column.ensures
    ∙ ap₂ (λ (own : ColumnLimits) (t : TableValue). record t { columns = padded_at at own.padding t.columns }) c.limits_at.ensures c.loop-at.invariant
    ∙ ap (λ (cs : List ColumnValue). record table { columns = cs }) (padded_more limits at no_limits table.columns (omega (arith, c.loop-at-test.true)))
    ∙ ap (λ n. with_paddings (take n limits) table) one

pub returns : goal.returns
returns c =
    let limits = c.args.limits.now in
    c.loop-at.invariant ∙ ap (λ (own : List ColumnLimits). with_paddings own c.args.table.now) (take_all c.loop-at.at limits (omega (arith, c.loop-at-test.false)))
