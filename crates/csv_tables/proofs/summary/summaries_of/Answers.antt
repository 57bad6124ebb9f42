use Rattle.std.proofs.Common.{List, map, subst}
use Rattle.comfy_parts.specs.Text.{Text}
use Rattle.csv_tables.specs.Columns.{seen}
use Rattle.csv_tables.proofs.SummaryLemmas.{AreSummariesUntil, all_records, next_record}
use Rattle.csv_tables.proofs.summary.summaries_of.Goals as goal

pub loop-row-preserved : goal.loop-row-preserved
loop-row-preserved c =
    let see = seen c.args.has_sequences in
    let all = map see c.args.rows.now in
    let rest = map see c.next.new.self in
    let summaries = c.loop-row.summaries.items in
    next_record all rest (see c.in-Some.row) summaries c.add_record.new.summaries.items
    (subst (λ (rows : List (List Text)). AreSummariesUntil all (map see rows) summaries) c.in-Some.ensures.steps c.loop-row.invariant)
    c.in_ok-add_record.ensures

pub returns : goal.returns
returns c =
    let see = seen c.args.has_sequences in
    let all = map see c.args.rows.now in
    all_records all c.loop-row.summaries.items
    (subst (λ (rows : List (List Text)). AreSummariesUntil all (map see rows) c.loop-row.summaries.items) c.in-None.ensures.steps.0 c.loop-row.invariant)
