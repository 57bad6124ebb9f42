use Rattle.std.proofs.Common.{ap, ◌∙◌}
use Rattle.csv_tables.proofs.ContentLemmas.{pairs-header}
use Rattle.csv_tables.proofs.output.expanded_contents.Goals as goal

pub keep_nowrap_fields-requires-clause-header : goal.keep_nowrap_fields-requires-clause-header
keep_nowrap_fields-requires-clause-header c = ap (λ t. t.header) c.in_ok-contents.ensures.table ∙ pairs-header c.args.look.now c.args.selected
