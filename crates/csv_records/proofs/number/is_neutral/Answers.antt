use Rattle.std.proofs.Common.{ap, ◌∙◌}
use Rattle.csv_records.specs.Number.{is_bare_neutral, is_neutral}
use Rattle.csv_records.proofs.number.is_neutral.Goals as goal

pub returns : goal.returns
unfolding is_neutral
returns c = c.is_bare_neutral.ensures ∙ ap is_bare_neutral c.trimmed.ensures
