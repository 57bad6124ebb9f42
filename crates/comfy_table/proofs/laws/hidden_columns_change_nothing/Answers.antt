use Rattle.comfy_table.proofs.HiddenColumnLemmas.{hidden_columns_change_nothing, is_drawn_without_hidden}
use Rattle.comfy_table.proofs.laws.hidden_columns_change_nothing.Goals as goal

pub returns-clause-removed : goal.returns-clause-removed
returns-clause-removed c = is_drawn_without_hidden

pub returns-clause-same : goal.returns-clause-same
returns-clause-same c = hidden_columns_change_nothing
