use Rattle.comfy_table.proofs.TableLemmas.{table_is_full, table_is_levelled}
use Rattle.comfy_table.proofs.laws.dynamic_widths_are_levelled.Goals as goal

pub returns-clause-dynamic : goal.returns-clause-dynamic
returns-clause-dynamic c = table_is_levelled

pub returns-clause-full : goal.returns-clause-full
returns-clause-full c = table_is_full
