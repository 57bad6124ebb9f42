use Rattle.comfy_table.proofs.TableLemmas.{table_keeps_contents}
use Rattle.comfy_table.proofs.laws.contents_that_fit_are_kept.Goals as goal

pub returns : goal.returns
returns c = table_keeps_contents
