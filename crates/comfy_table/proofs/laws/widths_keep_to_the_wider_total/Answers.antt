use Rattle.comfy_table.proofs.WiderLemmas.{fills_wider_total, keeps_to_wider_total, keeps_to_wider_total_in_full}
use Rattle.comfy_table.proofs.laws.widths_keep_to_the_wider_total.Goals as goal

pub returns-clause-dynamic : goal.returns-clause-dynamic
returns-clause-dynamic c = keeps_to_wider_total

pub returns-clause-full_at_most : goal.returns-clause-full_at_most
returns-clause-full_at_most c = keeps_to_wider_total_in_full

pub returns-clause-full : goal.returns-clause-full
returns-clause-full c = fills_wider_total
