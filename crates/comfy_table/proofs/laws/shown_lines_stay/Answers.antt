use Rattle.comfy_table.proofs.AddedRowLemmas.{row_is_added_below, shown_lines_stay}
use Rattle.comfy_table.proofs.laws.shown_lines_stay.Goals as goal

pub returns-clause-same_widths : goal.returns-clause-same_widths
returns-clause-same_widths c = row_is_added_below

pub returns-clause-by_content : goal.returns-clause-by_content
returns-clause-by_content c = shown_lines_stay
