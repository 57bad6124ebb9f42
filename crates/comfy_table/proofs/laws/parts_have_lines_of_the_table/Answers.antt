use Rattle.comfy_table.proofs.PartLemmas.{all_rows_are_the_table, part_is_unstyled, part_has_lines_of_table}
use Rattle.comfy_table.proofs.laws.parts_have_lines_of_the_table.Goals as goal

pub returns-clause-lines : goal.returns-clause-lines
returns-clause-lines c = part_has_lines_of_table

pub returns-clause-unstyled : goal.returns-clause-unstyled
returns-clause-unstyled c = part_is_unstyled

pub returns-clause-whole : goal.returns-clause-whole
returns-clause-whole c = all_rows_are_the_table
