use Rattle.comfy_table.proofs.PartLemmas.{other_rows_drawn}
use Rattle.promises.proofs.ConditionLemmas.{whole_of_parts}
use Rattle.promises.proofs.laws.parts_are_framed_rows.Goals as goal

pub returns-clause-part : goal.returns-clause-part
returns-clause-part c = λ table infos rows. other_rows_drawn table rows infos

pub returns-clause-whole : goal.returns-clause-whole
returns-clause-whole c = whole_of_parts
