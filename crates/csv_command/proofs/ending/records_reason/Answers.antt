use Rattle.csv_command.proofs.ending.records_reason.Goals as goal

pub returns-in-Unclosed : goal.returns-in-Unclosed
returns-in-Unclosed c = rw c.in-Unclosed.is c.format.ensures.ok
