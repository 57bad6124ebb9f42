use Rattle.csv_command.proofs.ending.decoding_reason.Goals as goal

pub returns-in-NotUtf16 : goal.returns-in-NotUtf16
returns-in-NotUtf16 c = rw c.in-NotUtf16.is c.format-in-NotUtf16.ensures.ok
