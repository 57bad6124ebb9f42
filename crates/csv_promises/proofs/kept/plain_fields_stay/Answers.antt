use Rattle.std.proofs.Common.{sym}
use Rattle.csv_records.proofs.CleaningLemmas.{drawn_so}
use Rattle.csv_promises.proofs.kept.plain_fields_stay.Goals as goal

pub returns : goal.returns
returns c kept field utf8 none = sym (drawn_so kept field utf8 none)
