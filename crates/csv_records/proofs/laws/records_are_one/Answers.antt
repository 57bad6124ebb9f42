use Rattle.csv_records.proofs.OneRecordLemmas.{read_is_one}
use Rattle.csv_records.proofs.laws.records_are_one.Goals as goal

pub returns : goal.returns
returns c = read_is_one
