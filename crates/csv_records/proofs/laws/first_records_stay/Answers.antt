use Rattle.csv_records.proofs.BeginningLemmas.{first_records_stay}
use Rattle.csv_records.proofs.laws.first_records_stay.Goals as goal

pub returns : goal.returns
returns c = first_records_stay
