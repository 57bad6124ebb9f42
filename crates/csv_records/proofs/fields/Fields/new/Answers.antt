use Rattle.std.proofs.Common.{arith, refl}
use Rattle.csv.specs.Records.{Rising, cut_from}
use Rattle.csv_records.proofs.fields.Fields.new.Goals as goal

pub returns-clause-fields : goal.returns-clause-fields
unfolding cut_from
returns-clause-fields c = rw c.new-2.ensures refl

pub invariant_of-result : goal.invariant_of-result
unfolding Rising
invariant_of-result c = rw c.new-2.ensures (omega arith)
