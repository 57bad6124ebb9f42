use Rattle.std.proofs.Common.{◌^◌, ◌-◌, ◌∙◌, subst, sym, arith}
use Rattle.csv_records.proofs.FirstLemmas.{all_of_few}
use Rattle.csv_records.specs.Reading.{AreRecordsIn}
use Rattle.csv_records.proofs.reading.read_records.Goals as goal

pub returns-clause-all : goal.returns-clause-all
returns-clause-all c =
    let first = c.in_ok-read_first_records.ensures.all in
    let few = c.in_ok-read_first_records.ensures.count in
    subst (AreRecordsIn c.args.options.now c.args.text.now) (sym (first.records ∙ all_of_few (2 ^ 64 - 1) first.all (omega (arith, few, first.count)))) first.are
