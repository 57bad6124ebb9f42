use Rattle.csv_records.proofs.NoneEnoughLemmas.{without_records}
use Rattle.csv_records.specs.declared.error.RecordsError.TheVariants.{SplitCharacter}
use Rattle.csv_records.proofs.beginning.found_records.Goals as goal

pub returns-in-Err-SplitCharacter-clause-none : goal.returns-in-Err-SplitCharacter-clause-none
returns-in-Err-SplitCharacter-clause-none c = λ all are.
    without_records c.args.options.now c.args.text.now SplitCharacter all (λ same. cc same) (rw c.in-Err-SplitCharacter.field-0-is at c.in-Err-SplitCharacter.ensures.refused) are
