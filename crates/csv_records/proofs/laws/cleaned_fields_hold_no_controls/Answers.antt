use Rattle.csv_records.proofs.ControlLemmas.{cleaned_once, no_controls}
use Rattle.csv_records.proofs.laws.cleaned_fields_hold_no_controls.Goals as goal

pub returns-clause-none : goal.returns-clause-none
returns-clause-none c = no_controls

pub returns-clause-once : goal.returns-clause-once
returns-clause-once c = cleaned_once
