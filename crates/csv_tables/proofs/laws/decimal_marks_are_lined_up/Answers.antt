use Rattle.csv_tables.proofs.DecimalLawLemmas.{marks_line_up, spaces_alone}
use Rattle.csv_tables.proofs.laws.decimal_marks_are_lined_up.Goals as goal

pub returns-clause-spaces : goal.returns-clause-spaces
returns-clause-spaces c = spaces_alone

pub returns-clause-marks : goal.returns-clause-marks
returns-clause-marks c = marks_line_up
