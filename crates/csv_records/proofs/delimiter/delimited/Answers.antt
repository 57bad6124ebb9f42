use Rattle.std.proofs.Common.{sym}
use Rattle.csv_records.proofs.DelimiterLemmas.{named_delimiter-EndsIn}
use Rattle.csv_records.proofs.delimiter.delimited.Goals as goal

pub returns-in-Some-clause-end : goal.returns-in-Some-clause-end
returns-in-Some-clause-end c = named_delimiter-EndsIn c.args.text.now c.in-Some.parts.1.now c.in-Some.parts.0 (sym c.in-Some.ensures)

pub returns-in-Some-named_delimiter-clause-end : goal.returns-in-Some-named_delimiter-clause-end
returns-in-Some-named_delimiter-clause-end c = named_delimiter-EndsIn c.args.text.now c.in-Some-named_delimiter.parts.1.now c.in-Some-named_delimiter.parts.0 (sym c.in-Some-named_delimiter.ensures)
