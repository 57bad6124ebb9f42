use Rattle.std.proofs.Common.{sym, rules, tests}
use Rattle.csv_records.proofs.NumberLemmas.{ascii_currency}
use Rattle.csv_records.proofs.number.is_currency.Goals as goal

pub returns-then-is_ascii : goal.returns-then-is_ascii
returns-then-is_ascii c = sym (ascii_currency c.args.c (search (rules, tests)))
