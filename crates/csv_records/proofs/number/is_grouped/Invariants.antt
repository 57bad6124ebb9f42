use Rattle.std.specs.Str.Iter.{chars_rest}
use Rattle.csv_records.proofs.NumberLemmas.{IsWalked}
use Rattle.csv_records.proofs.number.is_grouped.Given as goal

abbrev pub invariant-loop-c : goal.invariant-loop-c
invariant-loop-c l = IsWalked l.size l.mark l.text (chars_rest l.c-iterator) l.is_first l.count
