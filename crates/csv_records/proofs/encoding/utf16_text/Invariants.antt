use Rattle.std.proofs.Common.{string_bytes}
use Rattle.csv_records.specs.Lines.{below_lines}
use Rattle.csv_records.specs.Encoding.{order_of, units, without_utf16_mark}
use Rattle.csv_records.proofs.EncodingLemmas.{HasDecoded, units_left}
use Rattle.csv_records.proofs.encoding.utf16_text.Given as goal

abbrev pub invariant-loop-read : goal.invariant-loop-read
invariant-loop-read l = HasDecoded (below_lines l.fn.skip (units (order_of l.fn.input) (without_utf16_mark l.fn.input))) (units_left l.read-iterator) (string_bytes l.text)
