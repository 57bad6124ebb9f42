use Rattle.std.proofs.Common.{◌≡◌, ◌++◌, [], take}
use Rattle.csv.specs.Records.{fields_of, partial_of}
use Rattle.csv_records.proofs.fields.Fields.push_record.Given as goal

abbrev pub invariant-loop-field : goal.invariant-loop-field
invariant-loop-field l = (fields_of l.self ≡ fields_of l.initial.self ++ take l.field-iterator.at (fields_of l.fn.more)) × (l.field-iterator.row.now ≡ l.fn.more) × (partial_of l.self ≡ [])
