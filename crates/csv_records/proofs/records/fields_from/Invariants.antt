use Rattle.std.proofs.Common.{◌≡◌, [], map, take}
use Rattle.csv.specs.Records.{AllText, fields_of, partial_of}
use Rattle.csv_records.proofs.records.fields_from.Given as goal

abbrev pub invariant-loop-text : goal.invariant-loop-text
invariant-loop-text l = (partial_of l.made ≡ []) × (fields_of l.made ≡ map (λ text. text.now) (take l.text-index l.texts)) × AllText (fields_of l.made)
