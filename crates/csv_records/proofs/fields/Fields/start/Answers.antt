use Rattle.std.proofs.Common.{◌≡◌, ◌∙◌, ap, arith, length, sym}
use Rattle.csv.proofs.RecordFacts.{cut-length}
use Rattle.csv.specs.Records.{fields_of}
use Rattle.csv_records.proofs.fields.Fields.start.Goals as goal

pub start-requires : goal.start-requires
start-requires c =
    let count : length (fields_of c.args.self.now) ≡ length c.self.inside.ends = ap (λ r. length (fields_of r)) (sym c.self.view_is) ∙ cut-length 0 c.self.inside.ends c.self.inside.bytes.items in
    omega (arith, count, c.requires)
