use Rattle.std.proofs.Common.{◌≡◌, ◌∙◌, ap, arith, length, sym}
use Rattle.csv.proofs.RecordFacts.{cut-length, field-none}
use Rattle.csv.specs.Records.{fields_of}
use Rattle.csv_records.proofs.fields.Fields.get.Goals as goal

pub returns-then-at-len-clause-value : goal.returns-then-at-len-clause-value
returns-then-at-len-clause-value c =
    let count = cut-length 0 c.self.inside.ends c.self.inside.bytes.items in
    rw (← c.self.view_is) (sym (field-none _ c.args.at (omega (arith, count, c.len.ensures, c.if-at-len.true))))

pub returns-clause-value : goal.returns-clause-value
returns-clause-value c = sym c.field_from.ensures.value

pub start-requires : goal.start-requires
start-requires c =
    let count : length (fields_of c.args.self.now) ≡ length c.self.inside.ends = ap (λ r. length (fields_of r)) (sym c.self.view_is) ∙ cut-length 0 c.self.inside.ends c.self.inside.bytes.items in
    omega (arith, count, c.len.ensures, c.if-at-len.false)

pub field_from-requires-clause-there : goal.field_from-requires-clause-there
field_from-requires-clause-there c =
    let count : length (fields_of c.args.self.now) ≡ length c.self.inside.ends = ap (λ r. length (fields_of r)) (sym c.self.view_is) ∙ cut-length 0 c.self.inside.ends c.self.inside.bytes.items in
    omega (arith, count, c.len.ensures, c.if-at-len.false)
