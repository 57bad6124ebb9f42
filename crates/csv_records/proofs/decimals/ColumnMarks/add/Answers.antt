use Rattle.std.proofs.Common.{◌≡◌, ◌&&◌, ap, rules, tests}
use Rattle.csv_records.specs.Decimals.{is_plain}
use Rattle.csv_records.specs.declared.field_number.FieldNumber.{FieldNumber}
use Rattle.csv_records.proofs.DecimalLemmas.{marks_more}
use Rattle.csv_records.proofs.decimals.ColumnMarks.add.Goals as goal
use Rattle.csv_records.proofs.decimals.ColumnMarks.add.Goals.{else-self, then-self}

pub returns : goal.returns
returns c is fields same =
    let plain : c.if-self.self ≡ (c.args.self.now.are_plain && is_plain c.args.field.now) = elim c.if-self.branch [ then-self w ↦ search (rules, tests) | else-self w ↦ search (rules, tests) ] in
    marks_more fields c.args.field.now c.args.self.now _ same plain (c.add.ensures (ap (λ (n : FieldNumber). n.point) is)) (c.add-2.ensures (ap (λ (n : FieldNumber). n.comma) is))
