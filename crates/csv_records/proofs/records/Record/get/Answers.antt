use Rattle.std.proofs.Common.{◌≡◌, ◌<◌, ◌≤◌, ◌+◌, ◌∙◌, ℕ, List, None, Some, ap, arith, length, rules, sym}
use Rattle.comfy_parts.specs.Text.{Text}
use Rattle.csv.specs.Records.{field_at, fields_of}
use Rattle.csv.proofs.RecordFacts.{field-none, text-of}
use Rattle.csv_records.specs.Places.{IsWithin, fields_at}
use Rattle.csv_records.specs.declared.records.Place.{Place}
use Rattle.csv_records.proofs.PlaceLemmas.{field_of_record, size}
use Rattle.csv_records.proofs.records.Record.get.Goals as goal

here : (fields own : List Text) (place : Place) (i : ℕ) → IsWithin fields place → fields_at fields place ≡ own → i < length own → field_at fields (place.start + i) ≡ field_at own i
here fields own place i within view below = field_of_record fields place i (omega (arith, below, ap length view, size fields place within)) ∙ ap (λ (fs : List Text). field_at fs i) view

pub overflow_add-self-inside : goal.overflow_add-self-inside
overflow_add-self-inside c =
    let len = c.len.ensures ∙ ap length (sym c.self.view_is) ∙ size (fields_of c.self.inside.fields.now) c.self.inside.place c.self.invariant.0 in
    omega (arith, len, c.if-position-len.true, c.self.invariant.0.0, c.self.invariant.0.2)

pub from_utf8_unchecked-requires : goal.from_utf8_unchecked-requires
from_utf8_unchecked-requires c = text-of _ _ _ c.self.invariant.1 (sym c.in_ok-field.ensures.value)

pub returns-in_ok-field-clause-value : goal.returns-in_ok-field-clause-value
returns-in_ok-field-clause-value c =
    let same : Some c.from_utf8_unchecked.result.now ≡ Some c.in_ok-field.field.now = search rules in
    same ∙ c.in_ok-field.ensures.value ∙ here (fields_of c.self.inside.fields.now) c.args.self.now c.self.inside.place c.args.position c.self.invariant.0 c.self.view_is (omega (arith, c.len.ensures, c.if-position-len.true))

pub returns-in_err-field-clause-value : goal.returns-in_err-field-clause-value
returns-in_err-field-clause-value c =
    let none : c.from_residual.result ≡ None = search rules in
    rw none (c.in_err-field.ensures.value ∙ here (fields_of c.self.inside.fields.now) c.args.self.now c.self.inside.place c.args.position c.self.invariant.0 c.self.view_is (omega (arith, c.len.ensures, c.if-position-len.true)))

pub returns-else-position-len-clause-value : goal.returns-else-position-len-clause-value
returns-else-position-len-clause-value c =
    let past : length c.args.self.now ≤ c.args.position = omega (arith, c.len.ensures, c.if-position-len.false) in
    sym (field-none c.args.self.now c.args.position past)
