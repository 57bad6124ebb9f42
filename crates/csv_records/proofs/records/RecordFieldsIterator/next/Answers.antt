use Rattle.std.proofs.Common.{◌<◌, ◌+◌, ◌∷◌, ◌∙◌, ap, arith, sym}
use Rattle.comfy_parts.specs.Text.{Text}
use Rattle.csv.proofs.RecordFacts.{cut-length, prev-next, text-of}
use Rattle.csv.specs.Records.{fields_of}
use Rattle.csv_records.specs.Places.{fields_at}
use Rattle.csv_records.proofs.PlaceLemmas.{first_left}
use Rattle.csv_records.proofs.records.RecordFieldsIterator.next.Goals as goal

pub from_utf8_unchecked-requires : goal.from_utf8_unchecked-requires
from_utf8_unchecked-requires c =
    text-of (fields_of c.self.inside.fields.now) c.self.inside.place.start c.field_from-next.result.0.now c.self.invariant.0.1 c.field_from-next.ensures.value

pub invariant_of-self : goal.invariant_of-self
invariant_of-self c =
    let place = c.self.inside.place in
    let fields = c.self.inside.fields.now in
    let within = c.self.invariant.0.0 in
    let count = cut-length 0 fields.ends fields.bytes in (
      ((omega (arith, within.0, c.if-start-end.false), within.1, within.2), c.self.invariant.0.1),
      λ more. c.field_from-next.ensures.end ∙ sym (prev-next 0 fields.ends place.start 0 (omega (arith, more, within.1, count))),
    )

pub returns-clause-steps : goal.returns-clause-steps
returns-clause-steps c =
    let place = c.self.inside.place in
    let fields = fields_of c.self.inside.fields.now in
    let within = c.self.invariant.0.0 in
    let below : place.start < place.end = omega (arith, within.0, c.if-start-end.false) in
    sym c.self.view_is ∙ first_left fields place c.field_from-next.result.0.now below c.field_from-next.ensures.value
    ∙ ap (λ (field : Text). field ∷ fields_at fields (record { start = place.start + 1; end = place.end })) (sym c.from_utf8_unchecked.ensures)
