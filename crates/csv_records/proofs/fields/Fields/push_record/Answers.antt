use Rattle.std.proofs.Common.{◌≡◌, ◌+◌, ◌++◌, ◌∙◌, ◌∷◌, [], None, Some, add-one, ap, append_assoc, sym, take}
use Rattle.csv.specs.Records.{field_at, fields_of}
use Rattle.csv_records.proofs.PlaceLemmas.{all_taken, one_taken}
use Rattle.csv_records.proofs.fields.Fields.push_record.Goals as goal

pub loop-field-preserved : goal.loop-field-preserved
loop-field-preserved c =
    let inv = c.loop-field.invariant in
    let more = fields_of c.args.more.now in
    let at = c.loop-field.field-iterator.at in
    let step = rw c.in-Some.is at c.next.ensures.steps in
    let here : field_at more at ≡ Some c.in-Some.field.now = ap (λ r. field_at (fields_of r) at) (sym inv.1) ∙ sym step.1 in
    let taken : take (at + 1) more ≡ take at more ++ c.in-Some.field.now ∷ [] = rw add-one (one_taken more at c.in-Some.field.now here) in
    let pushed : fields_of c.push_field.new.self ≡ fields_of c.loop-field.self ++ c.in-Some.field.now ∷ [] = c.in_ok-push_field.ensures.fields in (
      pushed ∙ ap (λ xs. xs ++ c.in-Some.field.now ∷ []) inv.0 ∙ append_assoc (fields_of c.args.self.now) (take at more) (c.in-Some.field.now ∷ []) ∙ ap (λ xs. fields_of c.args.self.now ++ xs) (sym taken) ∙ ap (λ n. fields_of c.args.self.now ++ take n more) (sym step.2),
      ap (λ r. r.now) step.0 ∙ inv.1,
      c.in_ok-push_field.ensures.whole,
    )

pub returns-clause-fields : goal.returns-clause-fields
returns-clause-fields c =
    let inv = c.loop-field.invariant in
    let more = fields_of c.args.more.now in
    let at = c.loop-field.field-iterator.at in
    let step = rw c.in-None.is at c.next.ensures.steps in
    let none : field_at more at ≡ None = ap (λ r. field_at (fields_of r) at) (sym inv.1) ∙ sym step.1 in
    inv.0 ∙ ap (λ xs. fields_of c.args.self.now ++ xs) (all_taken more at none)
