use Rattle.std.proofs.Common.{◌≡◌, ◌++◌, ◌∷◌, [], ◌∙◌, ℕ, List, ap, ap₂, arith, drop, length, length-append, rules}
use Rattle.std.proofs.lemmas.List.{drop-append-le, drop_all}
use Rattle.csv.specs.Records.{Rising, last_end, partial_of}
use Rattle.csv.proofs.RecordFacts.{cut-end, cut-more, last-append, rising-end, rising-last, rising-more}
use Rattle.csv_records.proofs.fields.Fields.push_field.Goals as goal

-- more bytes leave the fields before them in place
grown : (ends bytes more : List ℕ) → Rising 0 ends (length bytes) → Rising 0 ends (length (bytes ++ more))
grown ends bytes more rising = rising-more 0 ends (length bytes) (length (bytes ++ more)) rising (omega (arith, length-append bytes more))

pub invariant_of-self-2 : goal.invariant_of-self-2
invariant_of-self-2 c =
    let size : c.len.result ≡ length c.extend_from_slice.new.self.items = search rules in
    rw (c.in_ok-push.ensures.ok, size, c.in_ok-extend_from_slice.ensures.items) (rising-end 0 c.self.inside.ends _ (grown c.self.inside.ends c.self.inside.bytes.items c.args.field.now c.self.invariant))

pub invariant_of-self-in_err-push : goal.invariant_of-self-in_err-push
invariant_of-self-in_err-push c = rw (c.in_err-push.ensures.err, c.in_ok-extend_from_slice.ensures.items) (grown c.self.inside.ends c.self.inside.bytes.items c.args.field.now c.self.invariant)

pub returns-clause-whole : goal.returns-clause-whole
returns-clause-whole c =
    let size : c.len.result ≡ length c.extend_from_slice.new.self.items = search rules in
    rw (c.in_ok-push.ensures.ok, size, last-append 0 c.self.inside.ends (length c.extend_from_slice.new.self.items)) (drop_all _ c.extend_from_slice.new.self.items (omega arith))

pub returns-clause-fields : goal.returns-clause-fields
returns-clause-fields c =
    let ends = c.self.inside.ends in
    let bytes = c.self.inside.bytes.items in
    let field = c.args.field.now in
    let size : c.len.result ≡ length c.extend_from_slice.new.self.items = search rules in
    let whole : drop (last_end 0 ends) bytes ≡ [] = ap partial_of c.self.view_is ∙ c.requires.whole in
    let last : drop (last_end 0 ends) (bytes ++ field) ≡ field = drop-append-le (last_end 0 ends) bytes field (rising-last 0 ends (length bytes) c.self.invariant) ∙ ap (λ (t : List ℕ). t ++ field) whole in
    rw (← c.self.view_is, c.in_ok-push.ensures.ok, size, c.in_ok-extend_from_slice.ensures.items)
    (cut-end 0 ends (bytes ++ field) (grown ends bytes field c.self.invariant) ∙ ap₂ (λ (xs : List (List ℕ)) (x : List ℕ). xs ++ x ∷ []) (cut-more 0 ends bytes field c.self.invariant) last)
