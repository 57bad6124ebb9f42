use Rattle.std.proofs.Common.{All, List, arith, subst, suc}
use Rattle.csv.specs.Records.{fields_of}
use Rattle.csv_records.specs.Places.{IsWithin}
use Rattle.csv_records.specs.declared.records.Place.{Place}
use Rattle.csv_records.proofs.records.RowsIterator.next.Goals as goal

pub invariant_of-self : goal.invariant_of-self
invariant_of-self c =
    let all = subst (λ (places : List Place). All (IsWithin (fields_of c.self.inside.fields.now)) places) c.in_ok-place.ensures.cases.0 c.self.invariant.0 in
    (λ k d below. all (suc k) d (omega (arith, below)), c.self.invariant.1)
