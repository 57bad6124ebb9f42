use Rattle.std.proofs.Common.{◌≡◌, ◌<◌, ◌+◌, ◌-◌, ◌∙◌, arith, length, sym}
use Rattle.csv.proofs.RecordFacts.{prev-first, prev-next}
use Rattle.csv_records.proofs.fields.Ends.start.Goals as goal

pub returns-then-at-eq0 : goal.returns-then-at-eq0
returns-then-at-eq0 c = rw c.if-at-eq0.true (sym (prev-first c.args.self.now))

pub returns-else-at-eq0 : goal.returns-else-at-eq0
returns-else-at-eq0 c =
    let one : (c.args.at - 1) + 1 ≡ c.args.at = omega (arith, c.if-at-eq0.false) in
    let below : (c.args.at - 1) + 1 < length c.args.self.now = rw one c.requires in
    c.get.ensures ∙ sym (rw one at (prev-next 0 c.args.self.now (c.args.at - 1) 0 below))
