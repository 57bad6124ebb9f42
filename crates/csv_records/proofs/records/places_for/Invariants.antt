use Rattle.std.proofs.Common.{◌≡◌, ◌≤◌, take}
use Rattle.csv_records.specs.CutLists.{total}
use Rattle.csv_records.specs.Places.{places_for}
use Rattle.csv_records.proofs.records.places_for.Given as goal

abbrev pub invariant-loop-count : goal.invariant-loop-count
invariant-loop-count l = (l.places.items ≡ places_for 0 (take l.count-index l.counts)) × (l.start ≡ total (take l.count-index l.counts)) × (l.start ≤ l.field_count)
