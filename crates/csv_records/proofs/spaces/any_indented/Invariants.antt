use Rattle.std.proofs.Common.{◌≡◌, drop, map}
use Rattle.std.specs.List.{list_any}
use Rattle.csv_records.specs.Spaces.{is_indented}
use Rattle.csv_records.proofs.spaces.any_indented.Given as goal

abbrev pub invariant-loop-line : goal.invariant-loop-line
invariant-loop-line l = list_any is_indented (map (λ line. line.now) (drop l.line-index l.lines)) ≡ list_any is_indented (map (λ line. line.now) l.fn.lines)
