use Rattle.std.proofs.Common.{◌≡◌, drop, map, max}
use Rattle.csv_records.specs.Spaces.{most_gaps}
use Rattle.csv_records.proofs.spaces.most_gaps.Given as goal

abbrev pub invariant-loop-line : goal.invariant-loop-line
invariant-loop-line l = max l.most (most_gaps (map (λ line. line.now) (drop l.line-index l.lines))) ≡ most_gaps (map (λ line. line.now) l.fn.lines)
