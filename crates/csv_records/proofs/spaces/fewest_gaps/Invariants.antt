use Rattle.std.proofs.Common.{◌≡◌, drop, fold, map, min}
use Rattle.csv_records.specs.Spaces.{fewest_gaps, line_gaps}
use Rattle.csv_records.proofs.spaces.fewest_gaps.Given as goal

abbrev pub invariant-loop-line : goal.invariant-loop-line
invariant-loop-line l = fold min l.fewest (map line_gaps (map (λ line. line.now) (drop l.line-index l.others))) ≡ fewest_gaps (map (λ line. line.now) l.fn.lines)
