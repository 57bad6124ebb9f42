use Rattle.std.proofs.Common.{◌≡◌, ◌==◌, length, map, not}
use Rattle.std.specs.List.{filter}
use Rattle.csv_records.specs.Spaces.{trimmed_line}
use Rattle.csv_records.proofs.spaces.filled_lines.Given as goal

abbrev pub invariant-loop-line : goal.invariant-loop-line
invariant-loop-line l = map (λ s. s.now) l.lines.items ≡ filter (λ line. not (length (trimmed_line line) == 0)) (map (λ p. p.now) l.yielded)
