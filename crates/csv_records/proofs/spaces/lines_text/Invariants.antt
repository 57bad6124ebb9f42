use Rattle.std.proofs.Common.{◌≡◌, ◌++◌, drop, map, string_bytes}
use Rattle.csv_records.specs.Spaces.{lines_text}
use Rattle.csv_records.proofs.spaces.lines_text.Given as goal

abbrev pub invariant-loop-line : goal.invariant-loop-line
invariant-loop-line l =
    string_bytes l.text ++ lines_text l.gaps (map (λ line. line.now) (drop l.line-index l.lines))
    ≡ l.first ++ lines_text l.gaps (map (λ line. line.now) l.lines)
