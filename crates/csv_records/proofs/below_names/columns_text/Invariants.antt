use Rattle.std.proofs.Common.{◌≡◌, ◌++◌, drop, map, string_bytes}
use Rattle.csv_records.specs.BelowNames.{columns_text}
use Rattle.csv_records.proofs.below_names.columns_text.Given as goal

abbrev pub invariant-loop-line : goal.invariant-loop-line
invariant-loop-line l = string_bytes l.text ++ columns_text l.starts (map (λ line. line.now) (drop l.line-index l.fn.lines)) ≡ columns_text l.starts (map (λ line. line.now) l.fn.lines)
