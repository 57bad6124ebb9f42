use Rattle.std.proofs.Common.{◌≡◌, ◌++◌, flat_map, map, string_bytes}
use Rattle.csv_tables.specs.Markdown.{rule_part}
use Rattle.csv_tables.proofs.markdown.push_rule.Given as goal

abbrev pub invariant-loop-side : goal.invariant-loop-side
invariant-loop-side l = string_bytes l.text ≡ string_bytes l.initial.text ++ flat_map rule_part (map (λ p. (p.0.now, p.1.now)) l.yielded)
