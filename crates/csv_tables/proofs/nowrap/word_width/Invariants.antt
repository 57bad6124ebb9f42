use Rattle.std.proofs.Common.{◌≡◌, map}
use Rattle.comfy_parts.specs.Text.{greatest, measure}
use Rattle.csv_tables.proofs.nowrap.word_width.Given as goal

abbrev pub invariant-loop-word : goal.invariant-loop-word
invariant-loop-word l = l.widest ≡ greatest (map measure (map (λ p. p.now) l.yielded))
