use Rattle.std.proofs.Common.{◌≡◌, map}
use Rattle.comfy_parts.specs.Text.{greatest}
use Rattle.csv_tables.specs.NoWrap.{word_width}
use Rattle.csv_tables.proofs.needs.lent_word_width.Given as goal

abbrev pub invariant-loop-line : goal.invariant-loop-line
invariant-loop-line l = l.widest ≡ greatest (map word_width (map (λ p. p.now) l.yielded))
