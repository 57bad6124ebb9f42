use Rattle.std.proofs.Common.{◌≡◌, ◌≤◌, map}
use Rattle.comfy_parts.specs.Text.{greatest}
use Rattle.csv_tables.specs.NoWrap.{nowrap_width}
use Rattle.csv_tables.proofs.nowrap.lent_nowrap_width.Given as goal

abbrev pub invariant-loop-line : goal.invariant-loop-line
invariant-loop-line l = (l.widest ≡ greatest (map (nowrap_width l.room) (map (λ p. p.now) l.yielded))) × (l.widest ≤ l.room)
