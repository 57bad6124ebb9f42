use Rattle.std.proofs.Common.{◌≡◌, map, take}
use Rattle.csv_command.proofs.styles.names_of.Given as goal

abbrev pub invariant-loop-name : goal.invariant-loop-name
invariant-loop-name l = map (λ name. name.now) l.names.items ≡ map (λ entry. entry.0.now) (take l.name-index l.styles)
