use Rattle.std.proofs.Common.{◌≡◌, map, string_bytes}
use Rattle.csv_command.proofs.arguments.words_between_commas.Given as goal

abbrev pub invariant-loop-word : goal.invariant-loop-word
invariant-loop-word l = map string_bytes l.words.items ≡ map (λ p. p.now) l.yielded
