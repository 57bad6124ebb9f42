use Rattle.std.proofs.Common.{◌≡◌, ◌++◌, flat_map, string_bytes}
use Rattle.std.specs.List.{range_with_len}
use Rattle.csv_command.specs.Hints.{listed_part, separator_before}
use Rattle.csv_command.proofs.hints.listed_names.Given as goal

abbrev pub invariant-loop-place : goal.invariant-loop-place
invariant-loop-place l = string_bytes l.text ≡ flat_map (λ place. separator_before l.parts place ++ listed_part l.names l.count place) (range_with_len 0 l.place)
