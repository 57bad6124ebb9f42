use Rattle.std.proofs.Common.{◌≡◌, ◌++◌, string_bytes}
use Rattle.comfy_parts.specs.Text.{spaces}
use Rattle.csv_tables.proofs.decimals.with_spaces.Given as goal

abbrev pub invariant-loop : goal.invariant-loop
invariant-loop l = string_bytes l.made ≡ l.text ++ spaces l.counter
