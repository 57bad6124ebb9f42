use Rattle.std.proofs.Common.{◌≡◌, ◌++◌, ◌-◌, string_bytes}
use denote.Text.{Utf8}
use denote.Shadow.{shadow}
use Rattle.csv_records.specs.Spaces.{tabbed_line}
use Rattle.csv_records.proofs.spaces.push_tabbed.Given as goal

abbrev pub invariant-loop : goal.invariant-loop
invariant-loop l = shadow (Utf8 l.rest) × (string_bytes l.text ++ tabbed_line (l.fn.gaps - l.counter) l.rest ≡ string_bytes l.fn.text ++ tabbed_line l.fn.gaps l.fn.line)
