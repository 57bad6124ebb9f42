use Rattle.std.proofs.Common.{◌≡◌, map, string_bytes}
use Rattle.std.specs.Str.{encode_utf8_all}
use Rattle.csv_records.specs.Shown.{shown_in}
use Rattle.csv_records.proofs.shown.shown_text.Given as goal

abbrev pub invariant-loop-c : goal.invariant-loop-c
invariant-loop-c l = string_bytes l.shown ≡ encode_utf8_all (map (shown_in l.keeps_breaks) l.yielded)
