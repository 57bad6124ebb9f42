use Rattle.std.proofs.Common.{◌≡◌, ◌++◌, chars, length, string_bytes}
use Rattle.std.specs.Str.{encode_utf8_all}
use denote.Shadow.{shadow}
use denote.Text.{Utf8}
use Rattle.csv_tables.specs.Markdown.{escaped, escaped_after}
use Rattle.csv_tables.proofs.markdown.escaped.Given as goal

abbrev pub decreases-loop-c : goal.decreases-loop-c
decreases-loop-c l = length l.rest

abbrev pub invariant-loop-c : goal.invariant-loop-c
invariant-loop-c l =
    record {
      utf8 : shadow (Utf8 l.rest);
      whole : string_bytes l.cell ++ encode_utf8_all (escaped_after l.is_marked l.before (chars l.rest)) ≡ encode_utf8_all (escaped (chars l.text));
    }
