use Rattle.std.proofs.Common.{◌≡◌, chars, length}
use denote.Shadow.{shadow}
use denote.Text.{Utf8}
use Rattle.csv_tables.specs.Markdown.{is_word_marked}
use Rattle.csv_tables.proofs.markdown.is_word_marked.Given as goal

abbrev pub decreases-loop-c : goal.decreases-loop-c
decreases-loop-c l = length l.rest

abbrev pub invariant-loop-c : goal.invariant-loop-c
invariant-loop-c l =
    record {
      utf8 : shadow (Utf8 l.rest);
      left : is_word_marked l.before (chars l.rest) ≡ is_word_marked l.fn.before (chars l.text);
    }
