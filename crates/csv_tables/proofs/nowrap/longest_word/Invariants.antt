use Rattle.std.proofs.Common.{◌≡◌, ◌≤◌, drop, max}
use Rattle.csv_tables.proofs.WordLemmas.{longest_after}
use Rattle.csv_tables.proofs.nowrap.longest_word.Given as goal

abbrev pub invariant-loop-byte : goal.invariant-loop-byte
invariant-loop-byte l =
    (max l.longest (longest_after l.len (drop l.byte-index l.line)) ≡ longest_after 0 l.line)
    × (l.len ≤ l.byte-index)
