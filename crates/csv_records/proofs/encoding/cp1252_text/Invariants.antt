use Rattle.std.proofs.Common.{◌≡◌, ◌++◌, drop, string_bytes}
use Rattle.csv_records.specs.Encoding.{cp1252_text}
use Rattle.csv_records.proofs.encoding.cp1252_text.Given as goal

abbrev pub invariant-loop-byte : goal.invariant-loop-byte
invariant-loop-byte l = string_bytes l.text ++ cp1252_text (drop l.byte-index l.input) ≡ cp1252_text l.input
