use Rattle.std.proofs.Common.{◌≡◌, map, take}
use Rattle.comfy_parts.specs.Text.{greatest}
use Rattle.csv_records.specs.Delimiter.{agreement_by, best_delimiter, tried_delimiters}
use Rattle.csv_records.proofs.delimiter.found_delimiter.Given as goal

abbrev pub invariant-loop-delimiter : goal.invariant-loop-delimiter
invariant-loop-delimiter l = (l.most ≡ greatest (map (agreement_by l.fn.has_quotes l.fn.text) (take l.delimiter-index tried_delimiters)))
    × (l.found ≡ best_delimiter (agreement_by l.fn.has_quotes l.fn.text) (take l.delimiter-index tried_delimiters))
