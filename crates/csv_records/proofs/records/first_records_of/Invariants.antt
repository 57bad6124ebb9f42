use Rattle.std.proofs.Common.{◌≡◌, ℕ, List, [], Some, All, length, map, take}
use Rattle.csv.specs.Reading.{Reached, Ready, source_of, strip_bom}
use Rattle.csv.specs.Records.{AllText, fields_of, partial_of}
use Rattle.csv.specs.declared.parser.State.TheVariants as st
use Rattle.csv.specs.declared.reader.Trim.TheVariants as trim
use Rattle.csv_records.specs.Input.{config_for}
use Rattle.csv_records.specs.Places.{IsWithin, fields_at}
use Rattle.csv_records.proofs.records.first_records_of.Given as goal

abbrev pub invariant-loop-count : goal.invariant-loop-count
invariant-loop-count l = (l.reader.trim ≡ trim.None) × Ready l.reader × (l.reader.config ≡ config_for l.fn.delimiter l.fn.has_quotes)
    × (y : List ℕ) × (source_of (λ s. Some s.now) l.reader ≡ Some y)
    × (all : List (List (List ℕ)))
    × Reached (config_for l.fn.delimiter l.fn.has_quotes) st.StartRecord (strip_bom l.fn.text) all l.reader.state y
    × All AllText all
    × (length all ≡ l.count)
    × (map (fields_at (fields_of l.fields)) l.places.items ≡ take l.most all)
    × All (IsWithin (fields_of l.fields)) l.places.items
    × AllText (fields_of l.fields)
    × (partial_of l.fields ≡ [])
