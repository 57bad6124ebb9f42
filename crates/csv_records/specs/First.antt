-- The first records of a text.
-- Source: this library's own.
use Rattle.std.specs.Prelude.{ℕ, ◌≡◌, List, length, take}
use Rattle.comfy_parts.specs.Text.{Text}
use Rattle.csv_records.specs.declared.records.FirstRecords.{FirstRecords}

-- `first` has the first records, at most `most` of them, and the number of all records
pub record AreFirst (Are : List (List Text) → Type 0) (most : ℕ)
    (first : FirstRecords) : Type 0 where
  pub all : List (List Text)
  pub are : Are all
  pub records : first.records ≡ take most all
  pub count : first.count ≡ length all
