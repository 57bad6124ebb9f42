-- Summaries of benchmarks.
use Rattle.std.specs.Prelude.{◌≡◌, ℕ, ◌≤◌, true, List, [], ◌∷◌, Some, All, codes, map, string_bytes}
use Rattle.comfy_parts.specs.CellValue.{RowValue, number_cell, plain_cell, plain_row}
use Rattle.comfy_parts.specs.Presets.{utf8_full}
use Rattle.comfy_parts.specs.Text.{Text, is_printable_ascii, measure}
use Rattle.comfy_parts.specs.declared.style.table.ContentArrangement.TheVariants.{Dynamic}
use Rattle.comfy_table.specs.NewTables.{AreEquallyWide}
use Rattle.comfy_table.specs.TableValue.{TableValue}
use Rattle.example_proved.specs.declared.summary.Measurement.{Measurement}
use Rattle.promises.specs.Kept.{AreShown, ShowsRow}
use Rattle.promises.specs.Rows.{table_of}

abbrev pub heading : RowValue
heading =
    plain_row (plain_cell (codes "Benchmark") ∷ plain_cell (codes "ns") ∷ plain_cell (codes "Runs")
    ∷ [])

abbrev pub row_of : Measurement → RowValue
row_of one =
    plain_row (plain_cell (string_bytes one.name) ∷ number_cell one.nanos ∷ number_cell one.runs
    ∷ [])

abbrev pub summary_table : ℕ → List Measurement → TableValue
summary_table w measurements = table_of utf8_full Dynamic (Some w) heading (map row_of measurements)

-- the name is printable ASCII
abbrev pub HasPlainName : Measurement → Type 0
HasPlainName one = is_printable_ascii (string_bytes one.name) ≡ true

-- all lines are equally wide, and none is wider than a width of at least 13, if names are printable
-- ASCII; all texts are shown
pub record IsSummary (measurements : List Measurement) (w : ℕ) (lines : List Text) : Type 0 where
  pub equally_wide : All HasPlainName measurements → AreEquallyWide lines
  pub fits : 13 ≤ w → All HasPlainName measurements → All (λ line. measure line ≤ w) lines
  pub shows_all : AreShown (ShowsRow (summary_table w measurements)) (summary_table w measurements)
      lines
