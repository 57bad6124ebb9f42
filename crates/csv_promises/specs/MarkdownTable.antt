-- The fields that a reader of a Markdown table gets back.
-- Source: this library's own; CommonMark for backslashes, GitHub for tables.
use Rattle.std.specs.Prelude.{◌≡◌, ◌⊎◌, ℕ, ◌≤◌, true, List, [], ◌∷◌, ◌++◌, Option, Some, All, chars, length, map}
use Rattle.std.specs.List.{AllZip}
use Rattle.comfy_parts.specs.Text.{Text, measure}
use Rattle.comfy_parts.specs.declared.style.cell.CellAlignment.{CellAlignment}
use Rattle.comfy_table.specs.Drawing.{terminated_text_of}
use Rattle.comfy_table.specs.Laws.{HasNoBreak}
use Rattle.csv_command.specs.declared.arguments.Options.{Options}
use Rattle.csv_tables.specs.Drawn.{drawn_rows, names_or_none, note_for}
use Rattle.csv_tables.specs.Laws.{EachText}
use Rattle.csv_tables.specs.Markdown.{rule_line}
use Rattle.csv_tables.specs.MarkdownLines.{parts_between_bars, read_part, without_outer_spaces}
use Rattle.csv_promises.specs.Counted.{IsCount}
use Rattle.csv_promises.specs.Fields.{all_rows, no_marks, positions_in}

-- A line has these fields. A reader splits it at its bars, except those after a backslash. In each
-- part a backslash means the character after it, and `<br>` means a line break. Spaces at the ends
-- of a part and of a field don't count.
abbrev pub HasFields : List Text → Text → Type 0
HasFields fields line =
    map read_part (parts_between_bars (chars line))
    ≡ [] ∷ (map (λ (field : Text). without_outer_spaces (chars field)) fields ++ [] ∷ [])

-- the line below the header has dashes and a bar for each of n columns; the last dash of a
-- right-aligned column is a colon
pub record IsRule (n : ℕ) (line : Text) : Type 0 where
  pub sides : List (Option CellAlignment)
  pub widths : List ℕ
  pub one_for_each : (length sides ≡ n) × (length widths ≡ n)
  pub is : line ≡ rule_line sides widths

-- the names, which are blank if there is no header, and below them the drawn records. Each record
-- has its fields in the columns that options choose, and its number if that is requested.
abbrev pub names_and_rows : Options → List (List Text) → List (List Text)
names_and_rows options records =
    all_rows options.selection.is_numbered no_marks
    (positions_in options (names_or_none options.selection records)
    (drawn_rows options.selection records)) (Some (names_or_none options.selection records))
    (drawn_rows options.selection records)

-- a text is a Markdown table of records: a line for the names, a rule, and one line with the fields
-- of each drawn record. Below an empty line is the note about other records.
pub record IsMarkdownTable (options : Options) (records : List (List Text)) (text : Text)
    : Type 0 where
  pub count : Option ℕ
  pub is_count : IsCount options records count
  pub columns : ℕ
  pub header : Text
  pub rule : Text
  pub lines : List Text
  pub is :
      text ≡ terminated_text_of (header ∷ rule ∷ lines)
      ++ note_for options.selection.noun true options.selection.limit count
  pub unbroken : All HasNoBreak (header ∷ rule ∷ lines)
  pub is_rule : IsRule columns rule
  pub as_many :
      All (λ (fields : List Text). length fields ≡ columns) (names_and_rows options records)
  pub have_fields : AllZip HasFields (names_and_rows options records) (header ∷ lines)

-- the output for records is a Markdown table, or nothing if there are no records. No line of a
-- field, as it is written, may take more than 65535 terminal columns
abbrev pub IsWrittenAsMarkdown : Options → List (List Text) → Text → Type 0
IsWrittenAsMarkdown options records text =
    EachText (λ line. measure line ≤ 65535) options.look records
    → ((records ≡ []) × (text ≡ [])) ⊎ IsMarkdownTable options records text
