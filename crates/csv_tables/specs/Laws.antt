-- Properties of every output.
-- Source: this library's own.
use Rattle.std.specs.Prelude.{◌≡◌, ◌⊎◌, ℕ, ◌+◌, ◌≤◌, Bool, true, false, List, ◌++◌, Option, Some, None, All, Contains, flat_map, length, map}
use Rattle.std.specs.List.{range_with_len}
use Rattle.comfy_parts.specs.CellValue.{plain_cell}
use Rattle.comfy_parts.specs.Columns.{CharactersFit, IsOneColumnStyle, SelectorsAgree}
use Rattle.comfy_parts.specs.Text.{Text, measure, spaces}
use Rattle.comfy_table.specs.Arrangement.{IsArranged}
use Rattle.comfy_table.specs.Drawing.{terminated_text_of}
use Rattle.comfy_table.specs.FittingTables.{CharactersFitColumn}
use Rattle.comfy_table.specs.Laws.{AreLinesOf, HasNoBreak, HasNoControl, IsStyleWithout, count}
use Rattle.comfy_table.specs.NewTables.{AreEquallyWide}
use Rattle.comfy_table.specs.Straight.{EachCell}
use Rattle.comfy_table.specs.TableValue.{TableValue}
use Rattle.csv_tables.specs.Cells.{field_text, text_in}
use Rattle.csv_tables.specs.Fields.{field_or_blank}
use Rattle.csv_tables.specs.declared.options.ColumnPlan.{ColumnPlan}
use Rattle.csv_records.specs.Cleaning.{visible_of}
use Rattle.csv_records.specs.Decimals.{byte_of, digits_in, fraction_len, points_of, trailing_spaces}
use Rattle.csv_records.specs.Number.{halves, is_neutral}
use Rattle.csv_records.specs.declared.decimals.Points.{Points}
use Rattle.csv_tables.specs.Controls.{IsHarmlessStyle}
use Rattle.csv_tables.specs.Drawn.{SelectedValue, RendersRecords, selected_of, is_expanded_for, note_for, output_table, record_line, separated_table}
use Rattle.csv.specs.Records.{AllText}
use Rattle.csv_tables.specs.declared.options.Look.{Look}
use Rattle.csv_tables.specs.declared.options.Layout.{Layout}

-- ---- decimal points

-- `drawn` is a text with spaces after it, or without
abbrev pub HasTrailingSpaces : Text → Text → Type 0
HasTrailingSpaces text drawn = (n : ℕ) × (drawn ≡ text ++ spaces n)

-- a column shows the field of a record unchanged, except for spaces after it
abbrev pub SpacesAloneAreAdded : Look → Bool → ColumnPlan → List Text → Type 0
SpacesAloneAreAdded look is_aligned column fields =
    HasTrailingSpaces (field_or_blank fields column.position)
    (text_in look is_aligned column fields)

-- In a column with a decimal mark, the fraction of each field and the spaces after it are together
-- as long as the longest fraction. Neutral fields are exempt.
abbrev pub MarksAreLinedUp : List Text → Type 0
MarksAreLinedUp fields =
    (points : Points) → points_of fields ≡ Some points
    → All (λ field. (is_neutral field ≡ true)
    ⊎ (fraction_len (halves (byte_of points.mark) (digits_in field)) + trailing_spaces points field
    ≡ points.longest)) fields

-- ---- lines

-- an expanded record: its heading, and some lines below it
abbrev pub numbered_lines : SelectedValue → (ℕ → List Text) → ℕ → Text
numbered_lines content parts at =
    record_line content.noun (at + 1) content.count ++ terminated_text_of (parts at)

-- These are the lines of a text. Of expanded records, only such lines are below each heading.
abbrev pub HasLines : Bool → SelectedValue → List Text → Text → Type 0
HasLines false content lines text = AreLinesOf text lines
HasLines true content lines text =
    (parts : ℕ → List Text) × ((at : ℕ) → All (Contains lines) (parts at)) × All HasNoBreak lines
    × (text
    ≡ flat_map (numbered_lines content parts) (range_with_len 0 (length content.rows)))

-- an output has these lines, before the note about records that aren't drawn
pub record IsOutputWith (counted : Option ℕ) (layout : Layout) (records : List (List Text))
    (output : Text) (lines : List Text) : Type 0 where
  pub content : SelectedValue
  pub is_content : selected_of counted layout records ≡ content
  pub is_expanded : Bool
  pub expansion : is_expanded ≡ is_expanded_for layout.look content
  pub text : Text
  pub has_lines : HasLines is_expanded content lines text
  pub joined :
      output
      ≡ text ++ note_for content.noun layout.look.is_markdown layout.selection.limit content.count

-- the table that is drawn of some records: of their rows or of their fields, with lines between
-- rows or without
abbrev pub IsDrawnTable : Look → SelectedValue → TableValue → Type 0
IsDrawnTable look content table =
    (has_separators : Bool) × (table
    ≡ separated_table has_separators (output_table (is_expanded_for look content) look content))

-- ---- what is visible of lines

-- Conditions for seeing lines. Lines with their sequences are seen as they are written if nothing
-- is bold. Without sequences they are seen if the style has no control characters, and all fields
-- are UTF-8.
abbrev pub AreSeen : Bool → Look → List (List Text) → Type 0
AreSeen false look records = look.has_bold_header ≡ false
AreSeen true look records = IsHarmlessStyle look.style × All AllText records

-- lines are seen in this way, they end only at line feeds, and sequences of fields aren't kept
pub record ArePlainLines (visible : Bool) (look : Look) (records : List (List Text)) : Type 0 where
  pub seen : AreSeen visible look records
  pub unbroken : IsStyleWithout 0x0A look.style
  pub no_sequences : look.has_sequences ≡ false

-- the visible text of lines
abbrev pub seen_lines : Bool → List Text → List Text
seen_lines visible lines = map (visible_of visible) lines

-- ---- straight edges

-- P holds for each text line of each field as it is drawn
abbrev pub EachText : (Text → Type 0) → Look → List (List Text) → Type 0
EachText P look records =
    All (λ (fields : List Text). All
    (λ (field : Text). All P (plain_cell (field_text look field)).text_lines) fields) records

-- The visible lines of an output take the same number of terminal columns each. Without their
-- sequences, no control character is visible in them.
pub record IsStraightOutput (visible : Bool) (counted : Option ℕ) (layout : Layout)
    (records : List (List Text)) (output : Text) : Type 0 where
  pub lines : List Text
  pub is_output : IsOutputWith counted layout records output lines
  pub equally_wide : AreEquallyWide (seen_lines visible lines)
  pub clear : visible ≡ true → All HasNoControl (seen_lines visible lines)

-- no text is cut by height, or no text has U+FE01 directly beside U+FE0E or U+FE0F
abbrev pub CanBeCut : Look → List (List Text) → Type 0
CanBeCut look records = (look.max_height ≡ None) ⊎ EachText SelectorsAgree look records

-- an output without a set width is straight, for texts of every script
abbrev pub WholeOutputIsStraight : Bool → Option ℕ → Layout → List (List Text) → Text → Type 0
WholeOutputIsStraight visible counted layout records output =
    IsOneColumnStyle layout.look.style → ArePlainLines visible layout.look records
    → layout.look.width ≡ None → CanBeCut layout.look records
    → EachText (λ text. measure text ≤ 65535) layout.look records
    → RendersRecords counted layout records output
    → IsStraightOutput visible counted layout records output

-- an output for Markdown is straight, whatever else the look requires
abbrev pub MarkdownOutputIsStraight : Option ℕ → Layout → List (List Text) → Text → Type 0
MarkdownOutputIsStraight counted layout records output =
    layout.look.is_markdown ≡ true → EachText (λ text. measure text ≤ 65535) layout.look records
    → RendersRecords counted layout records output
    → IsStraightOutput false counted layout records output

-- under every width an output is straight if no character takes more than one terminal column
abbrev pub NarrowOutputIsStraight : Bool → Option ℕ → Layout → List (List Text) → Text → Type 0
NarrowOutputIsStraight visible counted layout records output =
    layout.look.is_markdown ≡ false → IsOneColumnStyle layout.look.style
    → ArePlainLines visible layout.look records → EachText (CharactersFit 1) layout.look records
    → RendersRecords counted layout records output
    → IsStraightOutput visible counted layout records output

-- each character of each text fits its column, for all widths that are arranged for the table
abbrev pub CharactersFitEachWidth : Option ℕ → Layout → List (List Text) → Type 0
CharactersFitEachWidth counted layout records =
    (content : SelectedValue) (table : TableValue) (widths : List ℕ)
    → selected_of counted layout records ≡ content → IsDrawnTable layout.look content table
    → IsArranged table widths → EachCell CharactersFitColumn table widths

-- under every width an output is straight if each character of each text fits its column
abbrev pub FittingOutputIsStraight : Bool → Option ℕ → Layout → List (List Text) → Text → Type 0
FittingOutputIsStraight visible counted layout records output =
    layout.look.is_markdown ≡ false → IsOneColumnStyle layout.look.style
    → ArePlainLines visible layout.look records → CharactersFitEachWidth counted layout records
    → RendersRecords counted layout records output
    → IsStraightOutput visible counted layout records output
