-- The output for records: their drawing, and the lines that count them.
-- Source: this library's own.
use Rattle.std.specs.Prelude.{◌≡◌, ◌<◌, ℕ, ◌+◌, Bool, true, false, List, [], ◌∷◌, ◌++◌, Option, All, MatchOption, length}
use Rattle.comfy_parts.specs.Text.{Text}
use Rattle.comfy_table.specs.Laws.{AreLinesOf}
use Rattle.csv_command.specs.declared.arguments.Options.{Options}
use Rattle.csv_tables.specs.Drawn.{drawn_rows, note_for, record_line, records_below}
use Rattle.csv_tables.specs.declared.options.Expansion.{Expansion}
use Rattle.csv_tables.specs.declared.options.Expansion.TheVariants.{Always, Auto, Never}
use Rattle.csv_tables.specs.declared.options.Layout.{Layout}
use Rattle.csv_tables.specs.declared.selection.Noun.{Noun}
use Rattle.csv_tables.specs.declared.selection.Selection.{Selection}

-- records are expanded always, never, or depending on the width
abbrev pub MayExpand : Expansion → Bool → Type 0
MayExpand Always is_expanded = is_expanded ≡ true
MayExpand Never is_expanded = is_expanded ≡ false
MayExpand Auto is_expanded = Unit {0}

-- the number of records below the header. It may be unknown if options don't request a count, and
-- then there are more records than are drawn
abbrev pub IsCount : Options → List (List Text) → Option ℕ → Type 0
IsCount options records count =
    MatchOption count
    ((options.counts_all ≡ false)
    × (length (drawn_rows options.selection records)
    < length (records_below options.selection.has_header records)))
    (λ n. n ≡ length (records_below options.selection.has_header records))

-- the output for records: their drawing, expanded or not, and then the note `3 of 12 records`, or
-- `first 3 records; there are more`, if the limit leaves some out
pub record IsDrawnWithNote (Draws : Bool → Option ℕ → Text → Type 0)
    (MayCount : Option ℕ → Type 0) (wanted : Expansion) (selection : Selection) (text : Text)
    : Type 0 where
  pub count : Option ℕ
  pub is_count : MayCount count
  pub is_expanded : Bool
  pub expansion : MayExpand wanted is_expanded
  pub drawn : Text
  pub draws : Draws is_expanded count drawn
  pub joined : text ≡ drawn ++ note_for selection.noun false selection.limit count

-- the output for records by options
abbrev pub IsWrittenFor : (Bool → Option ℕ → Text → Type 0) → Options → List (List Text) → Text
    → Type 0
IsWrittenFor Draws options records text =
    IsDrawnWithNote Draws (IsCount options records) options.look.expansion options.selection text

-- a text is that of expanded records, which are counted from `number` on. For each record it has a
-- line `record 2 of 7`, or `record 2`, and below it a text for the fields.
abbrev pub AreExpanded : (List Text → Text → Type 0) → Noun → Option ℕ → ℕ → List (List Text)
    → Text → Type 0
AreExpanded Shows noun count number [] text = text ≡ []
AreExpanded Shows noun count number (fields ∷ rows) text =
    (own : Text) × (rest : Text) × (text ≡ record_line noun number count ++ (own ++ rest))
    × Shows fields own × AreExpanded Shows noun count (number + 1) rows rest

-- P holds for each line of a text
pub record HasEachLine (P : Text → Type 0) (text : Text) : Type 0 where
  pub lines : List Text
  pub are : AreLinesOf text lines
  pub each : All P lines

-- P holds for each drawn line, which excludes the headings of expanded records
abbrev pub DrawsLines :
    (Text → Type 0) → Noun → List (List Text) → Bool → Option ℕ → Text → Type 0
DrawsLines P noun rows false count text = HasEachLine P text
DrawsLines P noun rows true count text =
    AreExpanded (λ fields own. HasEachLine P own) noun count 1 rows text

-- P holds for each line that a layout draws of records; `MayCount` restricts the number in the note
abbrev pub EachLineFor : (Text → Type 0) → (Option ℕ → Type 0) → Layout → List (List Text) → Text
    → Type 0
EachLineFor P MayCount layout records text =
    IsDrawnWithNote (DrawsLines P layout.selection.noun (drawn_rows layout.selection records))
    MayCount layout.look.expansion layout.selection text

-- P holds for each line of the output for records, except those that count records
abbrev pub EachDrawnLine : (Text → Type 0) → Options → List (List Text) → Text → Type 0
EachDrawnLine P options records text =
    IsWrittenFor (DrawsLines P options.selection.noun (drawn_rows options.selection records))
    options records text
