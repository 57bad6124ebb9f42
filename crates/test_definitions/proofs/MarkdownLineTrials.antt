-- Fields that are read back from lines for Markdown, computed.
use Rattle.std.proofs.Common.{◌≡◌, ◌==◌, ℕ, ap, false, true, List, [], ◌∷◌, None, Some, map, refl}
use Rattle.std.specs.Prelude.{codes, slice_index, slice_index_or}
use Rattle.std.specs.Str.{chars}
use Rattle.std.proofs.lemmas.Bool.{true≢false}
use Rattle.comfy_parts.proofs.Computing.{wrapping}
use Rattle.csv.specs.Records.{field_at}
use Rattle.comfy_parts.specs.Text.{Text}
use Rattle.comfy_parts.specs.declared.style.cell.CellAlignment.TheVariants.{Right}
use Rattle.csv_tables.specs.Cells.{Shown, shown_in}
use Rattle.comfy_table.specs.Drawing.{infos_of}
use Rattle.csv_tables.specs.Drawn.{SelectedValue, markdown_lines, markdown_table, sides}
use Rattle.csv_tables.specs.Markdown.{rule_line}
use Rattle.csv_tables.specs.declared.options.ColumnPlan.{ColumnPlan}
use Rattle.csv_tables.specs.declared.options.Look.{Look}
use Rattle.csv_tables.proofs.MarkdownLineLemmas.{GivesBack}
use Rattle.csv_tables.specs.MarkdownLines.{parts_between_bars, read_part, without_outer_spaces}
use Rattle.csv_tables.specs.declared.selection.Noun.TheVariants.{Record}
use Rattle.test_definitions.proofs.PlainLook.{plain_look}

-- the parts of a line, as they are read
abbrev read : List ℕ → List (List ℕ)
read line = map read_part (parts_between_bars line)

-- a bar after a backslash ends no part, but one after two backslashes does
bars_end_parts : parts_between_bars (codes "|a|b|") ≡ [] ∷ codes "a" ∷ codes "b" ∷ [] ∷ []
bars_end_parts = refl

escaped_bars_end_none : parts_between_bars (codes "|a\\|b|") ≡ [] ∷ codes "a\\|b" ∷ [] ∷ []
escaped_bars_end_none = refl

backslashes_are_escaped_too : parts_between_bars (codes "|a\\\\|b|") ≡ [] ∷ codes "a\\\\" ∷ codes "b" ∷ [] ∷ []
backslashes_are_escaped_too = refl

no_bar_is_one_part : parts_between_bars [] ≡ [] ∷ []
no_bar_is_one_part = refl

-- spaces around a text aren't part of it, and those within it are
outer_spaces_are_none : without_outer_spaces (codes "  a  b ") ≡ codes "a  b"
outer_spaces_are_none = refl

spaces_alone_are_none : without_outer_spaces (codes "   ") ≡ []
spaces_alone_are_none = refl

-- lines as they are drawn
names_are_read : read (codes "| item | price |") ≡ [] ∷ codes "item" ∷ codes "price" ∷ [] ∷ []
names_are_read = refl

fields_are_read : read (codes "| a\\|b<br>c |    12 |") ≡ [] ∷ codes "a|b\nc" ∷ codes "12" ∷ [] ∷ []
fields_are_read = refl

blank_fields_are_read : read (codes "|      | \\* |") ≡ [] ∷ [] ∷ codes "*" ∷ [] ∷ []
blank_fields_are_read = refl

-- ---- tables

-- a look that keeps nothing
abbrev look : Look
look = record plain_look { is_markdown = true }

-- two names, and one record
abbrev content : SelectedValue
content =
    record {
      names = Some (codes "a" ∷ codes "n" ∷ []);
      rows = (codes "x|y" ∷ codes "12" ∷ []) ∷ [];
      columns = record { position = 0; alignment = None; points = None; is_nowrap = false } ∷ record { position = 1; alignment = Some Right; points = None; is_nowrap = false } ∷ [];
      count = None;
      is_numbered = false;
      noun = Record;
    }

-- the line below the header has a colon for the right-aligned column
header_rule_and_rows : markdown_lines (codes "|------|---:|") (record { table = markdown_table look content; infos = infos_of (markdown_table look content) (4 ∷ 2 ∷ []) })
    ≡ codes "| a    |  n |" ∷ codes "|------|---:|" ∷ codes "| x\\|y | 12 |" ∷ []
unfolding wrapping lib.Utf8.encode chars field_at
header_rule_and_rows = refl

rule_of_contents : rule_line (sides content) (4 ∷ 2 ∷ []) ≡ codes "|------|---:|"
rule_of_contents = refl

-- ---- records

-- two columns in another order
abbrev columns : List ColumnPlan
columns = record { position = 1; alignment = None; points = None; is_nowrap = false } ∷ record { position = 0; alignment = None; points = None; is_nowrap = false } ∷ []

-- the texts that they show of fields
abbrev shown : List Text → List Shown
shown fields = shown_in look false false columns (1, fields)

-- the line of a record gives it back, with an empty field for a missing one, and another line doesn't
record_is_given_back : GivesBack (shown (codes " a\n" ∷ codes "b|c" ∷ [])) (codes "| b\\|c | a<br> |")
unfolding wrapping lib.Utf8.encode chars field_at
record_is_given_back = refl

missing_field_is_given_back : GivesBack (shown (codes "a" ∷ [])) (codes "|  | a |")
unfolding wrapping lib.Utf8.encode chars field_at
missing_field_is_given_back = refl

other_order_is_not : ¬ (GivesBack (shown (codes "a" ∷ codes "b" ∷ [])) (codes "| a | b |"))
unfolding wrapping lib.Utf8.encode chars field_at
other_order_is_not is = true≢false (ap (λ (parts : List (List ℕ)). slice_index (slice_index_or parts 1 []) 0 == 0x61) is)
