-- Tables with lines between their rows, and without them.
use Rattle.std.proofs.Common.{◌≡◌, ℕ, Bool, true, false, List, [], ◌∷◌, Option, Some, None, flat_map, map, drop, take, refl, sym, ap, ◌∙◌}
use Rattle.std.specs.List.{All}
use Rattle.std.proofs.lemmas.List.Elements.{All-append, All-cons, All-drop, All-take}
use Rattle.comfy_parts.proofs.CallerLemmas.{frame_adds}
use Rattle.comfy_parts.specs.CellValue.{RowValue}
use Rattle.comfy_parts.specs.Columns.{IsOneColumn, IsOneColumnStyle, style_characters}
use Rattle.comfy_parts.specs.Text.{Text}
use Rattle.comfy_parts.specs.declared.style.table_style.TableStyle.{TableStyle}
use Rattle.comfy_table.specs.TableValue.{TableValue, with_row, with_rows}
use Rattle.csv_tables.specs.Cells.{counted_from, row_for}
use Rattle.csv_tables.specs.declared.options.Look.{Look}
use Rattle.csv_tables.proofs.BuiltLemmas.{plain_table}
use Rattle.csv_tables.specs.Drawn.{SelectedValue, condensed_style, empty_table, headed_table, pairs_in, separated_table}

-- a look with lines between rows, or without them
abbrev pub separated : Bool → Look → Look
separated true look = look
separated false look = record look { style = condensed_style look.style }

-- ---- styles

-- a style without lines between rows has only the other characters of the style
pub condensed-all : (P : Option ℕ → Type 0) → P None → (style : TableStyle) → All P (style_characters style) → All P (style_characters (condensed_style style))
condensed-all P none style all =
    let cs = style_characters style in
    All-append P (take 14 cs) (None ∷ None ∷ None ∷ None ∷ drop 18 cs) (All-take P 14 cs all)
    (All-cons P None (None ∷ None ∷ None ∷ drop 18 cs) none
    (All-cons P None (None ∷ None ∷ drop 18 cs) none
    (All-cons P None (None ∷ drop 18 cs) none
    (All-cons P None (drop 18 cs) none (All-drop P 18 cs all)))))

-- its characters are as wide
pub separated_is_one_column : (has : Bool) (look : Look) → IsOneColumnStyle look.style → IsOneColumnStyle (separated has look).style
separated_is_one_column true look all = all
separated_is_one_column false look all = condensed-all IsOneColumn (frame_adds 0x20 refl) look.style all

-- ---- tables

-- lines between rows can be left out before rows are appended
condensed-rows : (rows : List RowValue) (table : TableValue) → separated_table false (with_rows rows table) ≡ with_rows rows (separated_table false table)
condensed-rows [] table = refl
condensed-rows (row ∷ rows) table = condensed-rows rows (with_row row table)

module _ (look : Look) (content : SelectedValue) where
  condensed-headed : (names : Option (List Text)) → separated_table false (headed_table look content.is_numbered content.columns names) ≡ headed_table (separated false look) content.is_numbered content.columns names
  condensed-headed None = refl
  condensed-headed (Some names) = refl

  -- the table of records with these lines or without them is the one of the look with or without them
  pub restyled : (is_expanded is_aligned has : Bool) → plain_table is_expanded is_aligned (separated has look) content ≡ separated_table has (plain_table is_expanded is_aligned look content)
  restyled is_expanded is_aligned true = refl
  restyled true is_aligned false = sym (condensed-rows (flat_map (pairs_in look content) content.rows) (empty_table look))
  restyled false is_aligned false =
      let rows = map (row_for look is_aligned content.is_numbered content.columns) (counted_from 1 content.rows) in
      sym (condensed-rows rows (headed_table look content.is_numbered content.columns content.names) ∙ ap (with_rows rows) (condensed-headed content.names))
