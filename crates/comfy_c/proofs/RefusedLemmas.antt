-- Without a known style, known lines between rows and a known expansion there is no layout.
use Rattle.std.proofs.Common.{◌≡◌, ℕ, Bool, true, false, List, Option, Some, None, is_none, refl, ap, ◌∙◌, slice_get}
use Rattle.std.specs.Prelude.{if◌then◌else◌}
use Rattle.comfy_parts.specs.Text.{Text}
use Rattle.comfy_parts.specs.declared.style.table_style.TableStyle.{TableStyle}
use Rattle.csv_tables.specs.declared.options.Expansion.{Expansion}
use Rattle.csv_tables.specs.declared.options.Look.{Look}
use Rattle.csv_tables.specs.declared.options.RowSeparators.{RowSeparators}
use Rattle.comfy_c.specs.Frames.{style_for}
use Rattle.comfy_c.specs.RowCalls.{can_have, expansions, layout_by, layout_for, look_by, look_for, selection_for, separators}
use Rattle.comfy_c.specs.RowColumns.{columns_for}
use Rattle.comfy_c.specs.declared.cells_numbers.LookNumbers.{LookNumbers}
use Rattle.comfy_c.specs.declared.rows_columns.RowsColumn.{RowsColumn}
use Rattle.comfy_c.specs.declared.rows_settings.RowsSettings.{RowsSettings}

is_missing : {A : Type 0} (found : Option A) → is_none found ≡ true → found ≡ None
is_missing None is = refl
is_missing (Some x) is = absurd (cc is)

module _ (settings : RowsSettings) where
  no_lines : (style : Option TableStyle) (expansion : Option Expansion) → look_by settings style None expansion ≡ None
  no_lines None expansion = refl
  no_lines (Some style) expansion = refl

  no_expansion : (style : Option TableStyle) (lines : Option RowSeparators) → look_by settings style lines None ≡ None
  no_expansion None lines = refl
  no_expansion (Some style) None = refl
  no_expansion (Some style) (Some lines) = refl

  module _ (looks : List LookNumbers) (heights : List ℕ) (columns : List RowsColumn) (rows : List (List Text)) where
    no_layout : look_for settings ≡ None → layout_for settings looks heights columns rows ≡ None
    no_layout none = by_test (can_have settings looks heights columns)
      where
        by_test : (b : Bool) → (if b then layout_by (selection_for settings) (look_for settings) (columns_for (selection_for settings) columns rows) else None) ≡ None
        by_test true = ap (λ (look : Option Look). layout_by (selection_for settings) look (columns_for (selection_for settings) columns rows)) none
        by_test false = refl

    pub without_style : is_none (style_for settings.style settings.frame) ≡ true → layout_for settings looks heights columns rows ≡ None
    without_style none =
        no_layout
        (ap (λ (style : Option TableStyle). look_by settings style (slice_get separators settings.row_lines) (slice_get expansions settings.expansion))
        (is_missing (style_for settings.style settings.frame) none))

    pub without_lines : is_none (slice_get separators settings.row_lines) ≡ true → layout_for settings looks heights columns rows ≡ None
    without_lines none =
        no_layout
        (ap (λ (lines : Option RowSeparators). look_by settings (style_for settings.style settings.frame) lines (slice_get expansions settings.expansion))
        (is_missing (slice_get separators settings.row_lines) none)
        ∙ no_lines (style_for settings.style settings.frame) (slice_get expansions settings.expansion))

    pub without_expansion : is_none (slice_get expansions settings.expansion) ≡ true → layout_for settings looks heights columns rows ≡ None
    without_expansion none =
        no_layout
        (ap (λ (expansion : Option Expansion). look_by settings (style_for settings.style settings.frame) (slice_get separators settings.row_lines) expansion)
        (is_missing (slice_get expansions settings.expansion) none)
        ∙ no_expansion (style_for settings.style settings.frame) (slice_get separators settings.row_lines))
