-- The header among rows.
use Rattle.std.proofs.Common.{◌≡◌, ◌==◌, ◌+◌, ◌∷◌, ◌∙◌, [], ℕ, Bool, true, false, not, List, None, Option, Some, ap, drop, refl, take}
use Rattle.std.specs.List.{slice_get}
use Rattle.std.specs.Prelude.{if◌then◌else◌}
use Rattle.comfy_parts.specs.CellValue.{CellValue, RowValue}
use Rattle.comfy_c.specs.CellCalls.{header_among, rows_with}
use Rattle.comfy_c.specs.Numbers.{row_with}
use Rattle.comfy_c.specs.declared.cells_rows.RowNumbers.{RowNumbers}
use Rattle.comfy_c.specs.declared.cells_settings.CellsSettings.{CellsSettings}

module _ (settings : CellsSettings) (cells : List CellValue) where
  -- the first row is the header
  module _ (row : RowNumbers) (rows : List RowNumbers) (has : (settings.has_header == 0) ≡ false) where
    first_above : header_among settings (rows_with (row ∷ rows) cells) ≡ Some (row_with row (take row.cells cells))
    first_above = ap (λ (none : Bool). if not none then Some (row_with row (take row.cells cells)) else None) has

  pub header_is : (rows : List RowNumbers) (row : RowNumbers) → slice_get rows 0 ≡ Some row → (settings.has_header == 0) ≡ false → header_among settings (rows_with rows cells) ≡ Some (row_with row (take row.cells cells))
  header_is [] row is has = absurd (cc is)
  header_is (first ∷ rest) row is has =
      let same : first ≡ row = cc is in
      first_above first rest has ∙ ap (λ (own : RowNumbers). Some (row_with own (take own.cells cells))) same
