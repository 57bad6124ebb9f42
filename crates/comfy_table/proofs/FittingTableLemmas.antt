-- Tables whose characters fit their columns are straight.
use Rattle.std.proofs.Common.{inl, inr, ⊎_elim, List, slice_index_or}
use Rattle.std.specs.List.{All}
use Rattle.std.specs.Prelude.{IsUtf8}
use Rattle.comfy_parts.proofs.CallerLemmas.{All-at, fitting-parts, fitting_characters_fit}
use Rattle.comfy_parts.specs.CellValue.{CellValue}
use Rattle.comfy_parts.specs.Text.{Text}
use Rattle.comfy_table.specs.Drawing.{infos_of}
use Rattle.comfy_table.specs.FittingTables.{FitsByCharacters, FittingTablesAreStraight}
use Rattle.comfy_table.specs.Lines.{cell_delimiter}
use Rattle.comfy_table.specs.Pieces.{shown_infos}
use Rattle.comfy_table.specs.Straight.{EachCell, TextsFit}
use Rattle.comfy_table.specs.TableValue.{TableValue, measured_rows}

pub fitting_tables_are_straight : (table : TableValue) (lines : List Text) → FittingTablesAreStraight table lines
fitting_tables_are_straight table lines drawing characters apart each =
    record { characters = characters; apart = apart; fits = inr (inl fits) }
  where
    fits : EachCell (TextsFit table) table drawing.widths
    fits k default under j other below cell found =
        let row = slice_index_or (measured_rows table) k default in
        let p = slice_index_or (shown_infos (infos_of table drawing.widths)) j other in
        let own : FitsByCharacters table row p.1 cell = each k default under j other below cell found in
        let whole = All-at (λ (c : CellValue). All IsUtf8 c.text_lines) row.cells p.0 cell (drawing.texts.whole_texts k default under) found in
        record {
          fit = λ i text inside. fitting_characters_fit p.1.content_width (cell_delimiter table p.1.delimiter cell) (slice_index_or cell.text_lines i text) own.delimiter (whole i text inside) (own.characters i text inside);
          cut = λ h limited more. (
            λ i text inside. (fitting-parts p.1.content_width (slice_index_or cell.text_lines i text) (own.characters i text inside)).1,
            ⊎_elim (λ uncut. absurd (cc (uncut, limited))) (λ joined_by_none. joined_by_none) own.indicator,
          );
        }
