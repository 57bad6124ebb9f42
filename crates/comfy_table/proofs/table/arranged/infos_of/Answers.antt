use Rattle.std.proofs.Common.{All, List, IfSome, ap, refl, subst, ◌∙◌}
use Rattle.std.specs.Str.{IsUtf8}
use Rattle.comfy_parts.specs.CellValue.{ColumnValue, IsColumn, IsDelimiter, IsRow}
use Rattle.comfy_table.proofs.HeadlineLemmas.{table_drawing, utf8_indicator}
use Rattle.comfy_table.proofs.OneDrawingLemmas.{arranged_is_one}
use Rattle.comfy_table.specs.Drawing.{drawing_of_infos, infos_of}
use Rattle.comfy_table.specs.Headline.{IsTableDrawing}
use Rattle.comfy_table.specs.TableValue.{KeepsParts, TableValue}
use Rattle.comfy_table.proofs.table.arranged.infos_of.Goals as goal

pub returns-clause-drawing : goal.returns-clause-drawing
returns-clause-drawing g c =
    let whole = g.C.TableSource.whole c.args.contents.now in
    let infos = c.in_ok-infos.infos.items in
    let utf8 : IsUtf8 whole.indicator = subst (λ (t : TableValue). IsUtf8 t.indicator) c.table-table.ensures (subst (λ (t : TableValue). IsUtf8 t.indicator) c.table.view_is (utf8_indicator c.table.inside.indicator)) in
    let keeps : All IsRow whole.rows → KeepsParts whole = λ rows. subst KeepsParts c.table-table.ensures (record {
      columns = subst (λ (columns : List ColumnValue). All IsColumn columns) (c.as_slice.ensures.value ∙ ap (λ (t : TableValue). t.columns) c.table.view_is) c.look_at_columns.ensures;
      header = subst (λ (t : TableValue). IfSome t.header IsRow) c.table.view_is c.look_at_header.ensures;
      rows = rows;
      delimiter = subst (λ (t : TableValue). IsDelimiter t.delimiter) c.table.view_is c.table.invariant;
    }) in
    let headline : All IsRow whole.rows → IsTableDrawing whole (drawing_of_infos whole infos) = λ rows. table_drawing whole infos (drawing_of_infos whole infos) utf8 (keeps rows) c.in_ok-infos.ensures refl in
    λ rows.
    let drawn = headline rows in
    record {
      of_table = refl;
      headline = drawn;
      infos = c.in_ok-infos.ensures.2 ∙ ap (infos_of whole) (arranged_is_one whole c.in_ok-infos.ensures.0 drawn.widths c.in_ok-infos.ensures.1 drawn.arranged);
    }
