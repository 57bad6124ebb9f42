use Rattle.std.proofs.Common.{◌≡◌, ◌∙◌, Bor, List, ap, map, nat_lt, subst, sym}
use Rattle.std.proofs.lemmas.Result.{IfOk-weaker}
use Rattle.std.specs.List.{list_any}
use Rattle.comfy_parts.specs.CellValue.{ColumnInfo}
use Rattle.comfy_table.specs.Arrangement.{AreInfosOf}
use Rattle.comfy_table.specs.Parts.{ArrangedValue}
use Rattle.comfy_table.specs.Pieces.{row_height}
use Rattle.comfy_table.specs.TableValue.{with_other_rows}
use Rattle.csv_tables.proofs.PieceLemmas.{height_as}
use Rattle.csv_tables.specs.Contents.{rows_from}
use Rattle.csv_tables.specs.LazyTableValue.{LazyTableValue}
use Rattle.csv_tables.proofs.separators.has_tall_row.Goals as goal

pub returns : goal.returns
returns c =
    let rows = c.contents.inside.rows in
    let table = c.args.contents.now.table in
    let writer : ArrangedValue = c.in_ok-writer.writer in
    let infos = writer.infos in
    let own : with_other_rows table.rows writer.table ≡ table =
    subst (λ (k : Bor LazyTableValue). with_other_rows k.now.table.rows writer.table ≡ k.now.table) c.in_ok-arranged.ensures.contents c.in_ok-writer.ensures.table in
    let found = subst (AreInfosOf table) (sym c.in_ok-writer.ensures.infos) c.in_ok-arranged.ensures.infos in
    IfOk-weaker c.is_any_tall.result _ _
    (λ is_tall is. (
      found.0,
      found.1,
      is
          ∙ (λ i. list_any (nat_lt 1) (map (λ row. height_as writer.table table infos own row i) (rows_from rows 0 rows.selected.rows)))
          ∙ ap (λ v. list_any (nat_lt 1) (map (row_height table infos) v.table.rows)) c.contents.view_is
          ∙ ap (λ (is : List ColumnInfo). list_any (nat_lt 1) (map (row_height table is) table.rows)) found.2,
    ))
    c.is_any_tall.ensures

pub returns-then-is_flat_within : goal.returns-then-is_flat_within
returns-then-is_flat_within c =
    let table = c.args.contents.now.table in
    let found = c.in_ok-arranged.ensures.infos in (
      found.0,
      found.1,
      sym (c.is_flat_within.ensures c.if-is_flat_within.true)
          ∙ ap (λ (is : List ColumnInfo). list_any (nat_lt 1) (map (row_height table is) table.rows)) (c.infos.ensures ∙ found.2),
    )
