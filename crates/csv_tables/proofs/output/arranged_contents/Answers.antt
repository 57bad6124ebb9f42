use Rattle.std.proofs.Common.{◌≡◌, [], All, ap, subst, sym, ◌∙◌}
use Rattle.std.proofs.lemmas.Result.{IfOk-weaker}
use Rattle.std.specs.Prelude.{unwrap_or}
use Rattle.comfy_parts.specs.CellValue.{IsRow}
use Rattle.csv_tables.proofs.WholeRowLemmas.{rows_whole}
use Rattle.csv.specs.Records.{AllText}
use Rattle.csv_tables.specs.Contents.{rows_from}
use Rattle.csv_tables.specs.LazyTableValue.{LazyTableValue}
use Rattle.csv_tables.proofs.output.arranged_contents.Goals as goal

pub returns-clause-rows : goal.returns-clause-rows
returns-clause-rows c = sym (ap (λ v. v.table.rows) c.contents.view_is) ∙ ap (λ v. rows_from v.rows 0 v.rows.selected.rows) c.contents.view_is

pub returns-clause-infos : goal.returns-clause-infos
returns-clause-infos c =
    let contents = c.args.contents in
    let rows = contents.rows in
    let own : contents.table.rows ≡ rows_from rows 0 rows.selected.rows = sym (ap (λ v. v.table.rows) c.contents.view_is) ∙ ap (λ v. rows_from v.rows 0 v.rows.selected.rows) c.contents.view_is in
    let names = subst (λ (v : LazyTableValue). AllText (unwrap_or v.rows.selected.names [])) c.contents.view_is c.hold_texts.ensures.names in
    let texts = subst (λ (v : LazyTableValue). All AllText v.rows.selected.rows) c.contents.view_is c.hold_texts.ensures.rows in
    let whole : All IsRow contents.table.rows = subst (All IsRow) (sym own) (rows_whole rows names 0 rows.selected.rows texts) in
    IfOk-weaker c.of_contents.result _ _ (λ arranged drawn. drawn whole) c.of_contents.ensures.drawing
