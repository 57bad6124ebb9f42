use Rattle.std.proofs.Common.{◌≡◌, ℕ, List, [], ◌∷◌, arith, length, refl, rules, subst, ◌∙◌, ap}
use Rattle.std.specs.List.{All}
use Rattle.std.specs.Str.{IsUtf8}
use Rattle.std.proofs.lemmas.List.Elements.{All-head}
use Rattle.std.proofs.lemmas.Result.{IfOk-weaker}
use Rattle.comfy_parts.specs.CellValue.{CellValue, RowValue, info_of, new_column, plain_cell, plain_row}
use Rattle.comfy_table.specs.Drawing.{drawing}
use Rattle.comfy_table.specs.Headline.{IsTableDrawing}
use Rattle.comfy_table.specs.TableValue.{TableValue}
use Rattle.test_callers.specs.Uses.{text_within}
use Rattle.test_callers.proofs.uses.drawing.drawn_whole.Goals as goal

-- a list of one width
one_width : (widths : List ℕ) → length widths ≡ 1 → (w : ℕ) × (widths ≡ w ∷ [])
one_width [] one = absurd (omega (arith, one))
one_width (w ∷ []) one = (w, refl)
one_width (w ∷ x ∷ more) one = absurd (omega (arith, one))

pub returns : goal.returns
returns c =
    IfOk-weaker c.lines.result _ _ (λ lines known.
    let row = plain_row (plain_cell c.args.text.now ∷ []) in
    let table : TableValue = text_within c.args.width c.args.text.now in
    let drawn : IsTableDrawing table lines = subst (λ (t : TableValue). IsTableDrawing t lines) (search rules) known in
    let one = one_width drawn.widths drawn.arranged.one_for_each in
    let cells = All-head (λ (row : RowValue). All (λ (cell : CellValue). All IsUtf8 cell.text_lines) row.cells) row [] drawn.texts.whole_texts in
    let whole = All-head (λ (cell : CellValue). All IsUtf8 cell.text_lines) (plain_cell c.args.text.now) [] cells in
    (one.0, drawn.drawn ∙ ap (drawing table) one.1, c.cells_keep_their_text.ensures table row (info_of (new_column 0) one.0) (plain_cell c.args.text.now) refl refl whole))
    c.lines.ensures.headline
