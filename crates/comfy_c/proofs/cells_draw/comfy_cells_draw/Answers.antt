use Rattle.std.proofs.Common.{string_bytes}
use Rattle.std.proofs.lemmas.Result.{IfErr-at_err}
use Rattle.comfy_c.proofs.CallLemmas.{of_drawing, of_length}
use Rattle.comfy_c.specs.CellCalls.{IsCellsDrawing, IsCellsRefusal}
use Rattle.comfy_c.proofs.cells_draw.comfy_cells_draw.Goals as goal

pub returns-clause-drawn : goal.returns-clause-drawn
returns-clause-drawn c is =
    let own = c.hand_over.ensures.drawn is in
    (own.0, of_drawing (IsCellsDrawing c.args.texts.now c.args.cells.now c.args.rows.now c.args.columns.now c.args.indicator.now c.args.settings.now) string_bytes c.cells_drawing-made.result c.cells_drawing-made.ensures.drawn own.1)

pub returns-clause-room_too_small : goal.returns-clause-room_too_small
returns-clause-room_too_small c is =
    let own = c.hand_over.ensures.room_too_small is in
    let made = of_length (IsCellsDrawing c.args.texts.now c.args.cells.now c.args.rows.now c.args.columns.now c.args.indicator.now c.args.settings.now) string_bytes c.cells_drawing-made.result c.cells_drawing-made.ensures.drawn own.1 in
    (own.0, made.0, made.1, made.2)

pub returns-clause-input_refused : goal.returns-clause-input_refused
returns-clause-input_refused c is = IfErr-at_err (IsCellsRefusal c.args.texts.now c.args.cells.now c.args.rows.now c.args.indicator.now c.args.settings.now) (c.hand_over.ensures.input_refused is) c.cells_drawing-made.ensures.refused

pub returns-clause-settings_refused : goal.returns-clause-settings_refused
returns-clause-settings_refused c is = IfErr-at_err (IsCellsRefusal c.args.texts.now c.args.cells.now c.args.rows.now c.args.indicator.now c.args.settings.now) (c.hand_over.ensures.settings_refused is) c.cells_drawing-made.ensures.refused

pub returns-clause-lengths_refused : goal.returns-clause-lengths_refused
returns-clause-lengths_refused c is = IfErr-at_err (IsCellsRefusal c.args.texts.now c.args.cells.now c.args.rows.now c.args.indicator.now c.args.settings.now) (c.hand_over.ensures.lengths_refused is) c.cells_drawing-made.ensures.refused
