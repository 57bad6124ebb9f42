use Rattle.std.proofs.Common.{string_bytes}
use Rattle.std.proofs.lemmas.Result.{IfErr-at_err}
use Rattle.comfy_c.proofs.CallLemmas.{of_drawing, of_length}
use Rattle.comfy_c.specs.RowCalls.{IsRowsDrawing, IsRowsRefusal}
use Rattle.comfy_c.proofs.rows_draw.comfy_rows_draw.Goals as goal

pub returns-clause-drawn : goal.returns-clause-drawn
returns-clause-drawn c is =
    let own = c.hand_over.ensures.drawn is in
    (own.0, of_drawing (IsRowsDrawing c.args.texts.now c.args.lengths.now c.args.counts.now c.args.looks.now c.args.heights.now c.args.columns.now c.args.settings.now) string_bytes c.rows_drawing-made.result c.rows_drawing-made.ensures.drawn own.1)

pub returns-clause-room_too_small : goal.returns-clause-room_too_small
returns-clause-room_too_small c is =
    let own = c.hand_over.ensures.room_too_small is in
    let made = of_length (IsRowsDrawing c.args.texts.now c.args.lengths.now c.args.counts.now c.args.looks.now c.args.heights.now c.args.columns.now c.args.settings.now) string_bytes c.rows_drawing-made.result c.rows_drawing-made.ensures.drawn own.1 in
    (own.0, made.0, made.1, made.2)

pub returns-clause-input_refused : goal.returns-clause-input_refused
returns-clause-input_refused c is = IfErr-at_err (IsRowsRefusal c.args.texts.now c.args.lengths.now c.args.counts.now c.args.looks.now c.args.heights.now c.args.columns.now c.args.settings.now) (c.hand_over.ensures.input_refused is) c.rows_drawing-made.ensures.refused

pub returns-clause-settings_refused : goal.returns-clause-settings_refused
returns-clause-settings_refused c is = IfErr-at_err (IsRowsRefusal c.args.texts.now c.args.lengths.now c.args.counts.now c.args.looks.now c.args.heights.now c.args.columns.now c.args.settings.now) (c.hand_over.ensures.settings_refused is) c.rows_drawing-made.ensures.refused

pub returns-clause-lengths_refused : goal.returns-clause-lengths_refused
returns-clause-lengths_refused c is = IfErr-at_err (IsRowsRefusal c.args.texts.now c.args.lengths.now c.args.counts.now c.args.looks.now c.args.heights.now c.args.columns.now c.args.settings.now) (c.hand_over.ensures.lengths_refused is) c.rows_drawing-made.ensures.refused
