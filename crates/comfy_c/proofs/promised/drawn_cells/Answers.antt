use Rattle.std.proofs.Common.{◌≢◌, ℕ, List, inl, inr}
use Rattle.comfy_parts.specs.Text.{Text}
use Rattle.comfy_table.specs.Headline.{IsTableDrawing}
use Rattle.comfy_table.specs.TableValue.{TableValue}
use Rattle.promises.specs.Promises.{KeepsPromises}
use Rattle.comfy_c.specs.CellCalls.{AreWritten, IsInForm}
use Rattle.comfy_c.proofs.promised.drawn_cells.Goals as goal

-- the lines, if they are requested
lines_of : ((table : TableValue) (lines : List Text) → IsTableDrawing table lines → KeepsPromises table lines) → (form : ℕ) (table : TableValue) (drawing : Text) → form ≢ 2 → IsInForm form table drawing → (lines : List Text) × KeepsPromises table lines × AreWritten form lines drawing
lines_of law form table drawing chosen (inl given) = (given.0, law table given.0 given.1, given.2)
lines_of law form table drawing chosen (inr given) = absurd (chosen given.0)

pub returns : goal.returns
returns c is chosen =
    let drawing = (c.comfy_cells_draw.ensures.drawn is).1 in
    let own = lines_of c.drawings_keep_the_promises.ensures c.args.settings.now.form drawing.table _ chosen drawing.drawn in
    record {
      are_text = drawing.is_text;
      table = drawing.table;
      described = drawing.described;
      lines = own.0;
      keep = own.1;
      written = own.2;
    }
