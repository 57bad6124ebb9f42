use Rattle.std.proofs.Common.{rules, ◌≡◌, ◌<◌, Some, max, ℕ, List, refl}
use Rattle.std.proofs.lemmas.Result.{IfOk-weaker}
use Rattle.comfy_parts.specs.Text.{Text}
use Rattle.comfy_parts.specs.declared.style.table.ContentArrangement.TheVariants.{DynamicFullWidth}
use Rattle.comfy_table.specs.Headline.{IsTableDrawing}
use Rattle.comfy_table.specs.Laws.{NoConstraints, least_total}
use Rattle.comfy_table.specs.TableValue.{TableValue}
use Rattle.comfy_table.specs.Widths.{shown_count}
use Rattle.test_callers.specs.Uses.{HasFrameOf}
use Rattle.test_callers.proofs.uses.drawn_over_width.Goals as goal

-- a drawing of a table after both settings has a frame of the width
frame_of_width : (old new : TableValue) (w : ℕ) (lines : List Text) → new ≡ record old { set_width = Some w; arrangement = DynamicFullWidth }
    → IsTableDrawing new lines → 0 < shown_count old → NoConstraints old → HasFrameOf (max w (least_total old)) new lines
frame_of_width old new w lines set =
    rw set (λ drawn visible free. (drawn.widths, drawn.drawn, (drawn.known_width.fills_width w free refl refl visible).frame_lines))

pub returns-clause-frame : goal.returns-clause-frame
returns-clause-frame c =
    IfOk-weaker c.lines.result _ _ (λ lines. frame_of_width c.args.table.now _ c.args.width lines (search rules)) c.lines.ensures.headline
