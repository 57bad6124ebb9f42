use Rattle.std.proofs.lemmas.List.Elements.{All-map}
use Rattle.std.proofs.lemmas.Result.{IfOk-weaker}
use Rattle.comfy_parts.specs.Text.{measure}
use Rattle.comfy_parts.specs.VisibleText.{visible_text}
use Rattle.comfy_table.specs.Headline.{IsTableDrawing}
use Rattle.comfy_table.specs.Laws.{line_total}
use Rattle.comfy_table.specs.TableValue.{TableValue}
use Rattle.test_callers.proofs.uses.sequences.drawn_in_colour.Goals as goal
use Rattle.std.proofs.Common.{◌≡◌}

pub returns : goal.returns
returns c =
    IfOk-weaker c.lines.result _ _
    (λ lines (drawn : IsTableDrawing _ lines) free straight.
    let table : TableValue = c.args.table.now in (
      line_total table drawn.widths,
      All-map (λ line. measure line ≡ line_total table drawn.widths) visible_text lines
          (drawn.sequences.straight_without_sequences free (straight drawn.widths)),
    ))
    c.lines.ensures.headline
