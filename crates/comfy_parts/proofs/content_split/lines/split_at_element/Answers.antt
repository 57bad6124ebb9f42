use Rattle.std.proofs.Common.{◌∷◌, ◌++◌, List, take, ap, ◌∙◌, sym}
use Rattle.std.proofs.lemmas.List.{take-append-drop}
use Rattle.comfy_parts.specs.Text.{Text}
use Rattle.comfy_parts.proofs.LinesLemmas.{element-starts, line-place, line-then, rest-at, rest-shown}
use Rattle.comfy_parts.proofs.MeasuredLineLemmas.{measured-after}
use Rattle.comfy_parts.proofs.content_split.lines.split_at_element.Goals as goal

pub split_at-requires : goal.split_at-requires
split_at-requires c =
    line-place c.args.width c.args.delimiter c.args.rest.now (element-starts _ _ _ _ _ _ c.requires.at) c.requires.some c.line_end-taken.result.bytes c.line_end-taken.ensures.end

pub lines_after-lines-requires-clause-measured : goal.lines_after-lines-requires-clause-measured
lines_after-lines-requires-clause-measured c =
    let rest = c.args.rest.now in
    let end = c.line_end-taken.result.bytes in
    measured-after c.args.delimiter rest (take end rest) c.split_at.result.1.now c.line_end-taken.result.measured (sym (take-append-drop end rest) ∙ ap (λ (t : Text). take end rest ++ t) (sym c.split_at.ensures.back)) c.line_end-taken.ensures.measured

pub returns-then-taken-element-clause-lines : goal.returns-then-taken-element-clause-lines
returns-then-taken-element-clause-lines c =
    line-then _ _ _ (element-starts _ _ _ _ _ _ c.requires.at) c.requires.some _ _ _ c.line_end-taken.ensures.end c.split_at.ensures.front c.split_at.ensures.back
    ∙ ap (λ (ls : List Text). c.split_at.result.0.now ∷ ls) (sym c.lines_after-lines.ensures)

pub columns_up_to-columns-requires-clause-wide : goal.columns_up_to-columns-requires-clause-wide
columns_up_to-columns-requires-clause-wide c =
    let place = line-place c.args.width c.args.delimiter c.args.rest.now (element-starts _ _ _ _ _ _ c.requires.at) c.requires.some c.line_end-taken.result.bytes c.line_end-taken.ensures.end in
    rest-shown _ _ _ _ _ _ c.requires.at c.line_end-taken.result.bytes place c.if-taken-element.false _ _ c.split_at.ensures.back c.split_at-2.ensures.front

pub lines_from-lines-requires : goal.lines_from-lines-requires
lines_from-lines-requires c =
    let place = line-place c.args.width c.args.delimiter c.args.rest.now (element-starts _ _ _ _ _ _ c.requires.at) c.requires.some c.line_end-taken.result.bytes c.line_end-taken.ensures.end in
    record { at = rest-at _ _ _ _ _ _ c.requires.at c.line_end-taken.result.bytes place c.if-taken-element.false _ _ c.split_at.ensures.back c.split_at-2.ensures.front _ c.columns_up_to-columns.ensures }

pub returns-clause-lines : goal.returns-clause-lines
returns-clause-lines c =
    line-then _ _ _ (element-starts _ _ _ _ _ _ c.requires.at) c.requires.some _ _ _ c.line_end-taken.ensures.end c.split_at.ensures.front c.split_at.ensures.back
    ∙ ap (λ (ls : List Text). c.split_at.result.0.now ∷ ls) (sym c.lines_from-lines.ensures)
