use Rattle.std.proofs.Common.{◌∷◌, List, ap, sym, ◌∙◌}
use Rattle.comfy_parts.specs.Text.{Text}
use Rattle.comfy_parts.specs.Wrapping.{line_end, wrapped}
use Rattle.comfy_parts.proofs.LinesLemmas.{line-place, line-then, printable-after, printable-starts}
use Rattle.comfy_parts.proofs.MeasuredLineLemmas.{first-measured}
use Rattle.comfy_parts.proofs.content_split.lines.split_printable_line.Goals as goal

pub split_at-requires : goal.split_at-requires
split_at-requires c =
    let ends = c.printable_line_end-end.ensures ∙ ap (line_end c.args.width c.args.delimiter) c.as_bytes.ensures.value in
    line-place c.args.width c.args.delimiter c.args.text.now (printable-starts c.args.width c.args.delimiter c.args.text.now c.requires.printable c.requires.begins) c.requires.some c.printable_line_end-end.result ends

pub returns-clause-lines : goal.returns-clause-lines
returns-clause-lines c =
    let ends = c.printable_line_end-end.ensures ∙ ap (line_end c.args.width c.args.delimiter) c.as_bytes.ensures.value in
    line-then c.args.width c.args.delimiter c.args.text.now (printable-starts c.args.width c.args.delimiter c.args.text.now c.requires.printable c.requires.begins) c.requires.some _ _ _ ends c.split_at.ensures.front c.split_at.ensures.back
    ∙ ap (λ (ls : List Text). c.split_at.result.0.now ∷ ls) (sym (c.line_start.ensures.lines c.args.width))

pub returns-clause-columns : goal.returns-clause-columns
returns-clause-columns c =
    first-measured c.args.width c.args.delimiter c.args.text.now c.split_at.result.0.now (wrapped c.args.width c.args.delimiter c.line_start.result.now) c.requires.printable (returns-clause-lines c)

pub returns-clause-printable : goal.returns-clause-printable
returns-clause-printable c =
    let after = printable-after c.args.width c.args.delimiter c.args.text.now c.requires.printable c.printable_line_end-end.result c.split_at.result.1.now c.split_at.ensures.back in
    record { columns = after.columns; delimiter = after.delimiter; printable = c.line_start.ensures.printable after.printable }
