use Rattle.std.proofs.Common.{◌∙◌, sym}
use Rattle.comfy_parts.proofs.StartLemmas.{wrapped-empty}
use Rattle.comfy_parts.proofs.content_split.lines.WrappedLines.next_line.Goals as goal

pub returns-then-is_empty-clause-ended : goal.returns-then-is_empty-clause-ended
returns-then-is_empty-clause-ended c _ =
    let none = sym c.self.view_is ∙ wrapped-empty c.self.inside.width c.self.inside.delimiter c.self.inside.rest.now c.is_empty.result c.is_empty.ensures c.if-is_empty.true in
    (none, none)
