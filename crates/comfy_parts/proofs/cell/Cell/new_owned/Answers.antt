use Rattle.std.proofs.Common.{◌∙◌, [], ap}
use Rattle.comfy_parts.proofs.ValueLemmas.{content_is_the_text}
use Rattle.comfy_parts.specs.CellValue.{content_of, plain_cell}
use Rattle.comfy_parts.proofs.cell.Cell.new_owned.Goals as goal

pub returns-clause-content : goal.returns-clause-content
returns-clause-content c =
    ap content_of c.of_lines.ensures
    ∙ ap (λ lines. content_of (record (plain_cell []) { text_lines = lines })) c.in_ok-text_lines.ensures.value
    ∙ content_is_the_text _
