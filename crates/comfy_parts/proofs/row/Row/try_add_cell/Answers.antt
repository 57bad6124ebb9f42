use Rattle.std.proofs.Common.{[]}
use Rattle.std.proofs.lemmas.List.Elements.{All-append, All-cons, All-nil}
use Rattle.comfy_parts.specs.CellValue.{IsCell}
use Rattle.comfy_parts.proofs.row.Row.try_add_cell.Goals as goal

pub invariant_of-self-2 : goal.invariant_of-self-2
invariant_of-self-2 c =
    record {
      cells = rw c.in_ok-push.ensures.items (All-append IsCell _ _ c.self.invariant.cells (All-cons IsCell c.args.cell [] c.text_lines.ensures.is_cell (All-nil IsCell)));
      some_height = c.self.invariant.some_height;
    }
