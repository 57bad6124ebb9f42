use Rattle.std.proofs.Common.{◌≡◌, string_bytes, map, take}
use Rattle.comfy_parts.specs.Text.{measure}
use Rattle.comfy_parts.specs.VisibleText.{visible_text}
use Rattle.comfy_parts.proofs.cell.text_lines.visible_lines.Given as goal

abbrev pub invariant-loop-line : goal.invariant-loop-line
invariant-loop-line l =
    record {
      texts : map string_bytes l.texts.items ≡ map visible_text (map string_bytes (take l.line-index l.lines));
      widths : l.widths.items ≡ map measure (map string_bytes l.texts.items);
    }
