use Rattle.std.proofs.Common.{◌≡◌, string_bytes, map}
use Rattle.comfy_parts.specs.Text.{measure}
use Rattle.comfy_parts.proofs.cell.text_lines.Texts.of_text.Given as goal

abbrev pub invariant-loop-line : goal.invariant-loop-line
invariant-loop-line l =
    record {
      texts : map string_bytes l.texts.items ≡ map (λ p. p.now) l.yielded;
      widths : l.widths.items ≡ map measure (map string_bytes l.texts.items);
    }
