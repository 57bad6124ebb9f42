use Rattle.std.proofs.Common.{◌≡◌, map, take, string_bytes}
use Rattle.std.specs.List.{flat_map}
use Rattle.comfy_parts.specs.Wrapping.{lines_of_text}
use Rattle.comfy_table.specs.DrawnLines.{drawn_text}
use Rattle.comfy_table.proofs.utils.formatting.cell_lines.cell_lines.Given as goal

abbrev pub invariant-loop-position : goal.invariant-loop-position
invariant-loop-position l =
    l.lines.items ≡ map drawn_text (flat_map (λ s. lines_of_text l.info.content_width l.delimiter (string_bytes s)) (take l.position l.texts))
