use Rattle.std.proofs.Common.{◌≡◌, ◌++◌, drop, map, string_bytes, take}
use Rattle.comfy_table.specs.DrawnLines.{with_texts}
use Rattle.comfy_table.proofs.utils.formatting.cell_lines.with_texts.Given as goal

abbrev pub invariant-loop-text : goal.invariant-loop-text
invariant-loop-text l =
    take l.position l.lines.items ++ with_texts (drop l.position l.lines.items) (map string_bytes l.text-iterator.rest.items)
    ≡ with_texts l.initial.lines.items (map string_bytes l.initial.text-iterator.rest.items)
