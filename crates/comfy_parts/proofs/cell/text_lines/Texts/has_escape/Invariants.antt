use Rattle.std.proofs.Common.{◌≡◌, map, string_bytes, take}
use Rattle.std.specs.List.{list_any}
use Rattle.comfy_parts.specs.VisibleText.{has_escape}
use Rattle.comfy_parts.proofs.cell.text_lines.Texts.has_escape.Given as goal

abbrev pub invariant-loop-text : goal.invariant-loop-text
invariant-loop-text l = l.found ≡ list_any has_escape (map string_bytes (take l.text-index l.texts))
