use Rattle.std.proofs.Common.{◌≡◌, ◌++◌, string_bytes}
use Rattle.comfy_parts.specs.VisibleText.{visible_text}
use Rattle.comfy_parts.proofs.content_split.sequences.visible_text.Given as goal

abbrev pub invariant-loop-part : goal.invariant-loop-part
invariant-loop-part l = string_bytes l.joined ++ visible_text l.part-iterator.0.now ≡ visible_text l.text
