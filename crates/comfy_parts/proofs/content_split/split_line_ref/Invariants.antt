use Rattle.std.proofs.Common.{◌≡◌, ◌++◌, map}
use Rattle.comfy_parts.specs.Wrapping.{wrapped}
use Rattle.comfy_parts.proofs.content_split.split_line_ref.Given as goal

abbrev pub invariant-loop-part : goal.invariant-loop-part
invariant-loop-part l = map (λ x. x.now) l.lines.items ++ l.part-iterator ≡ wrapped l.info.content_width l.fn.delimiter l.line
