use Rattle.std.proofs.Common.{◌≡◌, ◌++◌, map, length}
use denote.Text.{Utf8}
use denote.Shadow.{shadow}
use Rattle.comfy_parts.specs.Text.{elements}
use Rattle.comfy_parts.proofs.content_split.split_line_by_delimiter.Given as goal

abbrev pub invariant-loop-part : goal.invariant-loop-part
invariant-loop-part l =
    record {
      utf8 : shadow (Utf8 l.rest);
      parts : map (λ x. x.now) l.parts.items ++ elements l.delimiter l.rest ≡ elements l.delimiter l.line;
    }

abbrev pub decreases-loop-part : goal.decreases-loop-part
decreases-loop-part l = length l.rest
