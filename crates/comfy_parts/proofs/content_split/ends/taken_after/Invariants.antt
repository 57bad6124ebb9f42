use Rattle.std.proofs.Common.{◌≡◌, ◌+◌, ◌≤◌, List, length}
use denote.Text.{Utf8}
use denote.Shadow.{shadow}
use Rattle.comfy_parts.specs.Following.{Follow}
use Rattle.comfy_parts.specs.Wrapping.{bytes_taken}
use Rattle.comfy_parts.specs.Text.{Text}
use Rattle.comfy_parts.proofs.FilledLemmas.{HasPassed}
use Rattle.comfy_parts.proofs.content_split.ends.taken_after.Given as goal

abbrev pub invariant-loop-filled : goal.invariant-loop-filled
invariant-loop-filled l =
    record {
      utf8 : shadow (Utf8 l.rest);
      bound : length l.rest ≤ length l.after;
      passed : HasPassed l.delimiter l.first l.filled l.after l.rest;
      taken : (es : List Text) → Follow l.delimiter es l.after
          → (others : List Text) × Follow l.delimiter others l.rest × (bytes_taken l.width l.delimiter l.first es + length l.rest ≡ length l.after + bytes_taken l.width l.delimiter l.filled others);
    }

abbrev pub decreases-loop-filled : goal.decreases-loop-filled
decreases-loop-filled l = length l.rest
