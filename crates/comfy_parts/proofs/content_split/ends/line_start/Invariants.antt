use Rattle.std.proofs.Common.{◌≡◌, ℕ, ◌≤◌, true, length}
use denote.Text.{Utf8}
use denote.Shadow.{shadow}
use Rattle.comfy_parts.specs.Following.{EndsWith}
use Rattle.comfy_parts.specs.Text.{is_printable_ascii}
use Rattle.comfy_parts.specs.Wrapping.{wrapped}
use Rattle.comfy_parts.proofs.content_split.ends.line_start.Given as goal

abbrev pub invariant-loop-after : goal.invariant-loop-after
invariant-loop-after l =
    record {
      utf8 : shadow (Utf8 l.rest);
      bound : length l.rest ≤ length l.text;
      ends : EndsWith l.text l.rest;
      printable : is_printable_ascii l.text ≡ true → is_printable_ascii l.rest ≡ true;
      lines : (w : ℕ) → wrapped w l.delimiter l.rest ≡ wrapped w l.delimiter l.text;
    }

abbrev pub decreases-loop-after : goal.decreases-loop-after
decreases-loop-after l = length l.rest
