use Rattle.std.proofs.Common.{◌≡◌, false}
use Rattle.comfy_parts.specs.VisibleText.{parts}
use Rattle.comfy_parts.proofs.content_split.sequences.written.needs_no_rewrite.Given as goal
use Rattle.comfy_parts.proofs.WholeTextLemmas.{closes_itself}

abbrev pub invariant-loop-part : goal.invariant-loop-part
invariant-loop-part l = closes_itself false false (parts l.text) ≡ closes_itself l.is_open l.follows_visible (parts l.part-iterator.0.now)
