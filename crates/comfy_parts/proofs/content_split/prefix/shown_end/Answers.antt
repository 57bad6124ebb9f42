use Rattle.std.proofs.Common.{arith}
use Rattle.comfy_parts.proofs.TextFrontLemmas.{shown-end}
use Rattle.comfy_parts.proofs.content_split.prefix.shown_end.Goals as goal
use Rattle.comfy_parts.proofs.content_split.prefix.shown_end.Goals.{else-goes_on-via-then-goes_on+else-wide-le2, else-goes_on-via-else-goes_on}

pub returns-else-goes_on : goal.returns-else-goes_on
returns-else-goes_on c rest utf8 =
    shown-end _ _ _ _ _ c.utf8.front c.in_ok-wide.ensures.some rest utf8
    (λ last. elim c.else-goes_on.branch [
      | else-goes_on-via-then-goes_on+else-wide-le2 w ↦ omega (arith, w.if-wide-le2.false)
      | else-goes_on-via-else-goes_on w ↦ absurd (w.if-goes_on.false last)
    ])
