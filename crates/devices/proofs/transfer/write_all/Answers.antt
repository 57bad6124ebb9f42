use Rattle.std.proofs.Common.{◌++◌, Some, take, ap, ◌∙◌, append_assoc}
use Rattle.std.proofs.lemmas.List.{take-append-drop}
use Rattle.devices.proofs.transfer.write_all.Goals as goal

pub loop-rest-preserved : goal.loop-rest-preserved
loop-rest-preserved g c =
    let i = c.loop-rest.invariant in
    let sent = i.0 in
    let now = take c.in_ok-count.count c.loop-rest.rest.now in (
      sent ++ now,
      append_assoc sent now _ ∙ ap (λ t. sent ++ (now ++ t)) c.split_at.ensures.back ∙ ap (λ t. sent ++ t) (take-append-drop c.in_ok-count.count c.loop-rest.rest.now) ∙ i.1,
      λ had h. c.in_ok-count.ensures.bytes _ (i.2 had h) ∙ ap Some (append_assoc had sent now),
      λ sound. c.in_ok-count.ensures.fault,
    )
