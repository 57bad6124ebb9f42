use Rattle.std.proofs.Common.{◌≡◌, ◌++◌, [], Err, Some, append-nil, append_assoc, ap, refl, rules, string_bytes, subst, sym, ◌∙◌}
use Rattle.devices.proofs.RunLemmas.{after_refused, after_unread, part_written}
use Rattle.devices.specs.Outcome.{IsBeginningOnly}
use Rattle.comfy_parts.specs.TextPieces.{IsNextPiece}
use Rattle.devices.specs.Run.{stop_of}
use Rattle.devices.specs.Transfer.{IsRenderedBy}
use Rattle.devices.proofs.transfer.run.Goals as goal

pub returns-in_err-rendered-clause-known : goal.returns-in_err-rendered-clause-known
returns-in_err-rendered-clause-known g c = λ input had known taken read write.
    let D = g.D.Render in
    let e = c.in_err-rendered.field-0.0 in
    let same : c.from_residual.result ≡ Err (stop_of e) = search rules in
    let nothing = taken ∙ ap Some (sym (append-nil had)) in (
      [],
      nothing,
      rw same
          (after_unread g.row.D-Findings.Denot (D.is_not_enough c.args.drawing.now) (D.is_output c.args.drawing.now) (IsRenderedBy g.D.Output.Pieces.rest (D.is_output c.args.drawing.now) (D.are_findings c.args.drawing.now)) (D.is_refusal c.args.drawing.now) e _ (search rules) write refl
          (λ ended. g.met.R.Source.ended c.args.source.now (search rules) input known)),
    )

pub returns-in-Err-clause-known : goal.returns-in-Err-clause-known
returns-in-Err-clause-known g c = λ input had known taken read write.
    let D = g.D.Render in (
      [],
      taken ∙ ap Some (sym (append-nil had)),
      after_refused g.row.D-Findings.Denot (D.is_not_enough c.args.drawing.now) (D.is_output c.args.drawing.now) (IsRenderedBy g.D.Output.Pieces.rest (D.is_output c.args.drawing.now) (D.are_findings c.args.drawing.now)) (D.is_refusal c.args.drawing.now) c.in-Err.error _ (rw (← known, ← c.in-Err.is) c.in_ok-rendered.ensures.answer) (record { no_read_failed = c.in_ok-rendered.ensures.fault; no_write_failed = write }) refl,
    )

pub returns-in_default-write_all-clause-known : goal.returns-in_default-write_all-clause-known
returns-in_default-write_all-clause-known g c = λ input had known taken read write.
    let rest = g.D.Output.Pieces.rest in
    let i = c.loop-next.invariant in
    let next : IsNextPiece (rest c.loop-next.pieces) (rest c.next_piece.new.self) (Some c.in-Some.piece) = rw c.in-Some.is at c.in-Ok-next_piece.ensures.next in
    let part = c.in_default-write_all.ensures.beginning (had ++ i.0) (i.2 had taken) in
    let beginning : IsBeginningOnly (i.0 ++ part.0) (rest c.in-Ok.rendered.pieces) = part_written i.0 part.0 (string_bytes c.in-Some.piece) _ _ _ i.1 next.0 (subst (IsBeginningOnly part.0) c.as_bytes.ensures.value part.2) in
    (i.0 ++ part.0, part.1 ∙ ap Some (append_assoc had i.0 part.0), search rules)

pub returns-in_default-write_all-clause-findings : goal.returns-in_default-write_all-clause-findings
returns-in_default-write_all-clause-findings g c = λ input had known taken read write.
    let i = c.loop-next.invariant in
    let part = c.in_default-write_all.ensures.beginning (had ++ i.0) (i.2 had taken) in
    (i.0 ++ part.0, part.1 ∙ ap Some (append_assoc had i.0 part.0), tt)

pub loop-next-preserved : goal.loop-next-preserved
loop-next-preserved g c =
    let rest = g.D.Output.Pieces.rest in
    let i = c.loop-next.invariant in
    let next : IsNextPiece (rest c.loop-next.pieces) (rest c.next_piece.new.self) (Some c.in-Some.piece) = rw c.in-Some.is at c.in-Ok-next_piece.ensures.next in
    let piece = string_bytes c.in-Some.piece in (
      i.0 ++ piece,
      append_assoc i.0 piece (rest c.next_piece.new.self) ∙ ap (λ t. i.0 ++ t) (sym next.0) ∙ i.1,
      λ had known. c.in-Ok-write_all.ensures.written (had ++ i.0) (i.2 had known) ∙ ap (λ t. Some ((had ++ i.0) ++ t)) c.as_bytes.ensures.value ∙ ap Some (append_assoc had i.0 piece),
      λ sound. c.in-Ok-write_all.ensures.no_fault (i.3 sound),
    )
