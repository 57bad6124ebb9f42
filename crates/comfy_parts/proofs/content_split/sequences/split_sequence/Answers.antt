use Rattle.std.proofs.Common.{◌<◌, arith}
use Rattle.comfy_parts.specs.VisibleText.{sequence_len}
use Rattle.comfy_parts.proofs.VisibleWholeLemmas.{after_sequence}
use Rattle.comfy_parts.proofs.FrontLemmas.{parts-after_sequence}
use Rattle.comfy_parts.proofs.content_split.sequences.split_sequence.Goals as goal

pub returns-clause-some : goal.returns-clause-some
returns-clause-some c =
    let text = c.args.text.now in
    let len = c.sequence_len-len.ensures.value in
    let some : 0 < sequence_len text = omega (arith, len, c.if-len-eq0.false) in
    rw (c.split_at.ensures.front, c.split_at.ensures.back, len) (parts-after_sequence text some)

pub returns-clause-whole : goal.returns-clause-whole
returns-clause-whole c =
    let text = c.args.text.now in
    let len = c.sequence_len-len.ensures.value in
    let some : 0 < sequence_len text = omega (arith, len, c.if-len-eq0.false) in
    rw (c.split_at.ensures.back, len) (after_sequence text c.utf8.text some).whole
