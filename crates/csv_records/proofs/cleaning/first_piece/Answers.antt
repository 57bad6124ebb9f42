use Rattle.std.proofs.Common.{arith}
use Rattle.csv_records.proofs.PieceLemmas.{pieces-character, pieces-sequence}
use Rattle.csv_records.proofs.cleaning.first_piece.Goals as goal

pub returns-then-len-gt0-clause-some : goal.returns-then-len-gt0-clause-some
returns-then-len-gt0-clause-some c =
    rw (c.split_at.ensures.front, c.split_at.ensures.back)
    (pieces-sequence c.args.keeps_sequences c.args.text.now c.kept_len-len.result c.utf8.text c.kept_len-len.ensures.value (omega (arith, c.if-len-gt0.true)))

pub returns-clause-some : goal.returns-clause-some
returns-clause-some c =
    pieces-character c.args.keeps_sequences c.args.text.now c.in_ok-c.rest.now c.in_ok-c.c c.kept_len-len.result c.utf8.text c.kept_len-len.ensures.value (omega (arith, c.if-len-gt0.false)) c.in_ok-c.ensures.some
