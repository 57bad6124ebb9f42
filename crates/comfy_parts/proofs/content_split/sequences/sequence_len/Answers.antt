use Rattle.std.proofs.Common.{◌<◌, length, ap, sym, arith, slice_index_or}
use Rattle.std.proofs.lemmas.Bool.Decides.{nat_tests}
use Rattle.std.proofs.lemmas.List.Sums.{prefix_len-drop_yes}
use Rattle.std.proofs.lemmas.Str.{IsCharBoundary-after_ascii, IsCharBoundary-start}
use Rattle.comfy_parts.specs.VisibleText.{is_parameter}
use Rattle.comfy_parts.proofs.content_split.sequences.sequence_len.Goals as goal

pub returns-then-bytes-lt3-clause-boundary : goal.returns-then-bytes-lt3-clause-boundary
returns-then-bytes-lt3-clause-boundary c = IsCharBoundary-start c.args.text.now c.utf8.text

pub returns-then-bytes-end-eq109-clause-boundary : goal.returns-then-bytes-end-eq109-clause-boundary
returns-then-bytes-end-eq109-clause-boundary c =
    let same = c.as_bytes-bytes.ensures.value in
    let long = ap length same in
    let inside : c.parameters.end < length c.args.text.now = grind (arith, nat_tests, long, c.if-end-bytes.true) in
    let last : slice_index_or c.args.text.now c.parameters.end 0 < 128 = rw (← same) (grind (arith, nat_tests, c.if-bytes-end-eq109.true)) in
    IsCharBoundary-after_ascii c.args.text.now c.parameters.end c.utf8.text inside last

pub parameters-preserved : goal.parameters-preserved
parameters-preserved c =
    let bytes = c.as_bytes-bytes.result.now in
    let more = prefix_len-drop_yes is_parameter bytes c.parameters.end 0 c.parameters-test.true (sym c.if-is_parameter.ensures) in
    record { from = omega arith; within = omega arith; counted = omega (arith, more, c.parameters.invariant.counted) }
