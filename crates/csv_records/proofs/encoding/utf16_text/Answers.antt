use Rattle.std.proofs.Common.{rules}
use Rattle.std.specs.Char.{IsScalar}
use Rattle.csv_records.proofs.EncodingLemmas.{first_unpaired, more_decoded, odd_after, whole}
use Rattle.csv_records.proofs.encoding.utf16_text.Goals as goal

pub loop-read-preserved : goal.loop-read-preserved
loop-read-preserved c =
    let scalar : IsScalar c.in-Ok.character = search rules in
    let steps = rw (c.in-Some.is, c.in-Ok.is) at c.next.ensures.steps in
    rw c.in_ok-push-in-Ok.ensures.bytes (more_decoded _ c.loop-read.read-iterator c.next.new.self _ c.loop-read.invariant c.in-Ok.character scalar steps)

pub returns-in-Err-clause-refused : goal.returns-in-Err-clause-refused
returns-in-Err-clause-refused c =
    let steps = rw (c.in-Some.is, c.in-Err.is) at c.next.ensures.steps in
    rw (c.not_utf16.ensures, c.as_str.ensures.value) (first_unpaired _ c.loop-read.read-iterator c.next.new.self _ c.loop-read.invariant c.args.skip c.in-Err.field-0 _ steps)

pub returns-then-bytes-eq1-clause-refused : goal.returns-then-bytes-eq1-clause-refused
returns-then-bytes-eq1-clause-refused c =
    let steps = rw c.in-None.is at c.next.ensures.steps in
    let odd = rw c.without_utf16_mark-bytes.ensures at c.if-bytes-eq1.true in
    rw (c.not_utf16-then-bytes-eq1.ensures, c.as_str-then-bytes-eq1.ensures.value) (odd_after _ c.loop-read.read-iterator c.next.new.self _ c.loop-read.invariant c.args.skip steps _ odd)

pub returns-clause-text : goal.returns-clause-text
returns-clause-text c =
    let steps = rw c.in-None.is at c.next.ensures.steps in
    let even = rw c.without_utf16_mark-bytes.ensures at c.if-bytes-eq1.false in
    whole _ c.loop-read.read-iterator c.next.new.self _ c.loop-read.invariant steps _ even
