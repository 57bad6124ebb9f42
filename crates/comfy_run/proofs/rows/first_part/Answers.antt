use Rattle.std.proofs.Common.{◌≡◌, arith, map, take, subst}
use Rattle.std.proofs.lemmas.Bool.Decides.{nat_tests}
use Rattle.comfy_parts.proofs.CallerLemmas.{none_of_control}
use Rattle.comfy_run.proofs.RowLemmas.{kept_breaks}
use Rattle.comfy_run.specs.Rows.{break_of}
use Rattle.comfy_run.proofs.rows.first_part.Goals as goal

pub loop-len-init : goal.loop-len-init
loop-len-init c =
    let front = take c.clear_run-clear.result c.args.bytes.now in
    record { bound = c.clear_run-clear.ensures.bound; unbroken = none_of_control 0x09 (omega arith) front c.clear_run-clear.ensures.clear; from = omega arith }

pub returns-clause-breaks : goal.returns-clause-breaks
returns-clause-breaks c = λ none.
    let bytes = c.args.bytes.now in
    let whole : c.clear_run-clear.result ≡ c.loop-len.len = grind (arith, nat_tests, none, c.loop-len.invariant.from) in
    let front = take c.clear_run-clear.result bytes in
    subst (λ n. map break_of (take n bytes) ≡ take n bytes) whole (kept_breaks front (none_of_control 0x0B (omega arith) front c.clear_run-clear.ensures.clear))
