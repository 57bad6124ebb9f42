use Rattle.std.proofs.Common.{◌≡◌, ◌+◌, ◌-◌, ap, arith, drop, nat_lt, sym, take, ◌∙◌}
use Rattle.std.specs.List.{list_any}
use Rattle.comfy_run.proofs.RowLemmas.{none_more}
use Rattle.comfy_run.proofs.rows.clear_blocks.Goals as goal

pub loop-run-preserved : goal.loop-run-preserved
loop-run-preserved c =
    let run = c.loop-run.run in
    let bytes = c.args.bytes.now in
    let size : 16 ≡ run + 16 - run = omega arith in
    let clear = ap (λ n. list_any (λ b. nat_lt b 0x20) (take n (drop run bytes))) size ∙ sym c.has_control.ensures ∙ c.if-not-has_control.true in
    record {
      bound = omega (arith, c.loop-run-test.true, c.loop-run.invariant.bound);
      clear = none_more (λ b. nat_lt b 0x20) run 16 bytes c.loop-run.invariant.bound c.loop-run.invariant.clear clear;
    }
