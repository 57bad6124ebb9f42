use Rattle.std.proofs.Common.{◌≡◌, Bool, false, true, refl}
use Rattle.std.proofs.Math.Bool.{beq, not}
use Rattle.csv_promises.proofs.ResultLemmas.{of_ok}
use Rattle.csv_promises.proofs.straight.written.Goals as goal

-- truth values that aren't different are the same
same_truth : (a b : Bool) → not (beq a b) ≡ false → a ≡ b
same_truth false false same = refl
same_truth false true same = absurd (cc same)
same_truth true false same = absurd (cc same)
same_truth true true same = refl

pub returns : goal.returns
returns c =
    record {
      is_parsed = of_ok _ c.parse.result c.in_ok-invocation.invocation c.in_ok-invocation.ensures.value c.parse.ensures.ok;
      unkept = c.if-look.false;
      kind = same_truth c.in_ok-invocation.invocation.options.look.is_markdown c.args.is_markdown c.if-look-is_markdown.false;
      are = of_ok _ c.records_for.result c.in_ok-records.records c.in_ok-records.ensures.value c.records_for.ensures;
      made = of_ok _ c.output_for.result c.in_ok-sink.sink c.in_ok-sink.ensures.value c.output_for.ensures;
    }
