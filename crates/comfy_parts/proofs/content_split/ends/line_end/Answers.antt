use Rattle.std.proofs.Common.{◌≡◌, ◌+◌, ◌++◌, ◌∙◌, length, take, drop, nat_lt, true, false, sym, ap, ap₂, arith}
use Rattle.std.proofs.lemmas.Bool.Decides.{nat_tests}
use Rattle.std.proofs.lemmas.List.{take-append-drop}
use Rattle.comfy_parts.specs.Text.{Text, measure}
use Rattle.comfy_parts.specs.Wrapping.{bytes_taken, head_or_first}
use Rattle.comfy_parts.proofs.FilledLemmas.{line-columns}
use Rattle.comfy_parts.proofs.FollowingLemmas.{line_end-wide, line_end-narrow}
use Rattle.comfy_parts.proofs.MeasuredLineLemmas.{measured-past}
use Rattle.comfy_parts.proofs.content_split.ends.line_end.Goals as goal
use Rattle.comfy_parts.proofs.content_split.ends.line_end.Goals.{then-adds_one_column, else-adds_one_column}

pub returns-then-columns-width : goal.returns-then-columns-width
returns-then-columns-width c =
    let word = take c.args.first c.args.text.now in
    let wide : nat_lt c.args.width (measure word) ≡ true = grind (arith, nat_tests, c.requires.columns.wider c.if-columns-width.true) in
    record {
      end = c.end_within.ensures ∙ ap (λ t. length (head_or_first c.args.width t)) c.split_at.ensures.front
          ∙ sym (line_end-wide c.args.width c.args.delimiter c.args.text.now word (drop c.args.first c.args.text.now) c.requires.element wide);
      columns = tt;
      measured = tt;
    }

pub returns : goal.returns
returns c =
    let word = take c.args.first c.args.text.now in
    let columns = c.requires.columns.fits c.if-columns-width.false in
    let narrow : nat_lt c.args.width (measure word) ≡ false = grind (arith, nat_tests, columns, c.if-columns-width.false) in
    let long : length word ≡ c.args.first = ap length (sym c.split_at.ensures.front) ∙ c.split_at.ensures.front_len in
    let taken = c.taken_after-taken.ensures.value c.requires.element.others (rw c.split_at.ensures.back c.requires.element.follow) in
    record {
      end = ap₂ (λ a b. a + b) (sym long) (taken ∙ ap (λ n. bytes_taken c.args.width c.args.delimiter n c.requires.element.others) columns)
          ∙ sym (line_end-narrow c.args.width c.args.delimiter c.args.text.now word (drop c.args.first c.args.text.now) c.requires.element narrow);
      columns = elim c.if-adds_one_column.branch [
        | then-adds_one_column w ↦ rw w.columns-is (line-columns c.args.delimiter c.args.text.now c.split_at.result.1.now c.args.first c.args.columns c.taken_after-taken.result.bytes (c.adds_one_column.ensures.adds w.if-adds_one_column.true) c.requires.element.whole_first columns c.split_at.ensures.back _ c.taken_after-taken.ensures.columns)
        | else-adds_one_column w ↦ rw w.columns-is tt
      ];
      measured = measured-past c.args.delimiter c.args.text.now c.split_at.result.0.now c.split_at.result.1.now c.taken_after-taken.result.measured (sym (ap₂ (λ (a b : Text). a ++ b) c.split_at.ensures.front c.split_at.ensures.back ∙ take-append-drop c.args.first c.args.text.now)) c.taken_after-taken.ensures.measured;
    }
