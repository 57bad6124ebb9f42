use Rattle.std.proofs.Common.{◌≡◌, ◌+◌, ap, arith, get_or, take, ◌∙◌}
use Rattle.std.proofs.lemmas.List.{take_more}
use Rattle.csv_records.proofs.BestLemmas.{after_better, after_worse}
use Rattle.csv_records.specs.Delimiter.{agreement, agreement_by, tried_delimiters}
use Rattle.csv_records.proofs.delimiter.found_delimiter.Goals as goal
use Rattle.csv_records.proofs.delimiter.found_delimiter.Goals.{then-agreement-most, else-agreement-most}

pub loop-delimiter-preserved : goal.loop-delimiter-preserved
loop-delimiter-preserved c =
    let inv = c.loop-delimiter.invariant in
    let i = c.loop-delimiter.delimiter-index in
    let agree = agreement_by c.args.has_quotes c.args.text.now in
    let d = get_or tried_delimiters i 0 in
    let more = take_more tried_delimiters i 0 (omega arith) in
    let is : c.agreement-agreement.result ≡ agree d = c.agreement-agreement.ensures ∙ ap agreement (c.as_slice.ensures.value ∙ c.in_ok-counts.ensures) in
    let ds = take i tried_delimiters in
    let xs = take (i + 1) tried_delimiters in
    elim c.if-agreement-most.branch [
      | then-agreement-most w ↦
          let both = after_better agree ds d c.agreement-agreement.result c.loop-delimiter.most xs more is inv.0 w.if-agreement-most.true in
          (w.most-is ∙ both.0, w.found-is ∙ both.1)
      | else-agreement-most w ↦
          let both = after_worse agree ds d c.agreement-agreement.result c.loop-delimiter.most xs more is inv.0 c.loop-delimiter.found inv.1 w.if-agreement-most.false in
          (w.most-is ∙ both.0, w.found-is ∙ both.1)
    ]
