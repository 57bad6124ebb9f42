use Rattle.std.proofs.Common.{◌≡◌, ◌+◌, ◌-◌, ◌∷◌, [], None, append_assoc, arith, rules, suc, sym, zero, ◌∙◌}
use Rattle.std.proofs.lemmas.List.{append-nil}
use Rattle.csv.specs.declared.parser.State.TheVariants as st
use Rattle.csv_records.specs.Counting.{count_from}
use Rattle.csv_records.specs.Input.{config_for}
use Rattle.csv_records.proofs.CountLemmas.{counts_left, no_turns, none_counted, one_counted}
use Rattle.csv_records.proofs.counting.field_counts.Goals as goal
use Rattle.csv_records.proofs.counting.field_counts.Goals.{else-loop-test, then-loop-test+in_default}

pub loop-preserved : goal.loop-preserved
loop-preserved c =
    let left = c.args.most - (c.loop.counter + 1) in
    let turns : c.args.most - c.loop.counter ≡ suc left = omega arith in
    let one = one_counted c.args.delimiter c.args.has_quotes left c.loop.rest.now c.in-Some.count c.in-Some.after.now c.in-Some.ensures in
    rw c.in_ok-push.ensures.items
    (append_assoc c.loop.counts.items (c.in-Some.count ∷ []) (counts_left c.args.delimiter c.args.has_quotes left c.in-Some.after.now) ∙ rw (turns, one) at c.loop.invariant)

pub returns : goal.returns
returns c =
    let had = c.loop.counts.items in
    elim c.loop-test.branch [
      | else-loop-test w ↦
          let none : c.args.most - c.loop.counter ≡ zero = omega arith in
          sym (append-nil had) ∙ rw (none, no_turns c.args.delimiter c.args.has_quotes c.loop.rest.now) at c.loop.invariant
      | then-loop-test+in_default w ↦
          let none : None ≡ count_from (config_for c.args.delimiter c.args.has_quotes) st.StartRecord 1 c.loop.rest.now = search rules in
          sym (append-nil had) ∙ rw (none_counted c.args.delimiter c.args.has_quotes (c.args.most - c.loop.counter) c.loop.rest.now none) at c.loop.invariant
    ]
