use Rattle.std.proofs.Common.{◌≡◌, ◌≤◌, ◌∷◌, None, Some, ap, arith, length, rules, sym, ◌∙◌}
use Rattle.std.specs.Prelude.{if◌then◌else◌}
use Rattle.csv_records.specs.Counting.{state_at, step}
use Rattle.csv_records.specs.Input.{config_for}
use Rattle.csv_records.proofs.CountLemmas.{at_most_one, ends_there, ends_with_text, goes_on, none_begun}
use Rattle.csv_records.proofs.counting.first_count.Goals as goal

pub returns-in_default-step : goal.returns-in_default-step
returns-in_default-step c =
    let cfg = config_for c.args.delimiter c.args.has_quotes in
    let split : c.bytes.rest.now ≡ c.in-Some.byte.now ∷ c.in-Some.after.now = search rules in
    let ends : None ≡ step cfg (state_at c.bytes.state) c.in-Some.byte.now = search rules in
    sym (ends_there cfg (state_at c.bytes.state) c.bytes.count c.in-Some.byte.now c.in-Some.after.now ends) ∙ rw split at c.bytes.invariant.0

pub bytes-preserved : goal.bytes-preserved
bytes-preserved c =
    let cfg = config_for c.args.delimiter c.args.has_quotes in
    let next = c.in-Some-step.next in
    let ends_field = c.in-Some-step.ends_field in
    let split : c.bytes.rest.now ≡ c.in-Some.byte.now ∷ c.in-Some.after.now = search rules in
    let is : Some (state_at next, ends_field) ≡ step cfg (state_at c.bytes.state) c.in-Some.byte.now = search rules in
    let one : c.from-count.result ≡ (if ends_field then 1 else 0) = search rules in
    let few : c.from-count.result ≤ 1 = rw one (at_most_one ends_field) in
    let long = ap length split in (
      rw one (sym (goes_on cfg (state_at c.bytes.state) c.bytes.count c.in-Some.byte.now c.in-Some.after.now (state_at next, ends_field) is) ∙ rw split at c.bytes.invariant.0),
      omega (arith, few, long, c.bytes.invariant.1),
    )

pub returns-in-StartRecord : goal.returns-in-StartRecord
returns-in-StartRecord c =
    sym (none_begun (config_for c.args.delimiter c.args.has_quotes) c.bytes.count c.bytes.rest.now c.in_default.ensures.cases) ∙ rw c.in-StartRecord.is at c.bytes.invariant.0

pub returns-in_default-state : goal.returns-in_default-state
returns-in_default-state c =
    sym (ends_with_text (config_for c.args.delimiter c.args.has_quotes) c.bytes.state c.bytes.count c.bytes.rest.now c.in_default.ensures.cases c.in_default-state.not-StartRecord) ∙ c.bytes.invariant.0
