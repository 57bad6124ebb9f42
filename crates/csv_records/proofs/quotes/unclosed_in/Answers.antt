use Rattle.std.proofs.Common.{◌≡◌, ◌+◌, ◌-◌, ℕ, arith, inr, length, subst, sym, ◌∙◌}
use Rattle.csv_records.proofs.QuoteLemmas.{WalksOutside, ends_outside, next_quote, no_quote, opens, outside_run, passes, starts, unclosed}
use Rattle.csv_records.proofs.quotes.unclosed_in.Goals as goal

pub returns-in_default-closing_end-clause-some : goal.returns-in_default-closing_end-clause-some
returns-in_default-closing_end-clause-some c =
    let delimiter = c.args.delimiter in
    let text = c.args.bytes.now in
    let quote = c.quotes.at + c.in-Some.ahead in
    let found = next_quote text c.quotes.at c.quotes.invariant.0 c.in-Some.ahead c.in-Some.ensures in
    let here = outside_run delimiter text c.in-Some.ahead c.quotes.at (omega (arith, found.0)) c.quotes.invariant.1 found.2 in
    let opening = sym c.is_opening.ensures ∙ c.if-is_opening.true in
    unclosed delimiter text quote found.0 found.1 (starts delimiter text quote found.0 found.1 here opening)
    (c.in_default-closing_end.ensures.none delimiter (opens delimiter text quote found.0 found.1 here opening))

pub quotes-preserved-in-Some-closing_end : goal.quotes-preserved-in-Some-closing_end
quotes-preserved-in-Some-closing_end c =
    let delimiter = c.args.delimiter in
    let text = c.args.bytes.now in
    let quote = c.quotes.at + c.in-Some.ahead in
    let found = next_quote text c.quotes.at c.quotes.invariant.0 c.in-Some.ahead c.in-Some.ensures in
    let here = outside_run delimiter text c.in-Some.ahead c.quotes.at (omega (arith, found.0)) c.quotes.invariant.1 found.2 in
    let opening = sym c.is_opening.ensures ∙ c.if-is_opening.true in
    (c.in-Some-closing_end.ensures.inside, inr (c.in-Some-closing_end.ensures.some delimiter (opens delimiter text quote found.0 found.1 here opening)))

pub quotes-preserved : goal.quotes-preserved
quotes-preserved c =
    let delimiter = c.args.delimiter in
    let text = c.args.bytes.now in
    let quote = c.quotes.at + c.in-Some.ahead in
    let found = next_quote text c.quotes.at c.quotes.invariant.0 c.in-Some.ahead c.in-Some.ensures in
    let here = outside_run delimiter text c.in-Some.ahead c.quotes.at (omega (arith, found.0)) c.quotes.invariant.1 found.2 in
    (omega (arith, found.0), passes delimiter text quote found.0 found.1 here (sym c.is_opening.ensures ∙ c.if-is_opening.false))

pub returns-clause-none : goal.returns-clause-none
returns-clause-none c =
    let delimiter = c.args.delimiter in
    let text = c.args.bytes.now in
    let at = c.quotes.at in
    let ends : at + (length text - at) ≡ length text = omega (arith, c.quotes.invariant.0) in
    ends_outside delimiter text (subst (λ (n : ℕ). WalksOutside delimiter text n) ends
    (outside_run delimiter text (length text - at) at (omega (arith, ends)) c.quotes.invariant.1 (no_quote text at c.quotes.invariant.0 c.in_default.ensures)))
