use Rattle.std.proofs.Common.{◌≡◌, ◌==◌, ◌<◌, ◌+◌, ◌-◌, ℕ, arith, eqb-true, false, length, subst, true}
use Rattle.std.proofs.lemmas.Bool.{eq-eqb}
use Rattle.std.specs.List.{slice_index}
use Rattle.csv_records.specs.QuoteWalk.{StaysQuoted}
use Rattle.csv_records.proofs.QuoteLemmas.{both_quotes, closes, next_quote, no_quote, not_true, quoted_run}
use Rattle.csv_records.proofs.quotes.closing_end.Goals as goal
use Rattle.csv_records.proofs.quotes.closing_end.Goals.{then-after-bytes-via-then-after-bytes, then-after-bytes-via-else-after-bytes+then-bytes-after-ne-QUOTE}

pub returns-then-after-bytes-clause-some : goal.returns-then-after-bytes-clause-some
returns-then-after-bytes-clause-some c delimiter is =
    let text = c.args.bytes.now in
    let quote = c.quotes.at + c.in-Some.ahead in
    let found = next_quote text c.quotes.at c.quotes.invariant.1 c.in-Some.ahead c.in-Some.ensures in
    let so = quoted_run delimiter text c.in-Some.ahead c.args.from c.quotes.at (omega (arith, found.0)) (c.quotes.invariant.2 delimiter is) found.2 in
    let alone : quote + 1 < length text → (slice_index text (quote + 1) == 0x22) ≡ false = λ within. elim c.then-after-bytes.branch [
      | then-after-bytes-via-then-after-bytes w ↦ let ends = w.if-after-bytes.true in absurd (omega (arith, ends, within))
      | then-after-bytes-via-else-after-bytes+then-bytes-after-ne-QUOTE w ↦ not_true _ (λ same. w.if-bytes-after-ne-QUOTE.true (eqb-true (slice_index text (quote + 1)) 0x22 same))
    ] in
    closes delimiter text c.args.from quote found.0 so found.1 alone

pub quotes-preserved : goal.quotes-preserved
quotes-preserved c =
    let text = c.args.bytes.now in
    let quote = c.quotes.at + c.in-Some.ahead in
    let found = next_quote text c.quotes.at c.quotes.invariant.1 c.in-Some.ahead c.in-Some.ensures in
    let within : quote + 1 < length text = omega (arith, found.0, c.if-after-bytes.false) in
    let again : (slice_index text (quote + 1) == 0x22) ≡ true = eq-eqb (slice_index text (quote + 1)) 0x22 c.if-bytes-after-ne-QUOTE.false in (
      omega (arith, c.quotes.invariant.0),
      omega (arith, within),
      λ delimiter is.
          let so = quoted_run delimiter text c.in-Some.ahead c.args.from c.quotes.at (omega (arith, found.0)) (c.quotes.invariant.2 delimiter is) found.2 in
          both_quotes delimiter text c.args.from quote within so found.1 again,
    )

pub returns-clause-none : goal.returns-clause-none
returns-clause-none c delimiter is =
    let text = c.args.bytes.now in
    let at = c.quotes.at in
    let ends : at + (length text - at) ≡ length text = omega (arith, c.quotes.invariant.1) in
    subst (λ (n : ℕ). StaysQuoted delimiter text c.args.from n) ends
    (quoted_run delimiter text (length text - at) c.args.from at (omega (arith, ends)) (c.quotes.invariant.2 delimiter is) (no_quote text at c.quotes.invariant.1 c.in_default.ensures))
