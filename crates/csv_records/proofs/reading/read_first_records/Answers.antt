use Rattle.std.proofs.Common.{◌≡◌, ◌≢◌, ◌+◌, ◌-◌, ◌≤◌, ◌++◌, ◌∙◌, ℕ, ap, append_assoc, arith, drop, length, length-append, subst, sym, take}
use Rattle.std.proofs.Math.Seq.{take-append-add}
use Rattle.std.proofs.lemmas.List.{length-drop, take-append-drop}
use Rattle.csv.specs.Reading.{strip_bom}
use Rattle.comfy_parts.specs.Text.{Text}
use Rattle.csv_records.specs.Lines.{EndsIn}
use Rattle.csv_records.specs.Quotes.{IsUnclosed}
use Rattle.csv_records.specs.Reading.{parted}
use Rattle.csv_records.specs.declared.delimiter.Delimiter.TheVariants.{Spaces}
use Rattle.csv_records.proofs.ReadTextLemmas.{plain_parted, plain_quotes}
use Rattle.csv_records.proofs.reading.read_first_records.Goals as goal

-- a text is its prefix up to a place and the suffix from there
cut : (front rest : Text) (at : ℕ) → at ≤ length rest → front ++ rest ≡ take (length (front ++ rest) - (length rest - at)) (front ++ rest) ++ drop at rest
cut front rest at within =
    let place : length (front ++ rest) - (length rest - at) ≡ length front + at = omega (arith, length-append front rest, within) in
    rw place (rw (take-append-add front rest at) (ap (λ (t : Text). front ++ t) (sym (take-append-drop at rest)) ∙ sym (append_assoc front (take at rest) (drop at rest))))

cut_end : (text rest : Text) (at : ℕ) → at ≤ length rest → EndsIn text rest → text ≡ take (length text - (length rest - at)) text ++ drop at rest
cut_end text rest at within (front, is_text) = rw is_text (cut front rest at within)

-- the unclosed quote is within the bytes
within : (delimiter : ℕ) (text rest : Text) (at : ℕ) → IsUnclosed delimiter text (drop at rest) → at ≤ length rest
within delimiter text rest at is = omega (arith, ap length is.quote, length-drop at rest)

pub returns-in-Some-clause-refused : goal.returns-in-Some-clause-refused
returns-in-Some-clause-refused c =
    let rest = c.in_ok-delimiter.rest.now in
    let at = c.in-Some.at in
    let d = c.args.options.now.delimiter in
    let q = c.args.options.now.has_quotes in
    let other : d ≢ Spaces = c.in_default.not-Spaces in
    let same = plain_parted c.args.options.now c.args.text.now other in
    let is : IsUnclosed c.in_ok-delimiter.delimiter (strip_bom rest) (drop at rest) = c.in-Some.ensures.some in
    let byte : c.in_ok-delimiter.delimiter ≡ (parted c.args.options.now c.args.text.now).0 = c.in_ok-delimiter.ensures.byte ∙ ap (λ (p : ℕ × Text). p.0) (sym same) in
    let records : rest ≡ (parted c.args.options.now c.args.text.now).1 = c.in_ok-delimiter.ensures.records ∙ ap (λ (p : ℕ × Text). p.1) (sym same) in
    record {
      has_quotes = plain_quotes d q other ∙ c.if-options.true;
      before = take (length c.args.text.now - (length rest - at)) c.args.text.now;
      from_quote = drop at rest;
      parts = cut_end c.args.text.now rest at (within _ _ rest at is) c.in_ok-delimiter.ensures.end;
      is_unclosed = subst (λ (d : ℕ). IsUnclosed d (strip_bom (parted c.args.options.now c.args.text.now).1) (drop at rest)) byte (subst (λ (t : Text). IsUnclosed c.in_ok-delimiter.delimiter (strip_bom t) (drop at rest)) records is);
      numbered = c.line_before-line.ensures;
    }
