use Rattle.std.proofs.Common.{ap₂, ◌≡◌, ◌<◌, ◌^◌, ◌-◌, Err, ℕ, length, rules, arith, unwrap_or, string_bytes, ◌∙◌}
use Rattle.std.specs.Prelude.{if◌then◌else◌}
use Rattle.csv_records.specs.Reading.{IsDecodedBy}
use Rattle.csv_command.proofs.FirstRowLemmas.{drawn_alike, first_drawn, whole_output, whole_refused, whole_long_records}
use Rattle.csv_command.proofs.RunLemmas.{of_no_text}
use Rattle.csv_command.specs.Errors.{of_columns, of_decoding}
use Rattle.csv_command.proofs.transfer.rendered_input.Goals as goal

pub returns-in_err-text-clause-refused : goal.returns-in_err-text-clause-refused
returns-in_err-text-clause-refused c =
    let e = c.in_err-text.field-0.0 in
    let same : c.from_residual.result ≡ Err (of_decoding e) = search rules in
    rw same (of_no_text c.args.options.now _ e c.in_err-text.ensures.refused)

pub returns-in_err-pieces-clause-refused : goal.returns-in_err-pieces-clause-refused
returns-in_err-pieces-clause-refused c =
    let options = c.args.options.now in
    let e = c.in_err-pieces.field-0.0 in
    let same : c.from_residual-in_err-pieces.result ≡ Err (of_columns e) = search rules in
    let are = c.in_ok-first.ensures.all in
    let text = string_bytes c.in_ok-text.text in
    let is_text : IsDecodedBy options.input c.args.input.items text = search rules in
    let some : length are.all ≡ 0 → ⊥ = λ none. c.if-first-eq0.false (are.count ∙ none) in
    let most : c.unwrap_or-most.result ≡ unwrap_or c.most_drawn.result (2 ^ 64 - 1) = search rules in
    let few : length are.all < 2 ^ 64 = omega (arith, c.in_ok-first.ensures.count, are.count) in
    let alike = drawn_alike options.selection c.in_ok-first.first.records are.all c.most_drawn.result c.most_drawn.ensures.some (rw most at are.records) few in
    rw same (whole_refused options c.args.input.items text c.in_ok-first.first.records are.all alike is_text (rw c.as_str.ensures.value at are.are) some e c.in_err-pieces.ensures.refused)

pub returns-clause-output : goal.returns-clause-output
returns-clause-output c =
    let options = c.args.options.now in
    let are = c.in_ok-first.ensures.all in
    let text = string_bytes c.in_ok-text.text in
    let is_text : IsDecodedBy options.input c.args.input.items text = search rules in
    let some : length are.all ≡ 0 → ⊥ = λ none. c.if-first-eq0.false (are.count ∙ none) in
    let most : c.unwrap_or-most.result ≡ unwrap_or c.most_drawn.result (2 ^ 64 - 1) = search rules in
    let few : length are.all < 2 ^ 64 = omega (arith, c.in_ok-first.ensures.count, are.count) in
    let alike = drawn_alike options.selection c.in_ok-first.first.records are.all c.most_drawn.result c.most_drawn.ensures.some (rw most at are.records) few in
    let header : c.from.result ≡ (if options.selection.has_header then 1 else 0) = search rules in
    let below = ap₂ (λ (n m : ℕ). n - m) are.count header in
    record {
      records = are.all;
      are_records = record { text = text; is_text = is_text; are_records = rw c.as_str.ensures.value at are.are };
      is_output = whole_output options c.in_ok-first.first.records are.all _ c.in_ok-pieces.pieces alike some below c.in_ok-pieces.ensures.output;
    }

pub returns-then-first-eq0-clause-long_records : goal.returns-then-first-eq0-clause-long_records
returns-then-first-eq0-clause-long_records c =
    let options = c.args.options.now in
    let are = c.in_ok-first.ensures.all in
    let text = string_bytes c.in_ok-text.text in
    let is_text : IsDecodedBy options.input c.args.input.items text = search rules in
    let most : c.unwrap_or-most.result ≡ unwrap_or c.most_drawn.result (2 ^ 64 - 1) = search rules in
    let few : length are.all < 2 ^ 64 = omega (arith, c.in_ok-first.ensures.count, are.count) in
    let drawn = first_drawn options.selection c.in_ok-first.first.records are.all c.most_drawn.result c.most_drawn.ensures.some c.most_drawn.ensures.none (rw most at are.records) few in
    whole_long_records options c.args.input.items text c.in_ok-first.first.records are.all _ _ drawn is_text (rw c.as_str.ensures.value at are.are) (rw c.as_str.ensures.value at c.in_ok-first.ensures.longer) c.long_records_of-findings.ensures

pub returns-clause-long_records : goal.returns-clause-long_records
returns-clause-long_records c =
    let options = c.args.options.now in
    let are = c.in_ok-first.ensures.all in
    let text = string_bytes c.in_ok-text.text in
    let is_text : IsDecodedBy options.input c.args.input.items text = search rules in
    let most : c.unwrap_or-most.result ≡ unwrap_or c.most_drawn.result (2 ^ 64 - 1) = search rules in
    let few : length are.all < 2 ^ 64 = omega (arith, c.in_ok-first.ensures.count, are.count) in
    let drawn = first_drawn options.selection c.in_ok-first.first.records are.all c.most_drawn.result c.most_drawn.ensures.some c.most_drawn.ensures.none (rw most at are.records) few in
    whole_long_records options c.args.input.items text c.in_ok-first.first.records are.all _ _ drawn is_text (rw c.as_str.ensures.value at are.are) (rw c.as_str.ensures.value at c.in_ok-first.ensures.longer) c.long_records_of-findings.ensures
