use Rattle.std.proofs.Common.{◌≡◌, ◌==◌, ◌&&◌, ◌∙◌, ◌<◌, ◌-◌, true, ap, drop, get_or, length, not, refl, sym, take, rules, tests, arith}
use Rattle.std.proofs.lemmas.List.Sums.{prefix_len-le-length}
use Rattle.std.specs.Char.{is_ascii_digit}
use Rattle.std.specs.List.{list_all, prefix_len}
use Rattle.comfy_parts.specs.Text.{Text}
use Rattle.csv_records.proofs.FieldNumberLemmas.{comma_number, decimal_of, marked_is_inner, none, point_number, whole_is_inner, whole_number}
use Rattle.csv_records.specs.Number.{is_name}
use Rattle.csv_records.proofs.field_number.plain_number.Goals as goal
use Rattle.csv_records.proofs.field_number.plain_number.Goals.{then-not-is_empty, else-not-is_empty}

pub split_at-requires : goal.split_at-requires
split_at-requires c = rw c.digit_count.ensures (prefix_len-le-length is_ascii_digit c.args.digits.now)

pub returns-in-empty-clause-value : goal.returns-in-empty-clause-value
returns-in-empty-clause-value c =
    let digits = c.args.digits.now in
    let left = c.split_at.result.1.now in
    let so : c.if-not-is_empty.is_number ≡ (not (length digits == 0) && not (is_name digits)) = elim c.if-not-is_empty.branch [ then-not-is_empty w ↦ search (rules, tests) | else-not-is_empty w ↦ search (rules, tests) ] in
    let rest : left ≡ drop (prefix_len is_ascii_digit digits) digits = search (rules, tests) in
    let ends : length (drop (prefix_len is_ascii_digit digits) digits) ≡ 0 = ap length (sym rest) ∙ omega (arith, c.in-empty.len_below) in
    c.decimal_number.ensures ∙ whole_number digits c.if-not-is_empty.is_number so c.args.is_bare ends

pub returns-in-empty-clause-bare : goal.returns-in-empty-clause-bare
returns-in-empty-clause-bare c =
    let digits = c.args.digits.now in
    let left = c.split_at.result.1.now in
    let so : c.if-not-is_empty.is_number ≡ (not (length digits == 0) && not (is_name digits)) = elim c.if-not-is_empty.branch [ then-not-is_empty w ↦ search (rules, tests) | else-not-is_empty w ↦ search (rules, tests) ] in
    let rest : left ≡ drop (prefix_len is_ascii_digit digits) digits = search (rules, tests) in
    let ends : length (drop (prefix_len is_ascii_digit digits) digits) ≡ 0 = ap length (sym rest) ∙ omega (arith, c.in-empty.len_below) in
    whole_is_inner digits c.if-not-is_empty.is_number so c.args.is_bare ends

pub returns-in-46-clause-value : goal.returns-in-46-clause-value
returns-in-46-clause-value c =
    let digits = c.args.digits.now in
    let left = c.split_at.result.1.now in
    let so : c.if-not-is_empty.is_number ≡ (not (length digits == 0) && not (is_name digits)) = elim c.if-not-is_empty.branch [ then-not-is_empty w ↦ search (rules, tests) | else-not-is_empty w ↦ search (rules, tests) ] in
    let rest : left ≡ drop (prefix_len is_ascii_digit digits) digits = search (rules, tests) in
    let first : get_or left 0 0 ≡ 0x2E = search (rules, tests) in
    let after : list_all is_ascii_digit (take (length left - 1) (drop 1 left)) ≡ true = sym c.are_digits.ensures ∙ c.if-are_digits.true in
    let some : 0 < length (drop (prefix_len is_ascii_digit digits) digits) = omega (arith, c.in-46.len_at_least, ap length rest) in
    let digital = ap (λ (t : Text). list_all is_ascii_digit (take (length t - 1) (drop 1 t))) (sym rest) ∙ after in
    let begins = ap (λ (t : Text). get_or t 0 0) (sym rest) ∙ first in
    let fraction : c.read_fraction.result ≡ record { len = length (drop (prefix_len is_ascii_digit digits) digits); is_readable = true } = c.read_fraction.ensures ∙ ap (λ (t : Text). record { len = length t; is_readable = true }) rest in
    let more : 1 < length digits = search (rules, tests) in
    c.decimal_number-in-46.ensures ∙ ap (λ f. decimal_of c.if-not-is_empty.is_number c.args.is_bare f none) fraction ∙ point_number digits c.if-not-is_empty.is_number so c.args.is_bare some begins digital more

pub returns-in-46-clause-bare : goal.returns-in-46-clause-bare
returns-in-46-clause-bare c =
    let digits = c.args.digits.now in
    let left = c.split_at.result.1.now in
    let so : c.if-not-is_empty.is_number ≡ (not (length digits == 0) && not (is_name digits)) = elim c.if-not-is_empty.branch [ then-not-is_empty w ↦ search (rules, tests) | else-not-is_empty w ↦ search (rules, tests) ] in
    let rest : left ≡ drop (prefix_len is_ascii_digit digits) digits = search (rules, tests) in
    let first : get_or left 0 0 ≡ 0x2E = search (rules, tests) in
    let after : list_all is_ascii_digit (take (length left - 1) (drop 1 left)) ≡ true = sym c.are_digits.ensures ∙ c.if-are_digits.true in
    let some : 0 < length (drop (prefix_len is_ascii_digit digits) digits) = omega (arith, c.in-46.len_at_least, ap length rest) in
    let digital = ap (λ (t : Text). list_all is_ascii_digit (take (length t - 1) (drop 1 t))) (sym rest) ∙ after in
    let begins = ap (λ (t : Text). get_or t 0 0) (sym rest) ∙ first in
    marked_is_inner digits c.if-not-is_empty.is_number so c.args.is_bare 0x2E refl some begins digital

pub returns-in-44-clause-value : goal.returns-in-44-clause-value
returns-in-44-clause-value c =
    let digits = c.args.digits.now in
    let left = c.split_at.result.1.now in
    let so : c.if-not-is_empty.is_number ≡ (not (length digits == 0) && not (is_name digits)) = elim c.if-not-is_empty.branch [ then-not-is_empty w ↦ search (rules, tests) | else-not-is_empty w ↦ search (rules, tests) ] in
    let rest : left ≡ drop (prefix_len is_ascii_digit digits) digits = search (rules, tests) in
    let first : get_or left 0 0 ≡ 0x2C = search (rules, tests) in
    let after : list_all is_ascii_digit (take (length left - 1) (drop 1 left)) ≡ true = sym c.are_digits-then-digits-gt1-2.ensures ∙ c.if-are_digits-2.true in
    let some : 0 < length (drop (prefix_len is_ascii_digit digits) digits) = omega (arith, c.in-44.len_at_least, ap length rest) in
    let digital = ap (λ (t : Text). list_all is_ascii_digit (take (length t - 1) (drop 1 t))) (sym rest) ∙ after in
    let begins = ap (λ (t : Text). get_or t 0 0) (sym rest) ∙ first in
    let fraction : c.read_fraction-in-44.result ≡ record { len = length (drop (prefix_len is_ascii_digit digits) digits); is_readable = true } = c.read_fraction-in-44.ensures ∙ ap (λ (t : Text). record { len = length t; is_readable = true }) rest in
    let more : 1 < length digits = search (rules, tests) in
    c.decimal_number-in-44.ensures ∙ ap (λ f. decimal_of c.if-not-is_empty.is_number c.args.is_bare none f) fraction ∙ comma_number digits c.if-not-is_empty.is_number so c.args.is_bare some begins digital more

pub returns-in-44-clause-bare : goal.returns-in-44-clause-bare
returns-in-44-clause-bare c =
    let digits = c.args.digits.now in
    let left = c.split_at.result.1.now in
    let so : c.if-not-is_empty.is_number ≡ (not (length digits == 0) && not (is_name digits)) = elim c.if-not-is_empty.branch [ then-not-is_empty w ↦ search (rules, tests) | else-not-is_empty w ↦ search (rules, tests) ] in
    let rest : left ≡ drop (prefix_len is_ascii_digit digits) digits = search (rules, tests) in
    let first : get_or left 0 0 ≡ 0x2C = search (rules, tests) in
    let after : list_all is_ascii_digit (take (length left - 1) (drop 1 left)) ≡ true = sym c.are_digits-then-digits-gt1-2.ensures ∙ c.if-are_digits-2.true in
    let some : 0 < length (drop (prefix_len is_ascii_digit digits) digits) = omega (arith, c.in-44.len_at_least, ap length rest) in
    let digital = ap (λ (t : Text). list_all is_ascii_digit (take (length t - 1) (drop 1 t))) (sym rest) ∙ after in
    let begins = ap (λ (t : Text). get_or t 0 0) (sym rest) ∙ first in
    marked_is_inner digits c.if-not-is_empty.is_number so c.args.is_bare 0x2C refl some begins digital
