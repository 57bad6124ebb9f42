use Rattle.std.proofs.Common.{◌≡◌, ◌≤◌, ℕ, true, Result, Ok, Err, length, rules, tests, ◌∙◌}
use Rattle.std.specs.Char.{is_ascii_digit}
use Rattle.std.specs.List.{list_all}
use Rattle.std.specs.Result.{result_ok}
use Rattle.std.specs.Str.Parse.{digits_value, ParsesUnsigned}
use Rattle.std.proofs.lemmas.Str.Parse.{parse_digits}
use Rattle.comfy_parts.proofs.CallerLemmas.{digits, none_where, some_where}
use Rattle.comfy_parts.specs.Text.{Text}
use Rattle.comfy_run.specs.Arguments.{is_short_number, number_for}
use Rattle.comfy_run.proofs.arguments.number_of.Goals as goal

-- for at most five digits, `parse` returns their number if that is at most 65535
parsed : (argument : Text) {E : Type 0} (r : Result ℕ E) → ParsesUnsigned 16 10 argument r → length argument ≤ 5 → list_all is_ascii_digit argument ≡ true → result_ok r ≡ number_for argument
parsed argument {E} (Ok n) h short all =
    let e = parse_digits digits {E = E} 16 argument (Ok n) h all in
    some_where (is_short_number argument) n (digits_value 10 argument) (search (rules, tests)) e.1
parsed argument {E} (Err e) h short all =
    let none = parse_digits digits {E = E} 16 argument (Err e) h all in
    none_where (is_short_number argument) (digits_value 10 argument) (search (rules, tests))

pub returns : goal.returns
returns c = c.ok.ensures.value ∙ parsed c.args.argument.now c.parse.result (search rules) (search rules) (search rules)
