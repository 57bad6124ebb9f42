-- The number that `parse` gives for a word.
use Rattle.std.proofs.Common.{◌≡◌, ℕ, ◌<◌, ◌^◌, Bool, true, false, None, Result, Ok, Err, refl, rules, tests, length}
use Rattle.std.specs.Prelude.{◌&&◌, nat_lt}
use Rattle.std.specs.Char.{is_ascii_digit}
use Rattle.std.specs.List.{list_all}
use Rattle.std.specs.Result.{OkIff, result_ok}
use Rattle.std.specs.Str.Parse.{IsNumeral, ParsesUnsigned, digits_value, without_leading_plus}
use Rattle.std.proofs.lemmas.Str.Parse.{parse_digits}
use Rattle.comfy_parts.proofs.CallerLemmas.{digits, none_where, some_where}
use Rattle.comfy_parts.specs.Text.{Text}
use Rattle.csv_records.specs.Numerals.{is_numeral, number_for}

not_all : (a b c : Bool) → (a ≡ true → b ≡ true → c ≡ true → ⊥) → (a && b) && c ≡ false
not_all false b c h = refl
not_all true false c h = refl
not_all true true false h = refl
not_all true true true h = absurd (h refl refl refl)

numeral_or_none : {E : Type 0} (bits : ℕ) (ds : Text) (r : Result ℕ E) → OkIff r (IsNumeral 10 ds × (digits_value 10 ds < 2 ^ bits)) (digits_value 10 ds) → result_ok r ≡ number_for bits ds
numeral_or_none bits ds (Ok n) h =
    let all = digits.from ds h.0.0.1 in
    some_where (is_numeral bits ds) n (digits_value 10 ds) (search (rules, tests)) h.1
numeral_or_none bits ds (Err e) h =
    none_where (is_numeral bits ds) (digits_value 10 ds)
    (not_all (list_all is_ascii_digit ds) (nat_lt 0 (length ds)) (nat_lt (digits_value 10 ds) (2 ^ bits)) (λ all some small. h ((search (rules, tests), digits.to ds all), search (rules, tests))))

module _ (bits : ℕ) (word : Text) where
  -- a word with other characters is no number
  pub other : list_all is_ascii_digit word ≡ false → None ≡ number_for bits word
  other h = none_where (is_numeral bits word) (digits_value 10 word) (search (rules, tests))

  -- `parse` gives the number of digits if it has at most `bits` bits
  pub parsed : {E : Type 0} (r : Result ℕ E) → ParsesUnsigned bits 10 word r → list_all is_ascii_digit word ≡ true → result_ok r ≡ number_for bits word
  parsed {E} (Ok n) h all =
      let e = parse_digits digits {E = E} bits word (Ok n) h all in
      some_where (is_numeral bits word) n (digits_value 10 word) (search (rules, tests)) e.1
  parsed {E} (Err e) h all =
      let none = parse_digits digits {E = E} bits word (Err e) h all in
      none_where (is_numeral bits word) (digits_value 10 word) (search (rules, tests))

  -- for any word, `parse` gives the number after an optional plus
  pub read : {E : Type 0} (r : Result ℕ E) → ParsesUnsigned bits 10 word r → result_ok r ≡ number_for bits (without_leading_plus word)
  read r h = numeral_or_none bits (without_leading_plus word) r h
