-- The result of `parse` for a word of digits.
use Rattle.std.proofs.Common.{◌≡◌, ℕ, Bool, true, false, Some, None, refl, rules}
use Rattle.std.specs.Prelude.{if◌then◌else◌}
use Rattle.std.specs.Char.{is_ascii_digit}
use Rattle.std.specs.List.{list_all}
use Rattle.std.specs.Str.Parse.{digits_value}
use Rattle.std.proofs.lemmas.Str.Parse.{IsNumeralModel, numerals_by_value}

pub digits : IsNumeralModel (λ word. list_all is_ascii_digit word ≡ true) (digits_value 10)
digits = numerals_by_value _ (search rules)

pub none_where : (b : Bool) (n : ℕ) → b ≡ false → None ≡ (if b then Some n else None)
none_where false n h = refl
none_where true n h = absurd (cc h)

pub some_where : (b : Bool) (m n : ℕ) → b ≡ true → m ≡ n → Some m ≡ (if b then Some n else None)
some_where true m n h e = cc
some_where false m n h e = absurd (cc h)
