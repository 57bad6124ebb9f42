-- The number that `clap` gives for a value.
use Rattle.std.proofs.Common.{◌≡◌, ℕ, List, Option, Some, None, Result, Ok, Err, refl}
use Rattle.std.specs.Prelude.{option_and_then}
use Rattle.std.specs.Str.Parse.{ParsesUnsigned, without_leading_plus}
use Rattle.clap.specs.Words.{ReadsOne}
use Rattle.csv_records.proofs.NumeralLemmas.{read}
use Rattle.csv_records.specs.Numerals.{number_for}

-- the result of `get_one` for a value, at a type that reads arguments as `parse` reads numbers of this many bits
module _ (bits : ℕ) (E : Type 0) (G : List ℕ → Result ℕ E → Type 0) (only : (word : List ℕ) (r : Result ℕ E) → G word r → ParsesUnsigned bits 10 word r) where
  of_word : (word : List ℕ) (number : Option ℕ) → ReadsOne G word number → number ≡ number_for bits (without_leading_plus word)
  of_word word (Some n) h = read bits word {E = E} (Ok n) (only word (Ok n) h)
  of_word word None h = read bits word {E = E} (Err h.0) (only word (Err h.0) h.1)

  pub of_found : (found : Option (List ℕ)) (number : Option ℕ) → (found ≡ None → number ≡ None) → ((word : List ℕ) → found ≡ Some word → ReadsOne G word number)
      → number ≡ option_and_then (λ word. number_for bits (without_leading_plus word)) found
  of_found None number none some = none refl
  of_found (Some word) number none some = of_word word number (some word refl)
