-- The first byte that passes a test, as memchr finds it and as its position in a list.
use Rattle.std.proofs.Common.{◌≡◌, ◌<◌, ℕ, Bool, true, false, Option, Some, None, arith, length, nat_lt, refl, tests}
use Rattle.std.proofs.lemmas.List.Sums.{position_or_len_is}
use Rattle.std.specs.List.{position, position_or_len}
use Rattle.std.specs.Prelude.{if◌then◌else◌}
use Rattle.memchr.specs.Find.{IsFirstByte}
use Rattle.comfy_parts.specs.Text.{Text}

not_true : (b : Bool) → (b ≡ true → ⊥) → b ≡ false
not_true true none = absurd (none refl)
not_true false none = refl

module _ (test : ℕ → Bool) (bytes : Text) where
  at_end : position_or_len test bytes ≡ length bytes → None ≡ position test bytes
  at_end is = rw is (by_test (nat_lt (length bytes) (length bytes)) (grind (arith, tests)))
    where
      by_test : (v : Bool) → v ≡ false → None ≡ (if v then Some (length bytes) else None)
      by_test true end = absurd (cc end)
      by_test false end = refl

  within : (k : ℕ) → k < length bytes → position_or_len test bytes ≡ k → Some k ≡ position test bytes
  within k inside is = rw is (by_test (nat_lt k (length bytes)) (grind (arith, inside, tests)))
    where
      by_test : (v : Bool) → v ≡ true → Some k ≡ (if v then Some k else None)
      by_test true inside = refl
      by_test false inside = absurd (cc inside)

  pub first_place : (place : Option ℕ) → IsFirstByte test bytes place → place ≡ position test bytes
  first_place None nowhere = at_end (position_or_len_is test bytes (length bytes) 0 (omega arith) (λ k below. not_true _ (λ is. nowhere k (omega arith) below is)) (λ more. absurd (omega (arith, more))))
  first_place (Some k) first = within k first.0.high (position_or_len_is test bytes k 0 (omega (arith, first.0.high)) (λ i below. not_true _ (λ is. first.0.before i (omega arith) below is)) (λ inside. first.1))
