-- The beginnings of an input that are tested.
use Rattle.std.proofs.Common.{◌≡◌, ◌⊎◌, inl, inr, ℕ, suc, ◌+◌, ◌<◌, ◌≤◌, ◌*◌, ◌^◌, Bool, true, false, [], ◌++◌, Option, Some, Result, refl, sym, ap, ◌∙◌, subst, length, take, append-nil, length-append, arith}
use Rattle.std.proofs.Math.Nat.{pow-suc}
use Rattle.std.proofs.Math.Pow.{pow_mono}
use Rattle.std.proofs.Math.Seq.{take-append_seam}
use Rattle.std.proofs.lemmas.Bool.{cases_lt}
use Rattle.std.proofs.lemmas.Nat.{pow_pos}
use Rattle.devices.specs.Device.{Bytes}
use Rattle.devices.specs.Outcome.{Beginning, Extent, NoneIsEnough, Whole, tested_at, tested_front}
use Rattle.devices.specs.Transfer.{IsAnswer, IsAnswered, Moves}

-- ---- lengths

-- no beginning shorter than 65536 bytes is tested
pub tested_some : (n : ℕ) → 65536 ≤ tested_at n
tested_some n = let some : 0 < 2 ^ n = pow_pos n in omega (arith, some)

tested_twice : (n : ℕ) → tested_at n * 2 ≡ tested_at (suc n)
tested_twice n = let more : 2 ^ suc n ≡ 2 ^ n * 2 = pow-suc 2 n in omega (arith, more)

tested_mono : (m n : ℕ) → m ≤ n → tested_at m ≤ tested_at n
tested_mono m n before = let more : 2 ^ m ≤ 2 ^ n = pow_mono before in omega (arith, more)

-- no beginning of an empty input is tested
pub none_tested : (IsNotEnough : Bytes → Type 0) → NoneIsEnough IsNotEnough []
none_tested IsNotEnough n reaches = absurd (omega (arith, tested_some n, reaches))

-- ---- reading

-- the next test is at `len` bytes of a source, and no beginning that was tested before is enough
pub record IsTestedNext (IsNotEnough : Bytes → Type 0) (known : Option Bytes) (len : ℕ) : Type 0 where
  pub n : ℕ
  pub next : len ≡ tested_at n
  pub none_before : (all : Bytes) → known ≡ Some all → (m : ℕ) → m < n → IsNotEnough (tested_front m all)

module _ (IsNotEnough : Bytes → Type 0) (known now : Option Bytes) where
  module _ (len : ℕ) (read : Bytes) (tested : IsTestedNext IsNotEnough known len) (moved : Moves known now [] read) where
    -- the bytes that were read are the beginning for the next test
    at_front : length read ≡ len → (all : Bytes) → known ≡ Some all → read ≡ tested_front tested.n all
    at_front is all own =
        let was = moved all own in
        sym (ap (λ t. tested_front tested.n t) was.2 ∙ ap (λ k. take k (read ++ was.0)) (sym (is ∙ tested.next)) ∙ take-append_seam read was.0)

    reaches : length read ≡ len → (all : Bytes) → known ≡ Some all → tested_at tested.n ≤ length all
    reaches is all own =
        let was = moved all own in
        let all_length : length all ≡ length read + length was.0 = ap length was.2 ∙ length-append read was.0 in
        omega (arith, all_length, is, tested.next)

    -- if this beginning isn't enough, the next test is at twice as many bytes
    pub tested_again : length read ≡ len → IsNotEnough read → IsTestedNext IsNotEnough known (len * 2)
    tested_again is none = record { n = suc tested.n; next = ap (λ k. k * 2) tested.next ∙ tested_twice tested.n; none_before = λ all own m below. by_order all own m (cases_lt m tested.n) below }
      where
        by_order : (all : Bytes) → known ≡ Some all → (m : ℕ) → (m < tested.n) ⊎ (tested.n ≤ m) → m < suc tested.n → IsNotEnough (tested_front m all)
        by_order all own m (inl before) below = tested.none_before all own m before
        by_order all own m (inr after) below =
            let same : tested.n ≡ m = omega (arith, after, below) in
            subst (λ k. IsNotEnough (tested_front k all)) same (subst IsNotEnough (at_front is all own) none)

    module _ {A E : Type 0} (IsOutput : Extent → Bytes → A → Type 0) (IsRefusal : Extent → Bytes → E → Type 0) (answer : Result A E) where
      -- a result for a beginning, if the source's end wasn't read
      pub answered_by_beginning : (ended : Bool) → length read ≡ len → ((all : Bytes) → ended ≡ true → known ≡ Some all → all ≡ []) → IsAnswer IsOutput IsRefusal Beginning read answer
          → IsAnswered IsNotEnough IsOutput IsRefusal known ended answer
      answered_by_beginning ended is at_end made =
          (Beginning, (read, made, λ all own. (not_ended ended all own (at_end all), tested.n, record { reaches = reaches is all own; none_before = tested.none_before all own }, at_front is all own)))
        where
          not_ended : (b : Bool) (all : Bytes) → known ≡ Some all → (b ≡ true → known ≡ Some all → all ≡ []) → b ≡ false
          not_ended false all own none = refl
          not_ended true all own none =
              let nothing : length all ≡ 0 = ap length (none refl own) in
              absurd (omega (arith, nothing, reaches is all own, tested_some tested.n))

      -- a result for the whole input
      pub answered_by_whole : (ended : Bool) → length read < len → ended ≡ true → ((left : Bytes) → now ≡ Some left → left ≡ []) → IsAnswer IsOutput IsRefusal Whole read answer
          → IsAnswered IsNotEnough IsOutput IsRefusal known ended answer
      answered_by_whole ended fewer whole at_end made = (Whole, (read, made, whole, λ all own. (same all own, none all own)))
        where
          same : (all : Bytes) → known ≡ Some all → all ≡ read
          same all own = let was = moved all own in was.2 ∙ ap (λ t. read ++ t) (at_end was.0 was.1) ∙ append-nil read

          none : (all : Bytes) → known ≡ Some all → NoneIsEnough IsNotEnough all
          none all own m reached = by_order (cases_lt m tested.n)
            where
              by_order : (m < tested.n) ⊎ (tested.n ≤ m) → IsNotEnough (tested_front m all)
              by_order (inl before) = tested.none_before all own m before
              by_order (inr after) =
                  let all_length : length all ≡ length read = ap length (same all own) in
                  absurd (omega (arith, all_length, fewer, tested.next, reached, tested_mono tested.n m after))
