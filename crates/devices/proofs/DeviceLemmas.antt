-- The calls of a source over memory, in the words of every source.
use Rattle.std.proofs.Common.{zero, suc, ◌≡◌, ◌<◌, ◌≤◌, ℕ, Bool, true, false, ◌||◌, ◌&&◌, nat_lt, ◌==◌, [], ◌∷◌, ◌++◌, Option, Some, None, append_assoc, is_none, Result, Ok, Err, is_err, IfOk, OnOk, OnErr, unwrap_or, refl, sym, ap, ◌∙◌, length, take, drop, min, arith}
use Rattle.std.proofs.Math.Bool.{or-false}
use Rattle.std.proofs.lemmas.Bool.{or_parts}
use Rattle.std.proofs.lemmas.Bool.Decides.{nat_tests}
use Rattle.std.proofs.lemmas.Grind.{common_steps}
use Rattle.std.proofs.lemmas.List.{length-take-le, nil_from_length}
use Rattle.std.proofs.Math.Seq.{take-append_seam}
use Rattle.std.proofs.lemmas.List.{take-append-drop, take-append-le}
use Rattle.devices.specs.Transfer.{Moves}
use Rattle.devices.specs.Device.{Bytes, MemorySourceValue, left_in, rest_after, after_reading, is_due, is_end}

-- the front of a buffer after bytes of a text were written to it
pub front : (count : ℕ) (text after : Bytes) → count ≤ length text → take count (take count text ++ after) ≡ take count text
front count text after fits =
    let len : length (take count text) ≡ count = length-take-le count text fits in
    ap (λ n. take n (take count text ++ after)) (sym len) ∙ take-append_seam (take count text) after

-- the bytes that are left after a call
pub left-after : (rest : Option Bytes) (room : ℕ) → unwrap_or (rest_after rest room) [] ≡ drop (min (length (unwrap_or rest [])) room) (unwrap_or rest [])
left-after None room = grind (arith, common_steps)
left-after (Some []) zero = grind (arith, common_steps)
left-after (Some []) (suc room) = grind (arith, common_steps)
left-after (Some (x ∷ xs)) room = grind (arith, nat_tests)

-- a call reads the end if it returns 0 for a buffer that isn't empty
pub end-after : (rest : Option Bytes) (room count : ℕ) → count ≡ min (length (unwrap_or rest [])) room → is_none (rest_after rest room) ≡ (is_none rest || ((count == 0) && nat_lt 0 room))
end-after None room count e = refl
end-after (Some []) room count e = grind (arith, nat_tests)
end-after (Some (x ∷ xs)) room count e = grind (arith, nat_tests)

-- the clauses of a call of a source over memory: its result, and the source after it
pub record IsMemoryRead {E : Type 0} (old new : MemorySourceValue) (was now : Bytes) (r : Result ℕ E) : Type 0 where
  pub fails : is_err r ≡ is_due old.failed old.fails_at
  pub failed : OnErr r (new ≡ record old { failed = true })
  pub count : IfOk r (λ n. n ≡ min (length (left_in old)) (length was))
  pub given : IfOk r (λ n. now ≡ take n (left_in old) ++ drop n was)
  pub after : OnOk r (new ≡ after_reading (length was) old)

module _ {E : Type 0} (old new : MemorySourceValue) (was now : Bytes) where
  pub within : (r : Result ℕ E) → IsMemoryRead old new was now r → IfOk r (λ n. n ≤ length was)
  within (Ok n) h = omega (arith, h.count)
  within (Err e) h = tt

  pub fault : (r : Result ℕ E) → IsMemoryRead old new was now r → new.failed ≡ is_err r
  fault (Ok n) h = ap (λ (s : MemorySourceValue). s.failed) h.after ∙ (or_parts old.failed _ (sym h.fails)).0
  fault (Err e) h = ap (λ (s : MemorySourceValue). s.failed) h.failed

  pub stays_failed : (r : Result ℕ E) → IsMemoryRead old new was now r → old.failed ≡ true → new.failed ≡ true
  stays_failed (Ok n) h had = ap (λ (s : MemorySourceValue). s.failed) h.after ∙ had
  stays_failed (Err e) h had = ap (λ (s : MemorySourceValue). s.failed) h.failed

  pub bytes : (r : Result ℕ E) → IsMemoryRead old new was now r → IfOk r (λ n. (left : Bytes) → Some (left_in old) ≡ Some left → (take n now ≡ take n left) × (Some (left_in new) ≡ Some (drop n left)))
  bytes (Ok n) h =
      let fits : n ≤ length (left_in old) = omega (arith, h.count) in
      λ left is.
      let same : left_in old ≡ left = cc in (
        ap (take n) h.given ∙ front n (left_in old) (drop n was) fits ∙ ap (take n) same,
        ap Some (ap left_in h.after ∙ left-after old.rest (length was) ∙ ap (λ k. drop k (left_in old)) (sym h.count) ∙ ap (drop n) same),
      )
  bytes (Err e) h = tt

  pub end : (r : Result ℕ E) → IsMemoryRead old new was now r → IfOk r (λ n. n ≡ 0 → 0 < length was → (left : Bytes) → Some (left_in old) ≡ Some left → left ≡ [])
  end (Ok n) h = λ none room left is. let same : left_in old ≡ left = cc in sym same ∙ nil_from_length (left_in old) (omega (arith, h.count))
  end (Err e) h = tt

  pub end_read : (r : Result ℕ E) → IsMemoryRead old new was now r → is_none new.rest ≡ (is_none old.rest || is_end r (length was))
  end_read (Ok n) h =
      ap (λ (s : MemorySourceValue). is_none s.rest) h.after ∙ end-after old.rest (length was) n h.count
  end_read (Err e) h = ap (λ (s : MemorySourceValue). is_none s.rest) h.failed ∙ sym (or-false (is_none old.rest))

-- a call that returned some bytes didn't read the end
pub not-ended : (b : Bool) (count room : ℕ) → (count ≡ 0 → ⊥) → (b || ((count == 0) && nat_lt 0 room)) ≡ b
not-ended true count room some = refl
not-ended false count room some = grind (arith, nat_tests)

-- ---- the bytes that a source returned

-- the bytes at the front of a block are appended to the bytes that were there
pub from_front : (count : ℕ) (has buffer rest now : Bytes) → count ≤ length buffer → now ≡ has ++ take count (buffer ++ rest) → now ≡ has ++ take count buffer
from_front count has buffer rest now fits added = added ∙ ap (λ t. has ++ t) (take-append-le count buffer rest fits)

-- a source returns the first of the bytes that it has left
abbrev Gives : Option Bytes → Option Bytes → ℕ → Bytes → Type 0
Gives old new count buffer = (left : Bytes) → old ≡ Some left → (take count buffer ≡ take count left) × (new ≡ Some (drop count left))

module _ (a b c : Option Bytes) (had has : Bytes) (moved : Moves a b had has) where
  -- a read appends its bytes
  pub moves_more : (count : ℕ) (buffer now : Bytes) → Gives b c count buffer → now ≡ has ++ take count buffer → Moves a c had now
  moves_more count buffer now gives added = λ input known.
      let was = moved input known in
      let step = gives was.0 was.1 in
      let rest = drop count was.0 in (
        rest,
        step.1,
        was.2
            ∙ sym (ap (λ t. t ++ rest) (added ∙ ap (λ t. has ++ t) step.0) ∙ append_assoc has (take count was.0) rest ∙ ap (λ t. has ++ t) (take-append-drop count was.0)),
      )

  -- a read of no bytes changes nothing
  pub moves_none : (count : ℕ) (buffer : Bytes) → Gives b c count buffer → count ≡ 0 → Moves a c had has
  moves_none zero buffer gives none = λ input known. let was = moved input known in (was.0, (gives was.0 was.1).1, was.2)
  moves_none (suc count) buffer gives none = absurd (omega (arith, none))

  -- several reads append their bytes
  pub moves_on : (now : Bytes) → Moves b c has now → Moves a c had now
  moves_on now more = λ input known.
      let was = moved input known in
      let then = more was.0 was.1 in (then.0, then.1, was.2 ∙ then.2)
