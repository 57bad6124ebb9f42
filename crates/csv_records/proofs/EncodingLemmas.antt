-- The characters that a decoder of UTF-16 has read, and the units that it hasn't.
use Rattle.std.proofs.Common.{◌≡◌, ℕ, ◌+◌, ◌-◌, ◌/◌, ◌%◌, ◌<◌, ◌≤◌, ◌⊎◌, inl, inr, ◌==◌, Bool, true, false, if◌then◌else◌, List, [], ◌∷◌, ◌++◌, Option, Some, None, Ok, Err, map, refl, sym, ap, subst, ◌∙◌, append_assoc, append-nil, arith, get_or, length, encode_utf8_all, encode_utf8}
use Rattle.std.proofs.lemmas.Bool.{cases_lt}
use Rattle.std.proofs.lemmas.List.{map-append}
use Rattle.std.proofs.lemmas.Str.{encodes-append, utf16_chars-nil, utf16_chars_lone, utf16_chars_pair}
use Rattle.std.proofs.str.Utf16.{IsPair, lone_unit_char_high, lone_unit_char_low, lone_unit_char_surrogate, one_unit, two_units}
use Rattle.std.proofs.Math.Utf8.{scalar_cases}
use borrow.Author.Tests.{le-leb, lt-ltb}
use Rattle.std.specs.Char.{IsScalar}
use Rattle.std.specs.Char.Escape.{encode_utf16}
use Rattle.std.specs.Char.Utf16.{DecodesTo, decode_utf16_steps, decode_utf16_units, is_low_surrogate, surrogate_pair_char, utf16_chars}
use Rattle.std.specs.Iterator.{YieldsFirst}
use Rattle.std.specs.Iterator.Adapters.{PeeksNext, peekable_peeked, peekable_source, peekable_steps}
use Rattle.std.specs.Option.{IfSome, IsSomeAnd, MatchOption}
use Rattle.std.specs.declared.char.DecodeUtf16.{DecodeUtf16}
use Rattle.std.specs.declared.char.DecodeUtf16Error.{DecodeUtf16Error}
use Rattle.std.specs.declared.iter.Ahead.{Ahead}
use Rattle.comfy_parts.specs.Text.{Text}
use Rattle.csv_records.specs.Encoding.{AreCharactersOf, IsFirstUnpaired, odd_byte}
use Rattle.csv_records.specs.Input.{line_number}

-- ---- one character

-- a character of one unit is that unit, which is no surrogate
pub record IsOneUnit (c u : ℕ) : Type 0 where
  pub same : c ≡ u
  pub alone : (u < 0xD800) ⊎ (0xE000 ≤ u)

pub one : (c u : ℕ) → IsScalar c → encode_utf16 c ≡ u ∷ [] → IsOneUnit c u
one c u scalar is = by_size (cases_lt c 0x1_0000)
  where
    by_size : (c < 0x1_0000) ⊎ (0x1_0000 ≤ c) → IsOneUnit c u
    by_size (inr high) = absurd (cc (sym is ∙ two_units c high))
    by_size (inl low) =
        let same : c ≡ u = cc (sym (one_unit c low) ∙ is) in
        record { same = same; alone = subst (λ (n : ℕ). (n < 0xD800) ⊎ (0xE000 ≤ n)) same (by_case (scalar_cases c scalar)) }
      where
        by_case : (c < 55296) ⊎ ((57344 ≤ c) × (c < 1114112)) → (c < 0xD800) ⊎ (0xE000 ≤ c)
        by_case (inl below) = inl below
        by_case (inr (from, below)) = inr from

-- a character of two units is that of a pair of surrogates
pub record IsTwoUnits (c u v : ℕ) : Type 0 where
  pub pair : IsPair u v
  pub same : surrogate_pair_char u v ≡ c

pub two : (c u v : ℕ) → IsScalar c → encode_utf16 c ≡ u ∷ v ∷ [] → IsTwoUnits c u v
two c u v scalar is = by_size (cases_lt c 0x1_0000)
  where
    by_size : (c < 0x1_0000) ⊎ (0x1_0000 ≤ c) → IsTwoUnits c u v
    by_size (inl low) = absurd (cc (sym is ∙ one_unit c low))
    by_size (inr high) = by_case (scalar_cases c scalar)
      where
        both : u ∷ v ∷ [] ≡ (0xD800 + (c - 0x1_0000) / 0x400) ∷ (0xDC00 + (c - 0x1_0000) % 0x400) ∷ []
        both = sym is ∙ two_units c high

        by_case : (c < 55296) ⊎ ((57344 ≤ c) × (c < 1114112)) → IsTwoUnits c u v
        by_case (inl below) = absurd (omega arith)
        by_case (inr (from, below)) =
            let first : u ≡ 0xD800 + (c - 0x1_0000) / 0x400 = cc both in
            let second : v ≡ 0xDC00 + (c - 0x1_0000) % 0x400 = cc both in
            record { pair = (omega arith, omega arith, omega arith, omega arith); same = omega arith }

-- ---- the units ahead

-- the units that are left after the unit that was peeked at
abbrev pub units_ahead : Option (Option ℕ) → List ℕ → List ℕ
units_ahead None left = left
units_ahead (Some None) left = []
units_ahead (Some (Some u)) left = u ∷ left

abbrev pub units_left : DecodeUtf16 (List ℕ) → List ℕ
units_left s = units_ahead (peekable_peeked (decode_utf16_units s)) (peekable_source (decode_utf16_units s))

abbrev Gives : List ℕ → Option ℕ → List ℕ → Type 0
Gives = YieldsFirst (λ (left : List ℕ). left)

abbrev GivesAhead : Option (Option ℕ) → List ℕ → Option ℕ → List ℕ → Type 0
GivesAhead peeked s r t = MatchOption peeked (Gives s r t) (λ o. (r ≡ o) × (t ≡ s))

taken : (peeked : Option (Option ℕ)) (s t : List ℕ) (u : ℕ) → GivesAhead peeked s (Some u) t → units_ahead peeked s ≡ u ∷ t
taken None s t u gives = gives
taken (Some None) s t u gives = absurd (cc gives.0)
taken (Some (Some v)) s t u gives = cc

ended : (peeked : Option (Option ℕ)) (s t : List ℕ) → GivesAhead peeked s None t → units_ahead peeked s ≡ []
ended None s t gives = gives.0
ended (Some None) s t gives = refl
ended (Some (Some v)) s t gives = absurd (cc gives.0)

looked_at : (s t : List ℕ) (o : Option ℕ) → Gives s o t → units_ahead (Some o) t ≡ s
looked_at s t None gives = sym gives.0
looked_at s t (Some v) gives = sym gives

-- ---- one call

low_from : (v : ℕ) → 0xDC00 ≤ v → v < 0xE000 → is_low_surrogate v ≡ true
low_from v from below = rw (le-leb 0xDC00 v from, lt-ltb v 0xE000 below)

pub lone : (u : ℕ) (us : List ℕ) → (u < 0xD800) ⊎ (0xE000 ≤ u) → utf16_chars (u ∷ us) ≡ Some u ∷ utf16_chars us
lone u us (inl below) = utf16_chars_lone u us (λ pair. omega (arith, pair.0)) ∙ ap (λ (o : Option ℕ). o ∷ utf16_chars us) (lone_unit_char_low u below)
lone u us (inr from) = utf16_chars_lone u us (λ pair. omega (arith, pair.1)) ∙ ap (λ (o : Option ℕ). o ∷ utf16_chars us) (lone_unit_char_high u from)

module _ (s t : DecodeUtf16 (List ℕ)) where
  -- the call took the first unit
  taken_first : (m : Ahead (List ℕ) ℕ) (u : ℕ) → peekable_steps Gives (decode_utf16_units s) (Some u) m → units_left s ≡ u ∷ peekable_source m
  taken_first m u took = grind (arith, taken)

  -- the call took no other unit
  taken_alone : (m : Ahead (List ℕ) ℕ) → peekable_peeked m ≡ None → decode_utf16_units t ≡ m → units_left t ≡ peekable_source m
  taken_alone m none same = grind arith

  -- the call took the first unit and peeked at the next one
  taken_and_looked : (m : Ahead (List ℕ) ℕ) → peekable_peeked m ≡ None → PeeksNext Gives m (decode_utf16_units t) → units_left t ≡ peekable_source m
  taken_and_looked m none (o, gives, peeked) = grind (arith, looked_at)

  -- a call gave a character
  character_read : (c : ℕ) → IsScalar c → decode_utf16_steps Gives s (Some (Ok c)) t → utf16_chars (units_left s) ≡ Some c ∷ utf16_chars (units_left t)
  character_read c scalar (u, m, took, decodes) = ap utf16_chars (taken_first m u took) ∙ by_units decodes
    where
      by_units : DecodesTo Gives u m c (decode_utf16_units t) → utf16_chars (u ∷ peekable_source m) ≡ Some c ∷ utf16_chars (units_left t)
      by_units (inl (is, same)) =
          let own = one c u scalar is in
          rw (taken_alone m took.0 same, own.same) (lone u (peekable_source m) own.alone)
      by_units (inr (v, next, is)) =
          let own = two c u v scalar is in
          let after : peekable_source m ≡ v ∷ peekable_source (decode_utf16_units t) =
          subst (λ (p : Option (Option ℕ)). GivesAhead p (peekable_source m) (Some v) (peekable_source (decode_utf16_units t))) took.0 next.1 in
          let left : units_left t ≡ peekable_source (decode_utf16_units t) = ap (λ (p : Option (Option ℕ)). units_ahead p (peekable_source (decode_utf16_units t))) next.0 in
          rw (after, left, ← own.same) (utf16_chars_pair u v (peekable_source (decode_utf16_units t)) own.pair)

  -- a call gave a surrogate without a partner
  unpaired_read : (e : DecodeUtf16Error) → decode_utf16_steps Gives s (Some (Err e)) t → utf16_chars (units_left s) ≡ None ∷ utf16_chars (units_left t)
  unpaired_read e (u, m, took, (code, unpaired)) = ap utf16_chars (taken_first m u took) ∙ rw (left unpaired.2) apart_from
    where
      left : (decode_utf16_units t ≡ m) ⊎ PeeksNext Gives m (decode_utf16_units t) → units_left t ≡ peekable_source m
      left (inl same) = taken_alone m took.0 same
      left (inr peeks) = taken_and_looked m took.0 peeks

      no_low : (us ts : List ℕ) (o : Option ℕ) → Gives us o ts → IfSome o (λ v. is_low_surrogate v ≡ false) → ¬ (IsPair u (get_or us 0 0))
      no_low us ts None gives high pair = omega (arith, subst (λ (xs : List ℕ). 0xDC00 ≤ get_or xs 0 0) gives.0 pair.2)
      no_low us ts (Some v) gives high pair =
          let second = subst (λ (xs : List ℕ). IsPair u (get_or xs 0 0)) gives pair in
          absurd (cc (sym high ∙ low_from v second.2 second.3))

      apart : ¬ (IsPair u (get_or (peekable_source m) 0 0))
      apart pair =
          let looked = unpaired.3 pair.1 in
          let o = looked.0.0 in
          let given = subst (λ (p : Option (Option ℕ)). GivesAhead p (peekable_source m) o (peekable_source (decode_utf16_units t))) took.0 looked.0.1 in
          let high = subst (λ (p : Option (Option ℕ)). IsSomeAnd p (λ x. IfSome x (λ v. is_low_surrogate v ≡ false))) looked.0.2 looked.1 in
          no_low (peekable_source m) (peekable_source (decode_utf16_units t)) o given high pair

      apart_from : utf16_chars (u ∷ peekable_source m) ≡ None ∷ utf16_chars (peekable_source m)
      apart_from = utf16_chars_lone u (peekable_source m) apart ∙ ap (λ (o : Option ℕ). o ∷ utf16_chars (peekable_source m)) (lone_unit_char_surrogate u unpaired.0 unpaired.1)

  -- a call gave nothing
  none_read : decode_utf16_steps Gives s None t → units_left s ≡ []
  none_read steps = grind (arith, ended)

-- ---- the whole input

-- `text` was decoded from the first units, and `left` are left
pub record HasDecoded (units left : List ℕ) (text : Text) : Type 0 where
  pub characters : List ℕ
  pub spelled : text ≡ encode_utf8_all characters
  pub others : utf16_chars units ≡ map Some characters ++ utf16_chars left

module _ (units : List ℕ) (s t : DecodeUtf16 (List ℕ)) (text : Text) (decoded : HasDecoded units (units_left s) text) where
  -- one more character was decoded
  pub more_decoded : (c : ℕ) → IsScalar c → decode_utf16_steps Gives s (Some (Ok c)) t → HasDecoded units (units_left t) (text ++ encode_utf8 c)
  more_decoded c scalar steps = record {
    characters = decoded.characters ++ c ∷ [];
    spelled =
        ap (λ (x : Text). x ++ encode_utf8 c) decoded.spelled
        ∙ ap (λ (x : Text). encode_utf8_all decoded.characters ++ x) (sym (append-nil (encode_utf8 c)))
        ∙ sym (encodes-append decoded.characters (c ∷ []));
    others =
        decoded.others
        ∙ ap (λ (x : List (Option ℕ)). map Some decoded.characters ++ x) (character_read s t c scalar steps)
        ∙ sym (append_assoc (map Some decoded.characters) (Some c ∷ []) (utf16_chars (units_left t)))
        ∙ ap (λ (x : List (Option ℕ)). x ++ utf16_chars (units_left t)) (sym (map-append Some decoded.characters (c ∷ [])));
  }

  -- the first surrogate without a partner comes next
  pub first_unpaired : (above : ℕ) (e : DecodeUtf16Error) (odd : List (Option ℕ)) → decode_utf16_steps Gives s (Some (Err e)) t → IsFirstUnpaired (utf16_chars units ++ odd) above (line_number above text)
  first_unpaired above e odd steps = record {
    before = decoded.characters;
    after = utf16_chars (units_left t) ++ odd;
    first =
        ap (λ (x : List (Option ℕ)). x ++ odd) (decoded.others ∙ ap (λ (x : List (Option ℕ)). map Some decoded.characters ++ x) (unpaired_read s t e steps))
        ∙ append_assoc (map Some decoded.characters) (None ∷ utf16_chars (units_left t)) odd;
    numbered = ap (line_number above) decoded.spelled;
  }

  -- all units were decoded
  all_decoded : decode_utf16_steps Gives s None t → utf16_chars units ≡ map Some decoded.characters
  all_decoded steps =
      decoded.others
      ∙ ap (λ (x : List ℕ). map Some decoded.characters ++ utf16_chars x) (none_read s t steps)
      ∙ ap (λ (x : List (Option ℕ)). map Some decoded.characters ++ x) utf16_chars-nil
      ∙ append-nil (map Some decoded.characters)

  -- no odd byte follows the units
  pub whole : decode_utf16_steps Gives s None t → (bytes : Text) → ¬ (length bytes % 2 ≡ 1) → AreCharactersOf (utf16_chars units ++ odd_byte bytes) text
  whole steps bytes even = record {
    characters = decoded.characters;
    are_all = ap (λ (x : Bool). utf16_chars units ++ (if x then [] else None ∷ [])) is_even ∙ append-nil (utf16_chars units) ∙ all_decoded steps;
    spell = decoded.spelled;
  }
    where
      is_even : (length bytes % 2 == 0) ≡ true
      is_even = grind (arith, even)

  -- an odd byte follows the units
  pub odd_after : (above : ℕ) → decode_utf16_steps Gives s None t → (bytes : Text) → length bytes % 2 ≡ 1 → IsFirstUnpaired (utf16_chars units ++ odd_byte bytes) above (line_number above text)
  odd_after above steps bytes odd = record {
    before = decoded.characters;
    after = [];
    first = ap (λ (n : ℕ). utf16_chars units ++ (if n == 0 then [] else None ∷ [])) odd ∙ ap (λ (x : List (Option ℕ)). x ++ (None ∷ [])) (all_decoded steps);
    numbered = ap (line_number above) decoded.spelled;
  }
