-- A walk from quote to quote finds the quote that opens an unclosed field.
use Rattle.std.proofs.Common.{◌≡◌, ◌≢◌, ◌⊎◌, inl, inr, ◌+◌, ◌-◌, ◌<◌, ◌≤◌, ◌==◌, ◌||◌, ℕ, zero, suc, Bool, true, false, [], ◌∷◌, ◌++◌, ap, arith, drop, eqb-true, length, length-append, refl, subst, sym, take, ◌∙◌}
use Rattle.std.proofs.Math.Seq.{take-add}
use Rattle.std.proofs.lemmas.Bool.{cases_lt}
use Rattle.std.proofs.lemmas.List.{drop-drop, drop_more, get_or-drop, length-drop, length-take-le, take-append-drop, take_all, take_more}
use Rattle.std.proofs.lemmas.List.Sums.{fold-append}
use Rattle.std.specs.List.{slice_index}
use Rattle.std.specs.Prelude.{None, Some, if◌then◌else◌}
use Rattle.memchr.specs.Find.{IsFirstByte, Nowhere, Passes, is_byte}
use Rattle.comfy_parts.specs.Text.{Text}
use Rattle.csv.specs.Machine.{ends_with, in_field, start_field, start_record, step}
use Rattle.csv.specs.Reading.{is_bom, strip_bom}
use Rattle.csv.specs.declared.parser.Action.{Action}
use Rattle.csv.specs.declared.parser.Action.TheVariants as act
use Rattle.csv.specs.declared.parser.State.{State}
use Rattle.csv.specs.declared.parser.Terminator.TheVariants as term
use Rattle.csv.specs.declared.parser.State.TheVariants as st
use Rattle.csv_records.proofs.CountLemmas.{step_alike}
use Rattle.csv_records.specs.Input.{config_for}
use Rattle.csv_records.specs.QuoteWalk.{ClosesAt, StaysQuoted, ends_field, is_opening}
use Rattle.csv_records.specs.Quotes.{IsUnclosed, is_field_start, is_in_quoted_field, state_after}

-- ---- one byte

-- outside quotes: a field begins in this state of csv's reader, or the reader is in one
abbrev pub IsOutside : Bool → State → Type 0
IsOutside true s = is_field_start s ≡ true
IsOutside false s = s ≡ st.InField

abbrev choice : Bool → State × Action → State × Action → State × Action
choice b p q = if b then p else q

module _ (delimiter c : ℕ) where
  abbrev next : State → State
  next s = (step (config_for delimiter true) s c).0

  outside : IsOutside (ends_field delimiter c) (in_field (config_for delimiter true) c).0
  outside = by_tests (c == delimiter) (c == 13) (c == 10)
    where
      by_tests : (parts returns feeds : Bool)
          → IsOutside (parts || (returns || feeds)) (choice parts (st.StartField, act.EndField) (choice (returns || feeds) ((if returns then st.AfterCr else st.StartRecord), act.EndRecord) (st.InField, act.Copy))).0
      by_tests true returns feeds = refl
      by_tests false true feeds = refl
      by_tests false false true = refl
      by_tests false false false = refl

  outside_field : (c == 0x22) ≡ false → IsOutside (ends_field delimiter c) (start_field (config_for delimiter true) c).0
  outside_field differs = rw differs outside

  -- a record begins as a field does, except at empty lines
  outside_record : (c == 0x22) ≡ false → IsOutside (ends_field delimiter c) (start_record (config_for delimiter true) c).0
  outside_record differs = by_line (ends_with term.CRLF c) refl (outside_field differs)
    where
      at_end : (parts : Bool) → IsOutside (parts || true) st.StartRecord
      at_end true = refl
      at_end false = refl

      by_line : (ends : Bool) → ends_with term.CRLF c ≡ ends → IsOutside (ends_field delimiter c) (start_field (config_for delimiter true) c).0 → IsOutside (ends_field delimiter c) (choice ends (st.StartRecord, act.Skip) (start_field (config_for delimiter true) c)).0
      by_line true is more = rw is (at_end (c == delimiter))
      by_line false is more = more

  outside_return : (c == 0x22) ≡ false → IsOutside (ends_field delimiter c) (next st.AfterCr)
  outside_return differs = subst (λ (after : State × Action). IsOutside (ends_field delimiter c) after.0) (sym (step_alike delimiter true c)) (outside_record differs)

  -- a quote opens a field that begins
  quoted : (s : State) → is_field_start s ≡ true → (c == 0x22) ≡ true → next s ≡ st.InQuoted
  quoted st.StartRecord starts is = subst (λ (b : ℕ). (step (config_for delimiter true) st.StartRecord b).0 ≡ st.InQuoted) (sym (eqb-true c 0x22 is)) refl
  quoted st.StartField starts is = subst (λ (b : ℕ). (step (config_for delimiter true) st.StartField b).0 ≡ st.InQuoted) (sym (eqb-true c 0x22 is)) refl
  quoted st.AfterCr starts is = subst (λ (b : ℕ). (step (config_for delimiter true) st.AfterCr b).0 ≡ st.InQuoted) (sym (eqb-true c 0x22 is)) refl
  quoted st.InField starts is = absurd (cc starts)
  quoted st.InQuoted starts is = absurd (cc starts)
  quoted st.AfterQuote starts is = absurd (cc starts)
  quoted st.InEscape starts is = absurd (cc starts)
  quoted st.InComment starts is = absurd (cc starts)

  unquoted : (s : State) → is_field_start s ≡ true → (c == 0x22) ≡ false → IsOutside (ends_field delimiter c) (next s)
  unquoted st.StartRecord starts differs = outside_record differs
  unquoted st.StartField starts differs = outside_field differs
  unquoted st.AfterCr starts differs = outside_return differs
  unquoted st.InField starts differs = absurd (cc starts)
  unquoted st.InQuoted starts differs = absurd (cc starts)
  unquoted st.AfterQuote starts differs = absurd (cc starts)
  unquoted st.InEscape starts differs = absurd (cc starts)
  unquoted st.InComment starts differs = absurd (cc starts)

  -- in a field every byte is an ordinary byte, also a quote
  in_a_field : (s : State) → s ≡ st.InField → IsOutside (ends_field delimiter c) (next s)
  in_a_field s here = rw here outside

  stays_outside : (starts : Bool) (s : State) → IsOutside starts s → (c == 0x22) ≡ false → IsOutside (ends_field delimiter c) (next s)
  stays_outside true s here differs = unquoted s here differs
  stays_outside false s here differs = in_a_field s here

  in_quotes : (s : State) → s ≡ st.InQuoted → (quotes : Bool) → (c == 0x22) ≡ quotes → next s ≡ (if quotes then st.AfterQuote else st.InQuoted)
  in_quotes s here quotes is = rw here (by_quote (c == 0x22) is)
    where
      by_quote : (b : Bool) → b ≡ quotes → (choice b (st.AfterQuote, act.Skip) (st.InQuoted, act.Copy)).0 ≡ (if quotes then st.AfterQuote else st.InQuoted)
      by_quote true same = rw (← same) refl
      by_quote false same = rw (← same) refl

  after_quote : (s : State) → s ≡ st.AfterQuote → (c == 0x22) ≡ false → IsOutside (ends_field delimiter c) (next s)
  after_quote s here differs = rw here (by_quote (c == 0x22) differs)
    where
      by_quote : (b : Bool) → b ≡ false → IsOutside (ends_field delimiter c) (choice b (st.InQuoted, act.Copy) (in_field (config_for delimiter true) c)).0
      by_quote true differs = absurd (cc differs)
      by_quote false differs = outside

  two_quotes : (s : State) → s ≡ st.AfterQuote → (c == 0x22) ≡ true → next s ≡ st.InQuoted
  two_quotes s here is = rw here (by_quote (c == 0x22) is)
    where
      by_quote : (b : Bool) → b ≡ true → (choice b (st.InQuoted, act.Copy) (in_field (config_for delimiter true) c)).0 ≡ st.InQuoted
      by_quote true is = refl
      by_quote false is = absurd (cc is)

-- ---- a walk

-- none of the n bytes from a place on is a quote
abbrev pub HasNoQuotes : Text → ℕ → ℕ → Type 0
HasNoQuotes text at n = (k : ℕ) → k < n → (slice_index text (at + k) == 0x22) ≡ false

module _ (delimiter : ℕ) (text : Text) where
  abbrev pub state_at : ℕ → State
  state_at at = state_after delimiter (take at text)

  -- A walk is outside quotes at this place. `is_opening` then says in which state, or a closing quote is right before
  -- it.
  abbrev pub WalksOutside : ℕ → Type 0
  WalksOutside at = IsOutside (is_opening delimiter text at) (state_at at) ⊎ ClosesAt delimiter text at

  one_more : (at : ℕ) → at < length text → state_at (at + 1) ≡ (step (config_for delimiter true) (state_at at) (slice_index text at)).0
  one_more at within =
      ap (state_after delimiter) (take_more text at 0 within)
      ∙ fold-append (λ (s : State) (b : ℕ). (step (config_for delimiter true) s b).0) st.StartRecord (take at text) (slice_index text at ∷ [])

  after : (at : ℕ) → is_opening delimiter text (at + 1) ≡ ends_field delimiter (slice_index text at)
  after at =
      let same : at + 1 ≡ suc at = omega arith in
      ap (is_opening delimiter text) same

  -- outside quotes

  outside_next : (at : ℕ) → at < length text → WalksOutside at → (slice_index text at == 0x22) ≡ false → WalksOutside (at + 1)
  outside_next at within (inl here) differs =
      inl (rw (after at, one_more at within) (stays_outside delimiter (slice_index text at) (is_opening delimiter text at) (state_at at) here differs))
  outside_next at within (inr closed) differs =
      inl (rw (after at, one_more at within) (after_quote delimiter (slice_index text at) (state_at at) closed.closes differs))

  pub outside_run : (n at : ℕ) → at + n ≤ length text → WalksOutside at → HasNoQuotes text at n → WalksOutside (at + n)
  outside_run zero at within here none =
      let same : at + 0 ≡ at = omega arith in
      rw same here
  outside_run (suc n) at within here none =
      let before : WalksOutside (at + n) = outside_run n at (omega (arith, within)) here (λ k less. none k (omega (arith, less))) in
      subst (λ (m : ℕ). WalksOutside m) (omega arith) (outside_next (at + n) (omega (arith, within)) before (none n (omega arith)))

  at_quote : (at : ℕ) → at < length text → (slice_index text at == 0x22) ≡ true → WalksOutside at → IsOutside (is_opening delimiter text at) (state_at at)
  at_quote at within is (inl here) = here
  at_quote at within is (inr closed) = let not = closed.is_alone within in absurd (cc (is, not))

  -- a quote that opens no field is a byte of its field
  pub passes : (at : ℕ) → at < length text → (slice_index text at == 0x22) ≡ true → WalksOutside at → is_opening delimiter text at ≡ false → WalksOutside (at + 1)
  passes at within is here literal =
      let field : state_at at ≡ st.InField = rw literal at (at_quote at within is here) in
      inl (rw (after at, one_more at within) (in_a_field delimiter (slice_index text at) (state_at at) field))

  pub starts : (at : ℕ) → at < length text → (slice_index text at == 0x22) ≡ true → WalksOutside at → is_opening delimiter text at ≡ true → is_field_start (state_at at) ≡ true
  starts at within is here opening = rw opening at (at_quote at within is here)

  pub opens : (at : ℕ) → at < length text → (slice_index text at == 0x22) ≡ true → WalksOutside at → is_opening delimiter text at ≡ true → state_at (at + 1) ≡ st.InQuoted
  opens at within is here opening = one_more at within ∙ quoted delimiter (slice_index text at) (state_at at) (starts at within is here opening) is

  not_open : (b : Bool) (s : State) → IsOutside b s → s ≢ st.InQuoted
  not_open true s here is = absurd (cc (rw is at here))
  not_open false s here is = absurd (cc (is, here))

  pub ends_outside : WalksOutside (length text) → state_after delimiter text ≢ st.InQuoted
  ends_outside here is = by_place here
    where
      whole : state_at (length text) ≡ st.InQuoted
      whole = ap (state_after delimiter) (take_all (length text) text (omega arith)) ∙ is

      by_place : WalksOutside (length text) → ⊥
      by_place (inl outside) = not_open (is_opening delimiter text (length text)) (state_at (length text)) outside whole
      by_place (inr closed) = let so = closed.closes in absurd (cc (so, whole))

  -- within quotes

  still_quoted : (s : State) → s ≡ st.InQuoted → is_in_quoted_field s ≡ true
  still_quoted s is = rw is refl

  still_after : (s : State) → s ≡ st.AfterQuote → is_in_quoted_field s ≡ true
  still_after s is = rw is refl

  goes_on_to : (from to : ℕ) → StaysQuoted delimiter text from to → is_in_quoted_field (state_at (to + 1)) ≡ true
      → (n : ℕ) → from ≤ n → n ≤ to + 1 → is_in_quoted_field (state_at n) ≡ true
  goes_on_to from to so last n low high = by_size (cases_lt to n)
    where
      by_size : (to < n) ⊎ (n ≤ to) → is_in_quoted_field (state_at n) ≡ true
      by_size (inl past) =
          let same : n ≡ to + 1 = omega (arith, past, high) in
          rw same last
      by_size (inr le) = so.goes_on n low le

  quoted_next : (from to : ℕ) → to < length text → StaysQuoted delimiter text from to → (slice_index text to == 0x22) ≡ false → StaysQuoted delimiter text from (to + 1)
  quoted_next from to within so differs = record { goes_on = goes_on_to from to so (still_quoted (state_at (to + 1)) inside); is_open = inside }
    where
      inside : state_at (to + 1) ≡ st.InQuoted
      inside = one_more to within ∙ in_quotes delimiter (slice_index text to) (state_at to) so.is_open false differs

  pub quoted_run : (n from at : ℕ) → at + n ≤ length text → StaysQuoted delimiter text from at → HasNoQuotes text at n → StaysQuoted delimiter text from (at + n)
  quoted_run zero from at within so none =
      let same : at + 0 ≡ at = omega arith in
      rw same so
  quoted_run (suc n) from at within so none =
      let before : StaysQuoted delimiter text from (at + n) = quoted_run n from at (omega (arith, within)) so (λ k less. none k (omega (arith, less))) in
      subst (λ (m : ℕ). StaysQuoted delimiter text from m) (omega arith) (quoted_next from (at + n) (omega (arith, within)) before (none n (omega arith)))

  after_closing : (from at : ℕ) → at < length text → StaysQuoted delimiter text from at → (slice_index text at == 0x22) ≡ true → state_at (at + 1) ≡ st.AfterQuote
  after_closing from at within so is = one_more at within ∙ in_quotes delimiter (slice_index text at) (state_at at) so.is_open true is

  pub closes : (from at : ℕ) → at < length text → StaysQuoted delimiter text from at → (slice_index text at == 0x22) ≡ true
      → (at + 1 < length text → (slice_index text (at + 1) == 0x22) ≡ false) → ClosesAt delimiter text (at + 1)
  closes from at within so is alone = record { closes = after_closing from at within so is; is_alone = alone }

  pub both_quotes : (from at : ℕ) → at + 1 < length text → StaysQuoted delimiter text from at → (slice_index text at == 0x22) ≡ true
      → (slice_index text (at + 1) == 0x22) ≡ true → StaysQuoted delimiter text from (at + 1 + 1)
  both_quotes from at within so is again = record { goes_on = goes_on; is_open = inside }
    where
      middle : state_at (at + 1) ≡ st.AfterQuote
      middle = after_closing from at (omega (arith, within)) so is

      inside : state_at (at + 1 + 1) ≡ st.InQuoted
      inside = one_more (at + 1) within ∙ two_quotes delimiter (slice_index text (at + 1)) (state_at (at + 1)) middle again

      goes_on : (n : ℕ) → from ≤ n → n ≤ at + 1 + 1 → is_in_quoted_field (state_at n) ≡ true
      goes_on n low high = by_size (cases_lt (at + 1) n)
        where
          by_size : (at + 1 < n) ⊎ (n ≤ at + 1) → is_in_quoted_field (state_at n) ≡ true
          by_size (inl past) =
              let same : n ≡ at + 1 + 1 = omega (arith, past, high) in
              rw same (still_quoted (state_at (at + 1 + 1)) inside)
          by_size (inr le) = goes_on_to from at so (still_after (state_at (at + 1)) middle) n low le

  -- quotes stay open up to the end of the text
  pub unclosed : (at : ℕ) → at < length text → (slice_index text at == 0x22) ≡ true → is_field_start (state_at at) ≡ true
      → StaysQuoted delimiter text (at + 1) (length text) → IsUnclosed delimiter text (drop at text)
  unclosed at within is start so = record {
    before = take at text;
    parts = sym (take-append-drop at text);
    after = drop (at + 1) text;
    quote = rest;
    opens = start;
    goes_on = goes_on;
    is_open = ap (state_after delimiter) (sym (take_all (length text) text (omega arith))) ∙ so.is_open;
  }
    where
      rest : drop at text ≡ 0x22 ∷ drop (at + 1) text
      rest = drop_more text at 0 within ∙ ap (λ (b : ℕ). b ∷ drop (at + 1) text) (eqb-true (slice_index text at) 0x22 is)

      upto : (n : ℕ) → take at text ++ 0x22 ∷ take n (drop (at + 1) text) ≡ take (at + suc n) text
      upto n = ap (λ (t : Text). take at text ++ take (suc n) t) (sym rest) ∙ sym (take-add at (suc n) text)

      goes_on : (n : ℕ) → n ≤ length (drop (at + 1) text) → is_in_quoted_field (state_after delimiter (take at text ++ 0x22 ∷ take n (drop (at + 1) text))) ≡ true
      goes_on n inside =
          let len : length text ≡ length (take at text) + length (drop at text) = ap length (sym (take-append-drop at text)) ∙ length-append (take at text) (drop at text) in
          let front : length (take at text) ≡ at = length-take-le at text (omega (arith, within)) in
          rw (upto n) (so.goes_on (at + suc n) (omega arith) (omega (arith, inside, len, front, ap length rest)))

-- ---- the result of a search for the next quote

pub not_true : (b : Bool) → (b ≡ true → ⊥) → b ≡ false
not_true true not = absurd (not refl)
not_true false not = refl

module _ (text : Text) (at : ℕ) (within : at ≤ length text) where
  rest_length : length (drop at text) ≡ length text - at
  rest_length = length-drop at text

  rest : take (length text - at) (drop at text) ≡ drop at text
  rest = take_all (length text - at) (drop at text) (omega (arith, rest_length))

  here : (k : ℕ) → slice_index (take (length text - at) (drop at text)) k ≡ slice_index text (at + k)
  here k = ap (λ (t : Text). slice_index t k) rest ∙ get_or-drop at text k 0

  no_quotes : (n : ℕ) → Nowhere (Passes (is_byte 0x22) (take (length text - at) (drop at text))) 0 n → HasNoQuotes text at n
  no_quotes n none k less = rw (← (here k)) (not_true _ (none k (omega arith) less))

  pub next_quote : (ahead : ℕ) → IsFirstByte (is_byte 0x22) (take (length text - at) (drop at text)) (Some ahead)
      → (at + ahead < length text) × ((slice_index text (at + ahead) == 0x22) ≡ true) × HasNoQuotes text at ahead
  next_quote ahead first = (
    omega (arith, within, first.0.high, ap length rest, rest_length),
    rw (← (here ahead)) first.1,
    no_quotes ahead first.0.before,
  )

  pub no_quote : IsFirstByte (is_byte 0x22) (take (length text - at) (drop at text)) None → HasNoQuotes text at (length text - at)
  no_quote none = no_quotes (length text - at) (subst (λ (n : ℕ). Nowhere (Passes (is_byte 0x22) (take (length text - at) (drop at text))) 0 n) (ap length rest ∙ rest_length) none)

-- ---- a byte-order mark

-- the number of bytes of the mark
pub marked : (text : Text) → (n : ℕ) × (strip_bom text ≡ drop n text) × (n ≤ length text) × (n + length (strip_bom text) ≡ length text)
unfolding strip_bom
marked [] = (0, refl, omega arith, omega arith)
marked (a ∷ []) = (0, refl, omega arith, omega arith)
marked (a ∷ b ∷ []) = (0, refl, omega arith, omega arith)
marked (a ∷ b ∷ c ∷ text) = by_mark (is_bom a b c)
  where
    by_mark : (is_there : Bool) → (n : ℕ) × ((if is_there then text else a ∷ b ∷ c ∷ text) ≡ drop n (a ∷ b ∷ c ∷ text)) × (n ≤ length (a ∷ b ∷ c ∷ text)) × (n + length (if is_there then text else a ∷ b ∷ c ∷ text) ≡ length (a ∷ b ∷ c ∷ text))
    by_mark true = (3, refl, omega arith, omega arith)
    by_mark false = (0, refl, omega arith, omega arith)

-- places after the mark, counted from the start of the text
pub shifted : (delimiter : ℕ) (text unmarked : Text) (at : ℕ) → unmarked ≡ strip_bom text → IsUnclosed delimiter unmarked (drop at unmarked) → IsUnclosed delimiter (strip_bom text) (drop (length text - length unmarked + at) text)
shifted delimiter text unmarked at is so =
    let before = marked text in
    let count : before.0 ≡ length text - length unmarked = omega (arith, before.3, ap length is) in
    let rest : drop at unmarked ≡ drop (length text - length unmarked + at) text = ap (drop at) (is ∙ before.1) ∙ drop-drop at before.0 text ∙ ap (λ (n : ℕ). drop (n + at) text) count in
    subst (λ (t : Text). IsUnclosed delimiter t (drop (length text - length unmarked + at) text)) is (subst (λ (t : Text). IsUnclosed delimiter unmarked t) rest so)
