-- The number of fields of a record, as csv's reader finds it.
use Rattle.std.proofs.Common.{◌≡◌, ◌≢◌, ◌≤◌, ◌⊎◌, inl, inr, ◌+◌, ◌++◌, ◌∷◌, ◌||◌, ◌&&◌, ◌==◌, [], ℕ, zero, suc, Bool, true, false, List, add-zero, ap, arith, length, length-append, map, refl, sym, unwrap_or, ◌∙◌}
use Rattle.std.specs.Option.{option_map, option_map_or}
use Rattle.std.specs.Prelude.{Option, Some, None, IfSome, if◌then◌else◌}
use Rattle.comfy_parts.specs.Text.{Text}
use Rattle.csv.specs.Machine.{Read as FoundRecord, ends_at_end, field_after, fields_after, in_field, is_end, next_record, start_field, start_record, step}
use Rattle.csv.specs.Reading.{records_from, records_next}
use Rattle.csv.specs.declared.parser.Action.{Action}
use Rattle.csv.specs.declared.parser.Action.TheVariants as act
use Rattle.csv.specs.declared.parser.Config.{Config}
use Rattle.csv.specs.declared.parser.State.{State}
use Rattle.csv.specs.declared.parser.State.TheVariants as st
use Rattle.csv_records.specs.Counting.{count_after, count_from, state_at, after_action}
use Rattle.csv_records.specs.Counting as own_step
use Rattle.csv_records.specs.Input.{config_for}
use Rattle.csv_records.specs.Longer.{skip_record}
use Rattle.csv_records.specs.declared.counting.State.{State as OwnState}
use Rattle.csv_records.specs.declared.counting.State.TheVariants as own

-- ---- one byte

-- a byte ends at most one field
pub at_most_one : (ends : Bool) → (if ends then 1 else 0) ≤ 1
at_most_one true = omega arith
at_most_one false = omega arith

module _ (cfg : Config) (s : State) (n b : ℕ) (rest : Text) where
  -- the record goes on after the byte
  pub goes_on : (next : State × Bool) → Some next ≡ own_step.step cfg s b → count_from cfg s n (b ∷ rest) ≡ count_from cfg next.0 (n + (if next.1 then 1 else 0)) rest
  unfolding count_from
  goes_on next is = ap (count_after (λ state count. count_from cfg state count rest) n rest) (sym is)

  -- the record ends at the byte
  pub ends_there : None ≡ own_step.step cfg s b → count_from cfg s n (b ∷ rest) ≡ Some (n, rest)
  unfolding count_from
  ends_there is = ap (count_after (λ state count. count_from cfg state count rest) n rest) (sym is)

-- the end of the text ends a record that has begun
pub ends_with_text : (cfg : Config) (s : OwnState) (n : ℕ) (text : Text) → length text ≡ 0 → s ≢ own.StartRecord → count_from cfg (state_at s) n text ≡ Some (n, text)
unfolding count_from
ends_with_text cfg s n (b ∷ rest) empty begun = absurd (omega (arith, empty))
ends_with_text cfg own.StartRecord n [] empty begun = absurd (begun refl)
ends_with_text cfg own.StartField n [] empty begun = refl
ends_with_text cfg own.InField n [] empty begun = refl
ends_with_text cfg own.InQuoted n [] empty begun = refl
ends_with_text cfg own.AfterQuote n [] empty begun = refl

pub none_begun : (cfg : Config) (n : ℕ) (text : Text) → length text ≡ 0 → count_from cfg st.StartRecord n text ≡ None
unfolding count_from
none_begun cfg n [] empty = refl
none_begun cfg n (b ∷ rest) empty = absurd (omega (arith, empty))

-- ---- a record

-- the number of fields of a record, and the text after the record
abbrev count_of : FoundRecord → ℕ × Text
count_of found = (length found.0, found.2)

counted : (cfg : Config) (s : State) (fields : List Text) (field text : Text) → option_map count_of (next_record cfg s fields field text) ≡ count_from cfg s (length fields + 1) text
unfolding next_record count_from
counted cfg s fields field [] = by_end (ends_at_end s)
  where
    by_end : (ends : Bool) → option_map count_of (if ends then Some (fields ++ (field ∷ []), st.StartRecord, []) else None) ≡ (if ends then Some (length fields + 1, []) else None)
    by_end true = ap (λ (n : ℕ). Some (n, [])) (length-append fields (field ∷ []))
    by_end false = refl
counted cfg s fields field (b ∷ rest) = by_action (step cfg s b).1 (λ fields field. counted cfg (step cfg s b).0 fields field rest)
  where
    to : State
    to = (step cfg s b).0

    by_action : (a : Action) → ((fields : List Text) (field : Text) → option_map count_of (next_record cfg to fields field rest) ≡ count_from cfg to (length fields + 1) rest)
        → option_map count_of (if is_end a then Some (fields_after a fields field, to, rest) else next_record cfg to (fields_after a fields field) (field_after a b field) rest)
        ≡ count_after (λ state count. count_from cfg state count rest) (length fields + 1) rest (after_action a to)
    by_action act.EndRecord more = ap (λ (n : ℕ). Some (n, rest)) (length-append fields (field ∷ []))
    by_action act.EndField more = more (fields ++ (field ∷ [])) [] ∙ ap (λ (n : ℕ). count_from cfg to (n + 1) rest) (length-append fields (field ∷ []))
    by_action act.Skip more = more fields field ∙ ap (λ (n : ℕ). count_from cfg to n rest) (sym (add-zero (length fields + 1)))
    by_action act.Copy more = more fields (field ++ (b ∷ [])) ∙ ap (λ (n : ℕ). count_from cfg to n rest) (sym (add-zero (length fields + 1)))

-- the text after a record that is counted
pub after_counted : (cfg : Config) (text : Text) (found : Option (ℕ × Text)) → found ≡ count_from cfg st.StartRecord 1 text → option_map_or (λ it. it.1) found [] ≡ skip_record cfg text
after_counted cfg text found is = ap (λ (o : Option (ℕ × Text)). option_map_or (λ it. it.1) o []) (is ∙ sym (counted cfg st.StartRecord [] [] text)) ∙ by_next (next_record cfg st.StartRecord [] [] text)
  where
    by_next : (next : Option FoundRecord) → option_map_or (λ it. it.1) (option_map count_of next) [] ≡ option_map_or (λ it. it.2) next []
    by_next None = refl
    by_next (Some found) = refl

-- ---- the next record

-- no record has begun
abbrev IsBetween : State → Type 0
IsBetween s = (s ≡ st.StartRecord) ⊎ (s ≡ st.AfterCr)

abbrev EndsBetween : State × Action → Type 0
EndsBetween next = is_end next.1 ≡ true → IsBetween next.0

abbrev choice : Bool → State × Action → State × Action → State × Action
choice b p q = if b then p else q

either : (b : Bool) (p q : State × Action) → EndsBetween p → EndsBetween q → EndsBetween (choice b p q)
either true p q first second = first
either false p q first second = second

module _ (delimiter : ℕ) (has_quotes : Bool) (b : ℕ) where
  abbrev cfg : Config
  cfg = config_for delimiter has_quotes

  abbrev end : State × Action
  end = ((if b == 13 then st.AfterCr else st.StartRecord), act.EndRecord)

  end_between : EndsBetween end
  end_between = by_return (b == 13)
    where
      by_return : (returns : Bool) → EndsBetween ((if returns then st.AfterCr else st.StartRecord), act.EndRecord)
      by_return true = λ is. inr refl
      by_return false = λ is. inl refl

  in_field_between : EndsBetween (in_field cfg b)
  in_field_between =
      either (b == delimiter) (st.StartField, act.EndField) (choice ((b == 13) || (b == 10)) end (st.InField, act.Copy)) (λ is. absurd (cc is))
      (either ((b == 13) || (b == 10)) end (st.InField, act.Copy) end_between (λ is. absurd (cc is)))

  start_field_between : EndsBetween (start_field cfg b)
  start_field_between = either (has_quotes && (b == 34)) (st.InQuoted, act.Skip) (in_field cfg b) (λ is. absurd (cc is)) in_field_between

  start_record_between : EndsBetween (start_record cfg b)
  start_record_between = either ((b == 13) || (b == 10)) (st.StartRecord, act.Skip) (start_field cfg b) (λ is. absurd (cc is)) start_field_between

  step_between : (s : State) → EndsBetween (step cfg s b)
  step_between st.StartRecord = start_record_between
  step_between st.StartField = start_field_between
  step_between st.InField = in_field_between
  step_between st.InQuoted =
      either (has_quotes && (b == 34)) (st.AfterQuote, act.Skip) (choice (has_quotes && false) (st.InEscape, act.Skip) (st.InQuoted, act.Copy)) (λ is. absurd (cc is))
      (either (has_quotes && false) (st.InEscape, act.Skip) (st.InQuoted, act.Copy) (λ is. absurd (cc is)) (λ is. absurd (cc is)))
  step_between st.InEscape = λ is. absurd (cc is)
  step_between st.AfterQuote = either ((has_quotes && true) && (b == 34)) (st.InQuoted, act.Copy) (in_field cfg b) (λ is. absurd (cc is)) in_field_between
  step_between st.InComment = either (b == 10) (st.StartRecord, act.Skip) (st.InComment, act.Skip) (λ is. absurd (cc is)) (λ is. absurd (cc is))
  step_between st.AfterCr = either (b == 10) (st.StartRecord, act.Skip) (start_record cfg b) (λ is. absurd (cc is)) start_record_between

  -- after a carriage return the reader goes on as at the start of a record
  pub step_alike : step cfg st.AfterCr b ≡ step cfg st.StartRecord b
  step_alike = by_tests (b == 13) (b == 10)
    where
      by_tests : (returns feeds : Bool) → choice feeds (st.StartRecord, act.Skip) (choice (returns || feeds) (st.StartRecord, act.Skip) (start_field cfg b)) ≡ choice (returns || feeds) (st.StartRecord, act.Skip) (start_field cfg b)
      by_tests true true = refl
      by_tests false true = refl
      by_tests true false = refl
      by_tests false false = refl

module _ (delimiter : ℕ) (has_quotes : Bool) where
  abbrev own_cfg : Config
  own_cfg = config_for delimiter has_quotes

  next_between : (s : State) (fields : List Text) (field text : Text) → IfSome (next_record own_cfg s fields field text) (λ found. IsBetween found.1)
  unfolding next_record
  next_between s fields field [] = by_end (ends_at_end s)
    where
      by_end : (ends : Bool) → IfSome (if ends then Some (fields ++ (field ∷ []), st.StartRecord, []) else None) (λ (found : FoundRecord). IsBetween found.1)
      by_end true = inl refl
      by_end false = tt
  next_between s fields field (b ∷ rest) = by_action (step own_cfg s b).1 (step_between delimiter has_quotes b s) (λ fields field. next_between (step own_cfg s b).0 fields field rest)
    where
      to : State
      to = (step own_cfg s b).0

      by_action : (a : Action) → (is_end a ≡ true → IsBetween to) → ((fields : List Text) (field : Text) → IfSome (next_record own_cfg to fields field rest) (λ found. IsBetween found.1))
          → IfSome (if is_end a then Some (fields_after a fields field, to, rest) else next_record own_cfg to (fields_after a fields field) (field_after a b field) rest) (λ found. IsBetween found.1)
      by_action act.EndRecord ends more = ends refl
      by_action act.EndField ends more = more (fields ++ (field ∷ [])) []
      by_action act.Skip ends more = more fields field
      by_action act.Copy ends more = more fields (field ++ (b ∷ []))

  next_alike : (text : Text) → next_record own_cfg st.AfterCr [] [] text ≡ next_record own_cfg st.StartRecord [] [] text
  unfolding next_record
  next_alike [] = refl
  next_alike (b ∷ rest) = rw (step_alike delimiter has_quotes b) refl

  all_alike : (n : ℕ) (s : State) (text : Text) → IsBetween s → records_from own_cfg n s text ≡ records_from own_cfg n st.StartRecord text
  unfolding records_from
  all_alike zero s text between = refl
  all_alike (suc n) s text (inl is) = rw is refl
  all_alike (suc n) s text (inr is) = rw is (ap (records_next (records_from own_cfg n)) (next_alike text))

  -- the number of fields of each of the next n records
  abbrev pub counts_left : ℕ → Text → List ℕ
  counts_left n text = map (λ (fields : List Text). length fields) (records_from own_cfg n st.StartRecord text)

  pub no_turns : (text : Text) → counts_left 0 text ≡ []
  unfolding records_from
  no_turns text = refl

  -- the next record is counted
  pub one_counted : (n : ℕ) (text : Text) (count : ℕ) (after : Text) → Some (count, after) ≡ count_from own_cfg st.StartRecord 1 text → counts_left (suc n) text ≡ count ∷ counts_left n after
  unfolding records_from
  one_counted n text count after is = by_next (next_record own_cfg st.StartRecord [] [] text) (next_between st.StartRecord [] [] text) (counted own_cfg st.StartRecord [] [] text ∙ sym is)
    where
      lengths : List (List Text) → List ℕ
      lengths records = map (λ (fields : List Text). length fields) records

      by_next : (next : Option FoundRecord) → IfSome next (λ found. IsBetween found.1) → option_map count_of next ≡ Some (count, after) → lengths (records_next (records_from own_cfg n) next) ≡ count ∷ counts_left n after
      by_next None between same = absurd (cc same)
      by_next (Some found) between same =
          let size : length found.0 ≡ count = ap (λ (o : Option (ℕ × Text)). (unwrap_or o (count, after)).0) same in
          let rest : found.2 ≡ after = ap (λ (o : Option (ℕ × Text)). (unwrap_or o (count, after)).1) same in
          rw (all_alike n found.1 found.2 between, size, rest) refl

  -- no record is left
  pub none_counted : (n : ℕ) (text : Text) → None ≡ count_from own_cfg st.StartRecord 1 text → counts_left n text ≡ []
  unfolding records_from
  none_counted zero text is = refl
  none_counted (suc n) text is = by_next (next_record own_cfg st.StartRecord [] [] text) (counted own_cfg st.StartRecord [] [] text ∙ sym is)
    where
      lengths : List (List Text) → List ℕ
      lengths records = map (λ (fields : List Text). length fields) records

      by_next : (next : Option FoundRecord) → option_map count_of next ≡ None → lengths (records_next (records_from own_cfg n) next) ≡ []
      by_next None same = refl
      by_next (Some found) same = absurd (cc same)
