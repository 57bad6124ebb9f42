-- The records of a beginning that is enough are the first records of the whole input.
use Rattle.std.proofs.Common.{◌≡◌, ◌≢◌, ◌==◌, ◌⊎◌, inl, inr, ◌+◌, ◌&&◌, ◌||◌, not, ℕ, zero, suc, Bool, true, false, List, [], ◌∷◌, ◌++◌, Option, Some, None, drop, eqb-true, fold, map, is_some, option_map, unwrap_or, length, take, refl, sym, ap, ap₂, ◌∙◌, subst, arith, append_assoc}
use Rattle.std.specs.Prelude.{if◌then◌else◌}
use Rattle.std.proofs.lemmas.Bool.Decides.{nat_tests}
use Rattle.std.proofs.lemmas.Bool.{and_parts, or_parts, cases_Bool}
use Rattle.std.specs.List.{list_all}
use Rattle.std.specs.Str.{encode_utf8_all}
use Rattle.std.proofs.lemmas.List.{length-map, map-append}
use Rattle.std.proofs.lemmas.List.Sums.{fold-append}
use Rattle.comfy_parts.specs.Text.{Text}
use Rattle.csv.specs.Machine.{Read, ends_at_end, field_after, fields_after, in_field, is_end, next_record, start_record, step}
use Rattle.csv.specs.Reading.{AreRecords, Reached, is_bom, records_from, strip_bom}
use Rattle.csv.specs.declared.parser.Action.{Action}
use Rattle.csv.specs.declared.parser.Action.TheVariants as act
use Rattle.csv.specs.declared.parser.Config.{Config}
use Rattle.csv.specs.declared.parser.State.{State}
use Rattle.csv.specs.declared.parser.State.TheVariants as st
use Rattle.csv_records.specs.Beginning.{EndsWithLine, FirstRecordsStay}
use Rattle.csv_records.proofs.LineLemmas.{EndsIn-trans, line-EndsIn}
use Rattle.csv_records.specs.Delimiter.{agreement, agreement_by, delimited, delimiter_in, only_ascii, found_delimiter, has_first_records, named_delimiter, shows_delimiter, tried_delimiters}
use Rattle.csv_records.specs.Lines.{EndsIn, below_line, below_lines, end_len, ends_line, first_line, line_len}
use Rattle.csv_records.specs.Encoding.{IsDecoded, encoding_of}
use Rattle.csv_records.specs.Input.{config_for}
use Rattle.csv_records.specs.Quotes.{state_after}
use Rattle.csv_records.specs.declared.delimiter.Delimiter.{Delimiter}
use Rattle.csv_records.specs.declared.delimiter.Delimiter.TheVariants.{Auto, Byte, NamedOrTab, Spaces}
use Rattle.csv_records.specs.Reading.{parted, read_text, reads_quotes}
use Rattle.csv_records.proofs.ReadTextLemmas.{no_spaces, plain_quotes, plain_text}
use Rattle.csv_records.specs.declared.encoding.Encoding.{Encoding}
use Rattle.csv_records.specs.declared.encoding.Encoding.TheVariants.{Cp1252, Utf16, Utf8}
use Rattle.csv_records.specs.declared.options.InputOptions.{InputOptions}

-- an optional value is missing or there
cases_Option : {A : Type 0} (o : Option A) → (o ≡ None) ⊎ ((x : A) × (o ≡ Some x))
cases_Option None = inl refl
cases_Option (Some x) = inr (x, refl)

-- ---- one record

-- the state after a text
abbrev run : Config → State → Text → State
run cfg s text = fold (λ (state : State) (b : ℕ). (step cfg state b).0) s text

module _ (cfg : Config) (rest : Text) where
  -- A record of a text ends where the text ends, or before. If it ends before, it is the same when the text goes on.
  data Ends (s : State) (fields : List Text) (field : Text) (text : Text) (p : Read) : Type 0 where
    at_end : ends_at_end (run cfg s text) ≡ true → p.1 ≡ st.StartRecord → p.2 ≡ [] → Ends s fields field text p
    before : next_record cfg s fields field (text ++ rest) ≡ Some (p.0, p.1, p.2 ++ rest) → run cfg s text ≡ run cfg p.1 p.2 → Ends s fields field text p

  one_record : (text : Text) (s : State) (fields : List Text) (field : Text) (p : Read) → next_record cfg s fields field text ≡ Some p → Ends s fields field text p
  unfolding next_record
  one_record [] s fields field p is = grind (arith, cases_Bool)
  one_record (c ∷ text) s fields field p is =
      elim (cases_Bool (is_end (step cfg s c).1)) [
        | inl ends ↦
            let found = rw ends at is in
            let own : (fields_after (step cfg s c).1 fields field, (step cfg s c).0, text) ≡ p = cc found in
            subst (Ends s fields field (c ∷ text)) own (before (rw ends refl) refl)
        | inr on ↦
            elim (one_record text (step cfg s c).0 (fields_after (step cfg s c).1 fields field) (field_after (step cfg s c).1 c field) p (rw on at is)) [
              | at_end unended start gone ↦ at_end unended start gone
              | before next state ↦ before (rw on next) state
            ]
      ]

  -- if a text ends between records, no record ends only because the text does
  between : (s : State) (text : Text) → run cfg s text ≡ st.StartRecord → ends_at_end (run cfg s text) ≡ true → ⊥
  between s text ends unended = grind arith

  -- the records of a text that ends between records come first among those of a text that goes on
  all_records : (s : State) (text : Text) (records all : List (List Text)) → run cfg s text ≡ st.StartRecord → AreRecords cfg s text records → AreRecords cfg s (text ++ rest) all → (more : List (List Text)) × (all ≡ records ++ more)
  unfolding Reached
  all_records s text [] all ends are known = (all, refl)
  all_records s text (r ∷ records) [] ends (s2, ys, (p, is, at, reached), none) (end, left, (same, whole), gone) =
      elim (one_record text s [] [] p is) [
        | at_end unended start gone' ↦ absurd (between s text ends unended)
        | before next state ↦ absurd (let here : next_record cfg s [] [] (text ++ rest) ≡ None = ap₂ (λ (t : State) (x : Text). next_record cfg t [] [] x) same whole ∙ gone in cc (here, next))
      ]
  all_records s text (r ∷ records) (q ∷ all) ends (s2, ys, (p, is, at, reached), none) (end, left, (found, is_found, at_found, on), gone) =
      elim (one_record text s [] [] p is) [
        | at_end unended start gone' ↦ absurd (between s text ends unended)
        | before next state ↦
            let same : found ≡ (p.0, p.1, p.2 ++ rest) = cc (is_found, next) in
            let others = all_records p.1 p.2 records all (sym state ∙ ends) (s2, ys, reached, none) (subst (λ (f : Read). AreRecords cfg f.1 f.2 all) same (end, left, on, gone)) in
            (others.0, ap₂ (λ (x : List Text) (xs : List (List Text)). x ∷ xs) (at_found ∙ ap (λ (f : Read). f.0) same ∙ sym at) others.1)
      ]

  -- if a text has more than n records, its first n are the same when it goes on
  same_first : (n : ℕ) (s : State) (text : Text) → length (records_from cfg (suc n) s text) ≡ suc n → records_from cfg n s (text ++ rest) ≡ records_from cfg n s text
  unfolding records_from next_record
  same_first zero s text is = refl
  same_first (suc n) s text is =
      elim (cases_Option (next_record cfg s [] [] text)) [
        | inl none ↦ let short = rw none at is in absurd (omega (arith, short))
        | inr it ↦
            let whole = rw it.1 at is in
            elim (one_record text s [] [] it.0 it.1) [
              | at_end unended start gone ↦ let short = rw (start, gone) at whole in absurd (omega (arith, short))
              | before next state ↦ rw (next, it.1) (ap (λ (rs : List (List Text)). it.0.0 ∷ rs) (same_first n it.0.1 it.0.2 (omega (arith, whole))))
            ]
      ]

-- ---- the state at a line feed

module _ (d : ℕ) (other : (0x0A == d) ≡ false) where
  after_feed : (q : Bool) (s : State) → ((step (config_for d q) s 0x0A).0 ≡ st.StartRecord) ⊎ ((step (config_for d q) s 0x0A).0 ≡ st.InQuoted)
  after_feed q st.StartRecord = inl refl
  after_feed true st.StartField = inl (rw other refl)
  after_feed false st.StartField = inl (rw other refl)
  after_feed q st.InField = inl (rw other refl)
  after_feed true st.InQuoted = inr refl
  after_feed false st.InQuoted = inr refl
  after_feed q st.InEscape = inr refl
  after_feed true st.AfterQuote = inl (rw other refl)
  after_feed false st.AfterQuote = inl (rw other refl)
  after_feed q st.InComment = inl refl
  after_feed q st.AfterCr = inl refl

  state_at_end : (q : Bool) (text : Text) → EndsWithLine text → run (config_for d q) st.StartRecord text ≢ st.InQuoted → run (config_for d q) st.StartRecord text ≡ st.StartRecord
  state_at_end q text (front, is) outside = grind (arith, after_feed, fold-append)

-- without quotes the reader never enters a quoted field
abbrev is_outer : State → Bool
is_outer st.StartRecord = true
is_outer st.StartField = true
is_outer st.InField = true
is_outer st.AfterCr = true
is_outer _ = false

abbrev stays_outer : State × Action → Bool
stays_outer after = is_outer after.0

module _ (d : ℕ) where
  outer_field : (c : ℕ) → stays_outer (in_field (config_for d false) c) ≡ true
  outer_field c = grind arith

  outer_record : (c : ℕ) → stays_outer (start_record (config_for d false) c) ≡ true
  outer_record c = grind (arith, outer_field)

  outer_step : (s : State) (c : ℕ) → is_outer s ≡ true → is_outer (step (config_for d false) s c).0 ≡ true
  outer_step st.StartRecord c is = outer_record c
  outer_step st.StartField c is = outer_field c
  outer_step st.InField c is = outer_field c
  outer_step st.AfterCr c is = grind (arith, outer_record)
  outer_step st.InQuoted c is = absurd (cc is)
  outer_step st.InEscape c is = absurd (cc is)
  outer_step st.AfterQuote c is = absurd (cc is)
  outer_step st.InComment c is = absurd (cc is)

  outer_run : (text : Text) (s : State) → is_outer s ≡ true → is_outer (run (config_for d false) s text) ≡ true
  outer_run [] s is = is
  outer_run (c ∷ text) s is = outer_run text (step (config_for d false) s c).0 (outer_step s c is)

  never_quoted : (text : Text) → run (config_for d false) st.StartRecord text ≢ st.InQuoted
  never_quoted text quoted = let outer : is_outer st.InQuoted ≡ true = ap is_outer (sym quoted) ∙ outer_run text st.StartRecord refl in cc outer

-- ---- lines

-- the first line, and the text below it, for a first byte that is no line end and for one that is
inside_line : (c : ℕ) (text : Text) → ends_line c ≡ false → (below_line (c ∷ text) ≡ below_line text) × (first_line (c ∷ text) ≡ c ∷ first_line text)
inside_line c text is = (ap (λ (n : ℕ). drop (end_len (drop n (c ∷ text))) (drop n (c ∷ text))) place, ap (λ (n : ℕ). take n (c ∷ text)) place)
  where
    place : line_len (c ∷ text) ≡ suc (line_len text)
    place = let one : 1 + line_len text ≡ suc (line_len text) = omega arith in ap (λ (b : Bool). if not b then 1 + line_len text else 0) is ∙ one

at_line_end : (c b : ℕ) (text : Text) → ends_line c ≡ true → (below_line (c ∷ b ∷ text) ≡ drop (if (c == 0x0D) && (b == 0x0A) then 2 else 1) (c ∷ b ∷ text)) × (first_line (c ∷ b ∷ text) ≡ [])
at_line_end c b text is = grind arith

module _ (rest : Text) where
  -- when a text goes on, its first line stays, and the text below it goes on
  record LineStays (text : Text) : Type 0 where
    below : below_line (text ++ rest) ≡ below_line text ++ rest
    first : first_line (text ++ rest) ≡ first_line text
    ends : (below_line text ≡ []) ⊎ EndsWithLine (below_line text)

  feed_below : (more : Text) → (below_line (0x0A ∷ more) ≡ more) × (first_line (0x0A ∷ more) ≡ [])
  feed_below [] = (refl, refl)
  feed_below (b ∷ more) = (refl, refl)

  -- a line end, another byte, and the text after them
  end_stays : (c b : ℕ) (text : Text) → ends_line c ≡ true → (text ≡ [] → b ≡ 0x0A) → ((text ≡ []) ⊎ EndsWithLine text) → LineStays (c ∷ b ∷ text)
  end_stays c b text is last ends =
      let whole = at_line_end c b (text ++ rest) is in
      let own = at_line_end c b text is in
      let cut = by_test ((c == 0x0D) && (b == 0x0A)) in
      record { below = whole.0 ∙ cut.0 ∙ ap (λ (t : Text). t ++ rest) (sym own.0); first = whole.1 ∙ sym own.1; ends = subst (λ (t : Text). (t ≡ []) ⊎ EndsWithLine t) (sym own.0) cut.1 }
    where
      with_byte : (text ≡ []) ⊎ EndsWithLine text → EndsWithLine (b ∷ text)
      with_byte (inl none) = ([], ap₂ (λ (x : ℕ) (xs : Text). x ∷ xs) (last none) none)
      with_byte (inr (front, e)) = (b ∷ front, ap (λ (xs : Text). b ∷ xs) e)

      by_test : (t : Bool) → (drop (if t then 2 else 1) (c ∷ b ∷ (text ++ rest)) ≡ drop (if t then 2 else 1) (c ∷ b ∷ text) ++ rest) × ((drop (if t then 2 else 1) (c ∷ b ∷ text) ≡ []) ⊎ EndsWithLine (drop (if t then 2 else 1) (c ∷ b ∷ text)))
      by_test true = (refl, ends)
      by_test false = (refl, inr (with_byte ends))

  line_stays : (front : Text) → LineStays (front ++ 0x0A ∷ [])
  line_stays [] = grind (arith, feed_below)
  line_stays (c ∷ front) = by_end (ends_line c) refl (line_stays front)
    where
      later : ends_line c ≡ false → LineStays (front ++ 0x0A ∷ []) → LineStays (c ∷ (front ++ 0x0A ∷ []))
      later is more =
          let whole = inside_line c ((front ++ 0x0A ∷ []) ++ rest) is in
          let own = inside_line c (front ++ 0x0A ∷ []) is in
          record {
            below = whole.0 ∙ more.below ∙ ap (λ (t : Text). t ++ rest) (sym own.0);
            first = whole.1 ∙ ap (λ (t : Text). c ∷ t) more.first ∙ sym own.1;
            ends = subst (λ (t : Text). (t ≡ []) ⊎ EndsWithLine t) (sym own.0) more.ends;
          }

      here : ends_line c ≡ true → (f : Text) → LineStays (c ∷ (f ++ 0x0A ∷ []))
      here is [] = end_stays c 0x0A [] is (λ none. refl) (inl refl)
      here is (b ∷ f) = end_stays c b (f ++ 0x0A ∷ []) is (λ none. absurd (some f none)) (inr (f, refl))
        where
          some : (f : Text) → f ++ 0x0A ∷ [] ≡ [] → ⊥
          some [] none = cc none
          some (x ∷ xs) none = cc none

      by_end : (b : Bool) → ends_line c ≡ b → LineStays (front ++ 0x0A ∷ []) → LineStays (c ∷ (front ++ 0x0A ∷ []))
      by_end true is more = here is front
      by_end false is more = later is more

  -- the lines that are left out stay too
  record LinesStay (count : ℕ) (text : Text) : Type 0 where
    below : below_lines count (text ++ rest) ≡ below_lines count text ++ rest
    ends : EndsWithLine (below_lines count text)

  none_below : (count : ℕ) → below_lines count [] ≡ []
  none_below zero = refl
  none_below (suc count) = none_below count

  lines_stay : (count : ℕ) (text : Text) → EndsWithLine text → (below_lines count text ≡ []) ⊎ LinesStay count text
  lines_stay zero text ends = inr (record { below = refl; ends = ends })
  lines_stay (suc count) text (front, is) = by_line (subst LineStays (sym is) (line_stays front)) (lines_stay count)
    where
      on : LineStays text → (below_lines count (below_line text) ≡ []) ⊎ LinesStay count (below_line text) → (below_lines (suc count) text ≡ []) ⊎ LinesStay (suc count) text
      on line (inl none) = inl none
      on line (inr more) = inr (record { below = ap (below_lines count) line.below ∙ more.below; ends = more.ends })

      by_ends : LineStays text → ((t : Text) → EndsWithLine t → (below_lines count t ≡ []) ⊎ LinesStay count t) → (below_line text ≡ []) ⊎ EndsWithLine (below_line text) → (below_lines (suc count) text ≡ []) ⊎ LinesStay (suc count) text
      by_ends line later (inl none) = inl (ap (below_lines count) none ∙ none_below count)
      by_ends line later (inr ends) = on line (later (below_line text) ends)

      by_line : LineStays text → ((t : Text) → EndsWithLine t → (below_lines count t ≡ []) ⊎ LinesStay count t) → (below_lines (suc count) text ≡ []) ⊎ LinesStay (suc count) text
      by_line line later = by_ends line later line.ends

  -- if a text goes on, a byte-order mark at its start stays
  record MarkStays (text : Text) : Type 0 where
    rest_of : strip_bom (text ++ rest) ≡ strip_bom text ++ rest
    ends : EndsWithLine (strip_bom text)

  no_mark : (a c : ℕ) → is_bom a 0x0A c ≡ false
  no_mark a c = grind arith

  no_mark_before : (a b : ℕ) → is_bom a b 0x0A ≡ false
  no_mark_before a b = grind arith

  mark_stays : (front : Text) → MarkStays (front ++ 0x0A ∷ [])
  unfolding strip_bom
  mark_stays [] = grind arith
  mark_stays (a ∷ []) = record { rest_of = alone rest; ends = (a ∷ [], refl) }
    where
      alone : (more : Text) → strip_bom (a ∷ 0x0A ∷ more) ≡ a ∷ 0x0A ∷ more
      alone [] = refl
      alone (c ∷ more) = ap (λ (b : Bool). if b then more else a ∷ 0x0A ∷ c ∷ more) (no_mark a c)
  mark_stays (a ∷ b ∷ []) =
      let own : strip_bom (a ∷ b ∷ 0x0A ∷ []) ≡ a ∷ b ∷ 0x0A ∷ [] = ap (λ (t : Bool). if t then [] else a ∷ b ∷ 0x0A ∷ []) (no_mark_before a b) in
      let whole : strip_bom (a ∷ b ∷ 0x0A ∷ rest) ≡ a ∷ b ∷ 0x0A ∷ rest = ap (λ (t : Bool). if t then rest else a ∷ b ∷ 0x0A ∷ rest) (no_mark_before a b) in
      record { rest_of = whole ∙ ap (λ (t : Text). t ++ rest) (sym own); ends = (a ∷ b ∷ [], own) }
  mark_stays (a ∷ b ∷ c ∷ front) = by_test (is_bom a b c) refl
    where
      text : Text
      text = front ++ 0x0A ∷ []

      by_test : (t : Bool) → is_bom a b c ≡ t → MarkStays (a ∷ b ∷ c ∷ text)
      by_test true is =
          let own : strip_bom (a ∷ b ∷ c ∷ text) ≡ text = ap (λ (t : Bool). if t then text else a ∷ b ∷ c ∷ text) is in
          let whole : strip_bom (a ∷ b ∷ c ∷ (text ++ rest)) ≡ text ++ rest = ap (λ (t : Bool). if t then text ++ rest else a ∷ b ∷ c ∷ (text ++ rest)) is in
          record { rest_of = whole ∙ ap (λ (t : Text). t ++ rest) (sym own); ends = (front, own) }
      by_test false is =
          let own : strip_bom (a ∷ b ∷ c ∷ text) ≡ a ∷ b ∷ c ∷ text = ap (λ (t : Bool). if t then text else a ∷ b ∷ c ∷ text) is in
          let whole : strip_bom (a ∷ b ∷ c ∷ (text ++ rest)) ≡ a ∷ b ∷ c ∷ (text ++ rest) = ap (λ (t : Bool). if t then text ++ rest else a ∷ b ∷ c ∷ (text ++ rest)) is in
          record { rest_of = whole ∙ ap (λ (t : Text). t ++ rest) (sym own); ends = (a ∷ b ∷ c ∷ front, own) }

  mark_stays_in : (text : Text) → EndsWithLine text → MarkStays text
  mark_stays_in text (front, is) = subst MarkStays (sym is) (mark_stays front)

  line_stays_in : (text : Text) → EndsWithLine text → LineStays text
  line_stays_in text (front, is) = subst LineStays (sym is) (line_stays front)

  -- ---- the delimiter

  -- the part of a text with its records goes on as the text does, and ends with a line feed if it isn't empty
  record PartsStay (whole own : ℕ × Text) : Type 0 where
    same : whole ≡ (own.0, own.1 ++ rest)
    ends : (own.1 ≡ []) ⊎ EndsWithLine own.1

  module _ (text : Text) (ends : EndsWithLine text) where
    mark : MarkStays text
    mark = mark_stays_in text ends

    line : LineStays (strip_bom text)
    line = line_stays_in (strip_bom text) mark.ends

    named_whole : named_delimiter (text ++ rest) ≡ option_map (λ (b : ℕ). (b, below_line (strip_bom text) ++ rest)) (delimiter_in (first_line (strip_bom text)))
    named_whole =
        ap (λ (t : Text). option_map (λ (b : ℕ). (b, below_line t)) (delimiter_in (first_line t))) mark.rest_of
        ∙ ap₂ (λ (below first : Text). option_map (λ (b : ℕ). (b, below)) (delimiter_in first)) line.below line.first

    -- by a first line that names the delimiter, or doesn't
    by_name : (k l : ℕ) → (named_delimiter text ≡ None → l ≡ k) → PartsStay (unwrap_or (named_delimiter (text ++ rest)) (l, text ++ rest)) (unwrap_or (named_delimiter text) (k, text))
    by_name k l same = by_found (delimiter_in (first_line (strip_bom text))) refl
      where
        by_found : (o : Option ℕ) → delimiter_in (first_line (strip_bom text)) ≡ o → PartsStay (unwrap_or (named_delimiter (text ++ rest)) (l, text ++ rest)) (unwrap_or (named_delimiter text) (k, text))
        by_found None is =
            let own : named_delimiter text ≡ None = ap (option_map (λ (b : ℕ). (b, below_line (strip_bom text)))) is in
            let whole : named_delimiter (text ++ rest) ≡ None = named_whole ∙ ap (option_map (λ (b : ℕ). (b, below_line (strip_bom text) ++ rest))) is in
            rw (own, whole, same own) (record { same = refl; ends = inr ends })
        by_found (Some b) is =
            let own : named_delimiter text ≡ Some (b, below_line (strip_bom text)) = ap (option_map (λ (b : ℕ). (b, below_line (strip_bom text)))) is in
            let whole : named_delimiter (text ++ rest) ≡ Some (b, below_line (strip_bom text) ++ rest) = named_whole ∙ ap (option_map (λ (b : ℕ). (b, below_line (strip_bom text) ++ rest))) is in
            rw (own, whole) (record { same = refl; ends = line.ends })

    module _ (q : Bool) where
      same_agreement : (d : ℕ) → has_first_records q text d ≡ true → agreement_by q (text ++ rest) d ≡ agreement_by q text d
      same_agreement d has =
          let cfg = config_for d q in
          let records = records_from cfg 11 st.StartRecord (strip_bom text) in
          let enough : length records ≡ 11 = sym (length-map records (λ (fields : List Text). length fields)) ∙ eqb-true _ 11 has in
          ap (λ (records : List (List Text)). agreement (map (λ (fields : List Text). length fields) records))
          (ap (records_from cfg 10 st.StartRecord) mark.rest_of ∙ same_first cfg rest 10 st.StartRecord (strip_bom text) enough)

      same_found : list_all (has_first_records q text) tried_delimiters ≡ true → found_delimiter q (text ++ rest) ≡ found_delimiter q text
      same_found all =
          let first = and_parts (has_first_records q text 0x09) (list_all (has_first_records q text) (0x3B ∷ 0x2C ∷ 0x7C ∷ [])) all in
          let second = and_parts (has_first_records q text 0x3B) (list_all (has_first_records q text) (0x2C ∷ 0x7C ∷ [])) first.1 in
          let third = and_parts (has_first_records q text 0x2C) (list_all (has_first_records q text) (0x7C ∷ [])) second.1 in
          let fourth = and_parts (has_first_records q text 0x7C) true third.1 in
          rw (same_agreement 0x09 first.0, same_agreement 0x3B second.0, same_agreement 0x2C third.0, same_agreement 0x7C fourth.0) refl

    parts_stay : (d : Delimiter) (q : Bool) → shows_delimiter d q text ≡ true → PartsStay (delimited d q (text ++ rest)) (delimited d q text)
    parts_stay (Byte b) q shows = record { same = refl; ends = inr ends }
    parts_stay NamedOrTab q shows = by_name 0x09 0x09 (λ none. refl)
    parts_stay Spaces q shows = absurd (cc shows)
    parts_stay Auto q shows = by_name (found_delimiter q text) (found_delimiter q (text ++ rest)) (λ none. same_found q (ap (λ (o : Option (ℕ × Text)). is_some o || list_all (has_first_records q text) tried_delimiters) (sym none) ∙ shows))

-- ---- the text of an input

-- the text below some lines of an input is a suffix of the input
lines-EndsIn : (count : ℕ) (text : Text) → EndsIn text (below_lines count text)
lines-EndsIn zero text = ([], refl)
lines-EndsIn (suc count) text = EndsIn-trans text (below_line text) (below_lines count (below_line text)) (line-EndsIn text) (lines-EndsIn count (below_line text))

-- an input ends with a line feed if the text below its lines does
ends_below : (skip : ℕ) (input : Text) → EndsWithLine (below_lines skip input) → EndsWithLine input
ends_below skip input (front, is) = by_front (lines-EndsIn skip input)
  where
    by_front : EndsIn input (below_lines skip input) → EndsWithLine input
    by_front (above, parts) = (above ++ front, parts ∙ ap (λ (t : Text). above ++ t) is ∙ sym (append_assoc above front (0x0A ∷ [])))

-- an input that goes on is in the same encoding
same_encoding : (e : Option Encoding) (beginning after : Text) → encoding_of e beginning ≢ Utf16 → EndsWithLine beginning → encoding_of e (beginning ++ after) ≡ encoding_of e beginning
same_encoding (Some e) beginning after known ends = refl
same_encoding None [] after known (front, ends) = absurd (none front ends)
  where
    none : (f : Text) → [] ≡ f ++ 0x0A ∷ [] → ⊥
    none [] e = cc e
    none (x ∷ xs) e = cc e
same_encoding None (a ∷ []) after known (front, ends) = by_feed (feed front ends) after
  where
    none : (f : Text) → [] ≡ f ++ 0x0A ∷ [] → ⊥
    none [] e = cc e
    none (x ∷ xs) e = cc e

    feed : (f : Text) → a ∷ [] ≡ f ++ 0x0A ∷ [] → a ≡ 0x0A
    feed [] e = cc e
    feed (x ∷ xs) e = absurd (none xs (cc e))

    by_feed : a ≡ 0x0A → (more : Text) → encoding_of None (a ∷ more) ≡ Utf8
    by_feed e [] = refl
    by_feed e (b ∷ more) = rw e refl
same_encoding None (a ∷ b ∷ beginning) after known ends = refl

encoded_both : (cs ds : List ℕ) → encode_utf8_all (cs ++ ds) ≡ encode_utf8_all cs ++ encode_utf8_all ds
encoded_both [] ds = refl
encoded_both (c ∷ cs) ds = grind (arith, append_assoc, encoded_both cs ds)

-- if an input goes on, the text below its first `skip` lines goes on
below_stays : (skip : ℕ) (beginning after : Text) → EndsWithLine (below_lines skip beginning) → below_lines skip (beginning ++ after) ≡ below_lines skip beginning ++ after
below_stays skip beginning after ends = by_lines (lines_stay after skip beginning (ends_below skip beginning ends)) ends
  where
    nothing : (f : Text) → [] ≡ f ++ 0x0A ∷ [] → ⊥
    nothing [] e = cc e
    nothing (x ∷ xs) e = cc e

    by_lines : (below_lines skip beginning ≡ []) ⊎ LinesStay after skip beginning → EndsWithLine (below_lines skip beginning) → below_lines skip (beginning ++ after) ≡ below_lines skip beginning ++ after
    by_lines (inl none) (front, is) = absurd (nothing front (sym none ∙ is))
    by_lines (inr stay) some = stay.below

-- if an input goes on, its decoded text goes on
text_stays : (e : Encoding) (skip : ℕ) (beginning after text whole : Text) → e ≢ Utf16 → EndsWithLine (below_lines skip beginning) → IsDecoded e skip beginning text → IsDecoded e skip (beginning ++ after) whole → (more : Text) × (whole ≡ text ++ more)
text_stays Utf8 skip beginning after text whole known ends is also = grind (arith, below_stays)
text_stays Cp1252 skip beginning after text whole known ends is also = grind (arith, below_stays, map-append, encoded_both)
text_stays Utf16 skip beginning after text whole known ends is also = absurd (known refl)

feed_alone : encode_utf8_all (0x0A ∷ []) ≡ 0x0A ∷ []
unfolding lib.Utf8.encode
feed_alone = refl

-- the decoded text of an input ends with a line feed, if the text below its first `skip` lines does
text_ends : (e : Encoding) (skip : ℕ) (beginning text : Text) → e ≢ Utf16 → EndsWithLine (below_lines skip beginning) → IsDecoded e skip beginning text → EndsWithLine text
text_ends Utf8 skip beginning text known ends is = subst EndsWithLine (sym is.1) ends
text_ends Cp1252 skip beginning text known (front, ends) is = grind (arith, map-append, encoded_both, feed_alone)
text_ends Utf16 skip beginning text known ends is = absurd (known refl)

-- ---- no delimiter is a line feed

turned : (b : ℕ) → (b == 0x0A) ≡ false → (0x0A == b) ≡ false
turned b is = grind (arith, is, nat_tests)

named_other : (word : Text) (b : ℕ) → only_ascii word ≡ Some b → (0x0A == b) ≡ false
named_other [] b is = absurd (cc is)
named_other (x ∷ []) b is = grind (arith, turned, or_parts)
named_other (x ∷ y ∷ word) b is = absurd (cc is)

line_other : (line : Text) (b : ℕ) → delimiter_in line ≡ Some b → (0x0A == b) ≡ false
line_other line b is = grind (arith, named_other)

found_other : (q : Bool) (text : Text) → (0x0A == found_delimiter q text) ≡ false
found_other q text = grind arith

abbrev byte_of : ℕ × Text → ℕ
byte_of parts = parts.0

-- the byte that is named or found
chosen_other : (text : Text) (k : ℕ) → (0x0A == k) ≡ false → (0x0A == byte_of (unwrap_or (named_delimiter text) (k, text))) ≡ false
chosen_other text k other = grind (arith, line_other)

other_delimiter : (d : Delimiter) (q : Bool) (text : Text) → shows_delimiter d q text ≡ true → (0x0A == (delimited d q text).0) ≡ false
other_delimiter (Byte b) q text shows = grind (arith, turned)
other_delimiter NamedOrTab q text shows = chosen_other text 0x09 refl
other_delimiter Spaces q text shows = absurd (cc shows)
other_delimiter Auto q text shows = chosen_other text (found_delimiter q text) (found_other q text)

-- ---- all together

none_in_nothing : (cfg : Config) (records : List (List Text)) → AreRecords cfg st.StartRecord [] records → records ≡ []
unfolding Reached next_record
none_in_nothing cfg [] are = refl
none_in_nothing cfg (r ∷ records) (s, ys, (p, is, at, more), none) = absurd (cc is)

unmarked_nothing : strip_bom [] ≡ []
unfolding strip_bom
unmarked_nothing = refl

pub first_records_stay : (options : InputOptions) (most : ℕ) (beginning after : Text) (records all : List (List Text)) → FirstRecordsStay options most beginning after records all
first_records_stay options most beginning after records all enough known =
    let e = encoding_of options.encoding beginning in
    let same = same_encoding options.encoding beginning after enough.no_utf16 (ends_below options.skip beginning enough.ends) in
    by_text (text_stays e options.skip beginning after enough.text known.text enough.no_utf16 enough.ends enough.is_text.is_decoded (subst (λ (e : Encoding). IsDecoded e options.skip (beginning ++ after) known.text) same known.is_text.is_decoded))
    (text_ends e options.skip beginning enough.text enough.no_utf16 enough.ends enough.is_text.is_decoded)
  where
    d : Delimiter
    d = options.delimiter

    q : Bool
    q = options.has_quotes

    Goal : Type 0
    Goal = (more : List (List Text)) × (all ≡ records ++ more)

    -- an enough beginning isn't empty, since it has records
    some_records : (cfg : Config) (text : Text) → text ≡ [] → AreRecords cfg st.StartRecord (strip_bom text) records → ⊥
    some_records cfg text none are = let no_records = none_in_nothing cfg records (rw (none, unmarked_nothing) at are) in let more = enough.more in omega (arith, more, ap (λ (rs : List (List Text)). length rs) no_records)

    -- by the parts of both texts with their records
    by_parts : (own whole : ℕ × Text) (rest : Text) → ((0x0A == own.0) ≡ false) → PartsStay rest whole own → AreRecords (config_for own.0 q) st.StartRecord (strip_bom own.1) records
        → (q ≡ true → state_after own.0 (strip_bom own.1) ≢ st.InQuoted) → AreRecords (config_for whole.0 q) st.StartRecord (strip_bom whole.1) all → Goal
    by_parts own whole rest other parts are closed also = by_ends parts.ends
      where
        outside : (b : Bool) → q ≡ b → run (config_for own.0 q) st.StartRecord (strip_bom own.1) ≢ st.InQuoted
        outside true is = rw is (closed is)
        outside false is = rw is (never_quoted own.0 (strip_bom own.1))

        by_ends : (own.1 ≡ []) ⊎ EndsWithLine own.1 → Goal
        by_ends (inl none) = absurd (some_records (config_for own.0 q) own.1 none are)
        by_ends (inr ends) =
            let mark = mark_stays_in rest own.1 ends in
            let cfg = config_for own.0 q in
            let end = state_at_end own.0 other q (strip_bom own.1) mark.ends (outside q refl) in
            let same : AreRecords cfg st.StartRecord (strip_bom own.1 ++ rest) all = rw (parts.same, mark.rest_of) at also in
            all_records cfg rest st.StartRecord (strip_bom own.1) records all end are same

    other : d ≢ Spaces
    other = no_spaces d q enough.text enough.shows

    -- since spaces aren't the delimiter, the records are those of the text itself
    plain : (rows : List (List Text)) (text : Text) → AreRecords (config_for (parted options text).0 (reads_quotes options)) st.StartRecord (strip_bom (parted options text).1) rows
        → AreRecords (config_for (delimited d q text).0 q) st.StartRecord (strip_bom (delimited d q text).1) rows
    plain rows text are =
        subst (λ (t : Text). AreRecords (config_for (delimited d q t).0 q) st.StartRecord (strip_bom (delimited d q t).1) rows) (plain_text options.has_header d text other)
        (subst (λ (b : Bool). AreRecords (config_for (delimited d b (read_text options.has_header d text)).0 b) st.StartRecord (strip_bom (delimited d b (read_text options.has_header d text)).1) rows) (plain_quotes d q other) are)

    closed : q ≡ true → state_after (delimited d q enough.text).0 (strip_bom (delimited d q enough.text).1) ≢ st.InQuoted
    closed =
        subst (λ (t : Text). q ≡ true → state_after (delimited d q t).0 (strip_bom (delimited d q t).1) ≢ st.InQuoted) (plain_text options.has_header d enough.text other)
        (subst (λ (b : Bool). b ≡ true → state_after (delimited d b (read_text options.has_header d enough.text)).0 (strip_bom (delimited d b (read_text options.has_header d enough.text)).1) ≢ st.InQuoted) (plain_quotes d q other) enough.are_records.is_closed)

    by_text : (more : Text) × (known.text ≡ enough.text ++ more) → EndsWithLine enough.text → Goal
    by_text (rest, is) ends =
        let own : ℕ × Text = delimited d q enough.text in
        let whole : delimited d q known.text ≡ delimited d q (enough.text ++ rest) = ap (delimited d q) is in
        by_parts own (delimited d q known.text) rest (other_delimiter d q enough.text enough.shows) (subst (λ (w : ℕ × Text). PartsStay rest w own) (sym whole) (parts_stay rest enough.text ends d q enough.shows))
        (plain records enough.text enough.are_records.are_records.all) closed (plain all known.text known.are_records.are_records.all)
