-- The records of UTF-8 are UTF-8 if the delimiter is ASCII: a byte that isn't ASCII only joins its field.
use Rattle.std.proofs.Common.{◌≡◌, ◌⊎◌, inl, inr, ◌<◌, ◌≤◌, ◌==◌, ◌&&◌, ◌||◌, ℕ, Bool, true, false, List, [], ◌∷◌, ◌++◌, Some, None, All, ap, append_assoc, append-nil, arith, encode_utf8, eqb-true, length, length-append, refl, subst, sym, tests, ◌∙◌}
use Rattle.std.proofs.Math.Seq.{drop-append_seam, get_or-append_seam, take-append_seam}
use Rattle.std.proofs.lemmas.Bool.{and_parts, cases_lt, false≢true}
use Rattle.std.proofs.lemmas.List.Elements.{All-cons, All-nil}
use Rattle.std.proofs.lemmas.Str.{IsCharBoundary-before_ascii, IsUtf8-append, IsUtf8-drop, IsUtf8-nil, IsUtf8-past_char, IsUtf8-take, encode_ascii}
use Rattle.std.specs.Prelude.{if◌then◌else◌}
use Rattle.std.specs.Str.{IsCharBoundary, IsUtf8}
use lib.Utf8.{encode}
use Rattle.comfy_parts.specs.Text.{Text}
use Rattle.csv.proofs.RecordFacts.{text-more}
use Rattle.csv.specs.Machine.{Read as FoundRecord, ends_at_end, field_after, fields_after, in_field, is_end, next_record, start_field, start_record, step}
use Rattle.csv.specs.Reading.{Reached, is_bom, strip_bom}
use Rattle.csv.specs.Records.{AllText}
use Rattle.csv.specs.declared.parser.Action.{Action}
use Rattle.csv.specs.declared.parser.Action.TheVariants as act
use Rattle.csv.specs.declared.parser.State.{State}
use Rattle.csv.specs.declared.parser.State.TheVariants as st
use Rattle.csv_records.specs.Input.{config_for}

-- ---- texts

-- a text may be cut at an ASCII character
cut : (front back : Text) (c : ℕ) → c < 128 → IsUtf8 (front ++ c ∷ back) → IsUtf8 front × IsUtf8 back
cut front back c below utf8 = (
  subst IsUtf8 (take-append_seam front (c ∷ back)) (IsUtf8-take (front ++ c ∷ back) (length front) utf8 boundary),
  IsUtf8-past_char (c ∷ back) back c (subst IsUtf8 (drop-append_seam front (c ∷ back)) (IsUtf8-drop (front ++ c ∷ back) (length front) utf8 boundary)) (ap (λ (t : Text). t ++ back) (sym (encode_ascii c below))),
)
  where
    boundary : IsCharBoundary (front ++ c ∷ back) (length front)
    boundary = IsCharBoundary-before_ascii (front ++ c ∷ back) (length front) (omega (arith, length-append front (c ∷ back))) (omega (arith, get_or-append_seam front c back 0, below))

pub bom : encode_utf8 0xFEFF ≡ 0xEF ∷ 0xBB ∷ 0xBF ∷ []
unfolding encode
bom = refl

pub mark_in : (a b c : ℕ) (rest : Text) → is_bom a b c ≡ true → a ∷ b ∷ c ∷ rest ≡ encode_utf8 0xFEFF ++ rest
mark_in a b c rest is =
    let third = and_parts ((a == 0xEF) && (b == 0xBB)) (c == 0xBF) is in
    let both = and_parts (a == 0xEF) (b == 0xBB) third.0 in
    let whole : a ∷ b ∷ c ∷ rest ≡ 0xEF ∷ 0xBB ∷ 0xBF ∷ rest = rw (eqb-true a 0xEF both.0, eqb-true b 0xBB both.1, eqb-true c 0xBF third.1) refl in
    whole ∙ ap (λ (t : Text). t ++ rest) (sym bom)

-- UTF-8 without its byte-order mark is UTF-8
without_bom : (text : Text) → IsUtf8 text → IsUtf8 (strip_bom text)
unfolding strip_bom
without_bom [] utf8 = utf8
without_bom (a ∷ []) utf8 = utf8
without_bom (a ∷ b ∷ []) utf8 = utf8
without_bom (a ∷ b ∷ c ∷ rest) utf8 = by_bom (is_bom a b c) refl
  where
    by_bom : (v : Bool) → is_bom a b c ≡ v → IsUtf8 (if v then rest else a ∷ b ∷ c ∷ rest)
    by_bom false is = utf8
    by_bom true is = IsUtf8-past_char (a ∷ b ∷ c ∷ rest) rest 0xFEFF utf8 (mark_in a b c rest is)

-- ---- one byte

-- the reader isn't in a comment in this state
abbrev is_readable : State → Bool
is_readable st.StartRecord = true
is_readable st.StartField = true
is_readable st.InField = true
is_readable st.InQuoted = true
is_readable st.AfterQuote = true
is_readable st.InEscape = true
is_readable st.InComment = false
is_readable st.AfterCr = true

-- after byte c the reader isn't in a comment, and a byte that isn't ASCII has joined the field
record Joins (c : ℕ) (p : State × Action) : Type 0 where
  outside : is_readable p.0 ≡ true
  joined : 128 ≤ c → p.1 ≡ act.Copy

by_test : (c : ℕ) (b : Bool) (p q : State × Action) → (b ≡ true → Joins c p) → (b ≡ false → Joins c q) → Joins c (if b then p else q)
by_test c true p q met unmet = met refl
by_test c false p q met unmet = unmet refl

module _ (delimiter : ℕ) (has_quotes : Bool) (c : ℕ) (ascii : delimiter < 128) where
  -- an ASCII byte may have any effect
  low : (p : State × Action) → c < 128 → is_readable p.0 ≡ true → Joins c p
  low p below outside = record { outside = outside; joined = λ high. absurd (omega (arith, below, high)) }

  same : (n : ℕ) → n < 128 → (c == n) ≡ true → c < 128
  same n below is = omega (arith, eqb-true c n is, below)

  -- a quote is ASCII
  quote : (b : Bool) → (b && (c == 34)) ≡ true → c < 128
  quote b is = same 34 (omega arith) (and_parts b (c == 34) is).1

  no_escape : (b : Bool) → (b && false) ≡ true → ⊥
  no_escape b is = false≢true (and_parts b false is).1

  in_field-joins : Joins c (in_field (config_for delimiter has_quotes) c)
  in_field-joins =
      by_test c (c == delimiter) _ _ (λ is. low _ (same delimiter ascii is) refl)
      (λ unmet. by_test c ((c == 13) || (c == 10)) _ _ (λ is. low _ (grind (arith, is, tests)) (by_return (c == 13))) (λ unmet. record { outside = refl; joined = λ high. refl }))
    where
      by_return : (b : Bool) → is_readable (if b then st.AfterCr else st.StartRecord) ≡ true
      by_return true = refl
      by_return false = refl

  start_field-joins : Joins c (start_field (config_for delimiter has_quotes) c)
  start_field-joins = by_test c (has_quotes && (c == 34)) _ _ (λ is. low _ (quote has_quotes is) refl) (λ unmet. in_field-joins)

  start_record-joins : Joins c (start_record (config_for delimiter has_quotes) c)
  start_record-joins = by_test c ((c == 13) || (c == 10)) _ _ (λ is. low _ (grind (arith, is, tests)) refl) (λ unmet. start_field-joins)

  step-joins : (s : State) → is_readable s ≡ true → Joins c (step (config_for delimiter has_quotes) s c)
  step-joins st.StartRecord read = start_record-joins
  step-joins st.StartField read = start_field-joins
  step-joins st.InField read = in_field-joins
  step-joins st.InQuoted read =
      by_test c (has_quotes && (c == 34)) _ _ (λ is. low _ (quote has_quotes is) refl)
      (λ unmet. by_test c (has_quotes && false) _ _ (λ is. absurd (no_escape has_quotes is)) (λ none. record { outside = refl; joined = λ high. refl }))
  step-joins st.InEscape read = record { outside = refl; joined = λ high. refl }
  step-joins st.AfterQuote read = by_test c ((has_quotes && true) && (c == 34)) _ _ (λ is. record { outside = refl; joined = λ high. refl }) (λ unmet. in_field-joins)
  step-joins st.InComment read = absurd (cc read)
  step-joins st.AfterCr read = by_test c (c == 10) _ _ (λ is. low _ (same 10 (omega arith) is) refl) (λ unmet. start_record-joins)

-- ---- records

-- the fields of a record are UTF-8, and so is the text after the record
record IsTextRecord (next : FoundRecord) : Type 0 where
  fields : AllText next.0
  outside : is_readable next.1 ≡ true
  rest : IsUtf8 next.2

no_fields : AllText []
unfolding AllText
no_fields = tt

module _ (delimiter : ℕ) (has_quotes : Bool) (ascii : delimiter < 128) where
  -- the next record of this text is UTF-8, whichever fields were read before it
  abbrev ReadsText : Text → Type 0
  ReadsText text =
      (s : State) (fields : List Text) (field : Text) (next : FoundRecord) → is_readable s ≡ true → AllText fields → IsUtf8 (field ++ text)
      → next_record (config_for delimiter has_quotes) s fields field text ≡ Some next → IsTextRecord next

  next_is_text : (text : Text) → ReadsText text
  unfolding next_record
  next_is_text [] s fields field next read texts utf8 found = by_end (ends_at_end s) found
    where
      by_end : (b : Bool) → (if b then Some (fields ++ (field ∷ []), st.StartRecord, []) else None) ≡ Some next → IsTextRecord next
      by_end false found = absurd (cc found)
      by_end true found =
          let last : (fields ++ (field ∷ []), st.StartRecord, []) ≡ next = cc found in
          subst IsTextRecord last (record { fields = text-more fields field texts (subst IsUtf8 (append-nil field) utf8); outside = refl; rest = IsUtf8-nil })
  next_is_text (c ∷ text) s fields field next read texts utf8 found = by_action (next_is_text text) (step (config_for delimiter has_quotes) s c) (step-joins delimiter has_quotes c ascii s read) found
    where
      -- an action that doesn't join the byte to the field belongs to an ASCII byte
      parts : (s2 : State) (a : Action) → Joins c (s2, a) → (a ≡ act.Copy → ⊥) → IsUtf8 field × IsUtf8 text
      parts s2 a joins differs = by_size (cases_lt c 128)
        where
          by_size : (c < 128) ⊎ (128 ≤ c) → IsUtf8 field × IsUtf8 text
          by_size (inl below) = cut field text c below utf8
          by_size (inr high) = absurd (differs (joins.joined high))

      by_action : ReadsText text → (p : State × Action) → Joins c p
          → (if is_end p.1 then Some (fields_after p.1 fields field, p.0, text) else next_record (config_for delimiter has_quotes) p.0 (fields_after p.1 fields field) (field_after p.1 c field) text) ≡ Some next
          → IsTextRecord next
      by_action others (s2, act.Copy) joins found = others s2 fields (field ++ c ∷ []) next joins.outside texts (subst IsUtf8 (sym (append_assoc field (c ∷ []) text)) utf8) found
      by_action others (s2, act.Skip) joins found =
          let both = parts s2 act.Skip joins (λ is. cc is) in
          others s2 fields field next joins.outside texts (IsUtf8-append field text both.0 both.1) found
      by_action others (s2, act.EndField) joins found =
          let both = parts s2 act.EndField joins (λ is. cc is) in
          others s2 (fields ++ (field ∷ [])) [] next joins.outside (text-more fields field texts both.0) both.1 found
      by_action others (s2, act.EndRecord) joins found =
          let both = parts s2 act.EndRecord joins (λ is. cc is) in
          let last : (fields ++ (field ∷ []), s2, text) ≡ next = cc found in
          subst IsTextRecord last (record { fields = text-more fields field texts both.0; outside = joins.outside; rest = both.1 })

  reached_is_text : (records : List (List Text)) (s s2 : State) (text rest : Text) → is_readable s ≡ true → IsUtf8 text → Reached (config_for delimiter has_quotes) s text records s2 rest
      → All AllText records × (is_readable s2 ≡ true) × IsUtf8 rest
  unfolding Reached
  reached_is_text [] s s2 text rest read utf8 reached = (All-nil AllText, subst (λ (x : State). is_readable x ≡ true) reached.0 read, subst IsUtf8 reached.1 utf8)
  reached_is_text (fields ∷ records) s s2 text rest read utf8 (next, found, is, more) =
      let first = next_is_text text s [] [] next read no_fields utf8 found in
      let others = reached_is_text records next.1 s2 next.2 rest first.outside first.rest more in
      (All-cons AllText fields records (subst AllText (sym is) first.fields) others.0, others.1, others.2)

-- a record that is read from UTF-8 is UTF-8 if the delimiter is ASCII
pub text_read : (delimiter : ℕ) (has_quotes : Bool) → delimiter < 128 → (input : Text) (before : List (List Text)) (s : State) (rest : Text) (next : FoundRecord) → IsUtf8 input → Reached (config_for delimiter has_quotes) st.StartRecord (strip_bom input) before s rest
    → next_record (config_for delimiter has_quotes) s [] [] rest ≡ Some next → AllText next.0
text_read delimiter has_quotes ascii input before s rest next utf8 reached found =
    let there = reached_is_text delimiter has_quotes ascii before st.StartRecord s (strip_bom input) rest refl (without_bom input utf8) reached in
    (next_is_text delimiter has_quotes ascii rest s [] [] next there.1 no_fields there.2 found).fields
