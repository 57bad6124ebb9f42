-- Summaries of columns with one field and one record more.
use Rattle.std.proofs.Common.{◌≡◌, ◌≢◌, ◌<◌, ◌==◌, ◌&&◌, ◌||◌, ℕ, Bool, true, false, zero, suc, List, [], ◌∷◌, ◌++◌, Option, None, Some, append_assoc, append-nil, eqb-true, length, nat_le, take, unwrap_or, arith, refl, sym, ap, ap₂, ◌∙◌}
use Rattle.std.proofs.lemmas.Bool.{eqb-false}
use Rattle.std.specs.List.{list_all, list_any, slice_index_or}
use Rattle.std.specs.Prelude.{if◌then◌else◌}
use Rattle.std.proofs.lemmas.List.Elements.{filter_map-append}
use Rattle.std.proofs.lemmas.List.Folds.{list_all-append, list_any-append}
use Rattle.std.specs.Str.{chars}
use Rattle.comfy_parts.specs.Text.{Text}
use Rattle.csv.specs.Records.{field_at}
use Rattle.csv_records.proofs.DecimalLemmas.{empty_is_plain, empty_says_nothing as marks_stay}
use Rattle.csv_records.proofs.FieldNumberLemmas.{bare_characters, bare_is_printable}
use Rattle.csv_records.specs.Cleaning.{visible_of}
use Rattle.csv_records.specs.Decimals.{is_plain, marks_of}
use Rattle.csv_records.specs.Number.{has_indian_groups, is_neutral, is_number, is_written}
use Rattle.csv_records.specs.declared.decimals.ColumnMarks.{ColumnMarks}
use Rattle.csv_tables.proofs.ColumnLemmas.{seen_at}
use Rattle.csv_tables.specs.Columns.{seen}
use Rattle.csv_tables.specs.Decimals.{is_narrow, narrow_marks}
use Rattle.csv_tables.specs.Fields.{field_or_blank}
use Rattle.csv_tables.specs.Kinds.{column_kind, is_number_kind, is_other_kind, joined_kind, kind_of}
use Rattle.csv_tables.specs.Summaries.{AreSummaries, column_fields, summary_of}
use Rattle.csv_tables.specs.NoWrap.{is_nowrap}
use Rattle.csv_tables.specs.declared.summary.ColumnSummary.{ColumnSummary}
use Rattle.csv_tables.specs.declared.summary.FieldKind.{FieldKind}
use Rattle.csv_tables.specs.declared.summary.FieldKind.TheVariants.{Neutral, Number, Other}

-- ---- fields of one record

blank_at : (fields : List Text) (k : ℕ) → field_or_blank fields k ≡ slice_index_or fields k []
unfolding field_at
blank_at [] k = refl
blank_at (f ∷ fs) zero = refl
blank_at (f ∷ fs) (suc k) = blank_at fs k

-- the visible text of the field at a position
pub seen_here : (keeps : Bool) (fields : List Text) (k : ℕ) (field : Text) → slice_index_or fields k [] ≡ field → field_or_blank (seen keeps fields) k ≡ visible_of keeps field
seen_here keeps fields k field is = seen_at keeps fields k ∙ ap (visible_of keeps) (blank_at fields k ∙ is)

-- the field at a position as a list, which is empty if it is missing
abbrev pub field_there : List Text → ℕ → List Text
field_there fields position = column_fields (fields ∷ []) position

-- before its position a field isn't there
none_yet : (fields : List Text) (k : ℕ) → field_there (take k fields) k ≡ []
unfolding field_at
none_yet [] zero = refl
none_yet [] (suc k) = refl
none_yet (f ∷ fs) zero = refl
none_yet (f ∷ fs) (suc k) = none_yet fs k

-- after its position it is there
then_there : (fields : List Text) (k : ℕ) → k < length fields → field_there (take (suc k) fields) k ≡ field_or_blank fields k ∷ []
unfolding field_at
then_there [] k below = absurd (omega (arith, below))
then_there (f ∷ fs) zero below = refl
then_there (f ∷ fs) (suc k) below = then_there fs k (omega (arith, below))

-- at any other position nothing changes
same_there : (fields : List Text) (k at : ℕ) → k ≢ at → field_there (take (suc k) fields) at ≡ field_there (take k fields) at
unfolding field_at
same_there [] zero at other = refl
same_there [] (suc k) at other = refl
same_there (f ∷ fs) zero zero other = absurd (other refl)
same_there (f ∷ fs) zero (suc at) other = refl
same_there (f ∷ fs) (suc k) zero other = refl
same_there (f ∷ fs) (suc k) (suc at) other = same_there fs k at (λ same. other (ap suc same))

pub one_more : (rows : List (List Text)) (fields : List Text) (position : ℕ) → column_fields (rows ++ fields ∷ []) position ≡ column_fields rows position ++ field_there fields position
one_more rows fields position = filter_map-append (λ (fs : List Text). field_at fs position) rows (fields ∷ [])

-- ---- summaries

module _ (rows : List (List Text)) (fields : List Text) (summaries : List ColumnSummary) where
  -- a record without fields changes no summary
  pub no_field : AreSummaries rows summaries → AreSummaries (rows ++ [] ∷ []) summaries
  unfolding field_at
  no_field so position = so position ∙ ap summary_of (sym (one_more rows [] position ∙ append-nil (column_fields rows position)))

  module _ (k : ℕ) (so : AreSummaries (rows ++ take k fields ∷ []) summaries) where
    -- the summary at a position
    pub known_at : slice_index_or summaries k (summary_of []) ≡ summary_of (column_fields rows k)
    known_at =
        so k ∙ ap summary_of (one_more rows (take k fields) k ∙ ap (λ fs. column_fields rows k ++ fs) (none_yet fields k) ∙ append-nil (column_fields rows k))

    -- the summary with the field at this position
    module _ (more : List ColumnSummary) (value : ColumnSummary) (below : k < length fields) (is : value ≡ summary_of (column_fields rows k ++ field_or_blank fields k ∷ []))
        (put : (at : ℕ) → slice_index_or more at (summary_of []) ≡ if k == at then value else slice_index_or summaries at (summary_of [])) where
      pub next_field : AreSummaries (rows ++ take (suc k) fields ∷ []) more
      next_field at = by_test (k == at) refl
        where
          whole : column_fields (rows ++ take (suc k) fields ∷ []) at ≡ column_fields rows at ++ field_there (take (suc k) fields) at
          whole = one_more rows (take (suc k) fields) at

          by_test : (b : Bool) → (k == at) ≡ b → slice_index_or more at (summary_of []) ≡ summary_of (column_fields (rows ++ take (suc k) fields ∷ []) at)
          by_test false other =
              put at ∙ ap (λ (b : Bool). if b then value else slice_index_or summaries at (summary_of [])) other ∙ so at
              ∙ ap summary_of (one_more rows (take k fields) at ∙ ap (λ fs. column_fields rows at ++ fs) (sym (same_there fields k at (eqb-false k at other))) ∙ sym whole)
          by_test true same =
              let here : k ≡ at = eqb-true k at same in
              let there : (p : ℕ) → k ≡ p → field_there (take (suc k) fields) p ≡ field_or_blank fields k ∷ [] = λ p here. rw (sym here) (then_there fields k below) in
              put at ∙ ap (λ (b : Bool). if b then value else slice_index_or summaries at (summary_of [])) same ∙ is
              ∙ ap (λ (p : ℕ). summary_of (column_fields rows p ++ field_or_blank fields k ∷ [])) here
              ∙ ap summary_of (ap (λ fs. column_fields rows at ++ fs) (sym (there at here)) ∙ sym whole)

-- ---- records

-- summaries of the records before `rest`
pub record AreSummariesUntil (all rest : List (List Text)) (summaries : List ColumnSummary) : Type 0 where
  pub done : List (List Text)
  pub whole : done ++ rest ≡ all
  pub so : AreSummaries done summaries

pub next_record : (all rest : List (List Text)) (fields : List Text) (summaries more : List ColumnSummary)
    → AreSummariesUntil all (fields ∷ rest) summaries
    → ((rows : List (List Text)) → AreSummaries rows summaries → AreSummaries (rows ++ fields ∷ []) more)
    → AreSummariesUntil all rest more
next_record all rest fields summaries more until gives =
    record { done = until.done ++ fields ∷ []; whole = append_assoc until.done (fields ∷ []) rest ∙ until.whole; so = gives until.done until.so }

pub all_records : (all : List (List Text)) (summaries : List ColumnSummary) → AreSummariesUntil all [] summaries → AreSummaries all summaries
all_records all summaries until position = until.so position ∙ ap (λ rows. summary_of (column_fields rows position)) (sym (append-nil until.done) ∙ until.whole)

-- ---- one field more

same_summary : (m n : ColumnSummary) → m.kind ≡ n.kind → m.marks ≡ n.marks → m.are_nowrap ≡ n.are_nowrap → m ≡ n
same_summary m n kind marks unbroken = ap (λ (k : FieldKind). made_of k m.marks m.are_nowrap) kind ∙ ap₂ (made_of n.kind) marks unbroken
  where
    made_of : FieldKind → Option ColumnMarks → Bool → ColumnSummary
    made_of kind marks are_nowrap = record { kind = kind; marks = marks; are_nowrap = are_nowrap }

module _ (fields : List Text) (field : Text) where
  all_with : (p : Text → Bool) (b : Bool) → p field ≡ b → list_all p (fields ++ field ∷ []) ≡ list_all p fields && b
  all_with p b is = list_all-append p fields (field ∷ []) ∙ rw is (by_last b)
    where
      by_last : (b : Bool) → (list_all p fields && (b && true)) ≡ list_all p fields && b
      by_last true = refl
      by_last false = refl

  any_with : (p : Text → Bool) (b : Bool) → p field ≡ b → list_any p (fields ++ field ∷ []) ≡ list_any p fields || b
  any_with p b is = list_any-append p fields (field ∷ []) ∙ rw is (by_last b)
    where
      by_last : (b : Bool) → (list_any p fields || (b || false)) ≡ list_any p fields || b
      by_last true = refl
      by_last false = refl

-- ---- empty fields

and_true : (b : Bool) → (b && true) ≡ b
and_true true = refl
and_true false = refl

or_false : (b : Bool) → (b || false) ≡ b
or_false true = refl
or_false false = refl

empty_kind : kind_of [] ≡ Neutral
unfolding chars is_neutral is_number has_indian_groups
empty_kind = refl

empty_unbroken : is_nowrap [] ≡ true
unfolding chars
empty_unbroken = refl

pub empty_says_nothing : (fields : List Text) (field : Text) → length field ≡ 0 → summary_of fields ≡ summary_of (fields ++ field ∷ [])
empty_says_nothing fields (b ∷ bs) none = absurd (omega (arith, none))
empty_says_nothing fields [] none = same_summary (summary_of fields) (summary_of (fields ++ [] ∷ [])) (sym kinds) (sym marks) (sym unbroken)
  where
    kinds : column_kind (fields ++ [] ∷ []) ≡ column_kind fields
    kinds =
        let others = any_with fields [] (λ f. is_other_kind (kind_of f)) false (ap is_other_kind empty_kind) ∙ or_false (list_any (λ f. is_other_kind (kind_of f)) fields) in
        let numbers = any_with fields [] (λ f. is_number_kind (kind_of f)) false (ap is_number_kind empty_kind) ∙ or_false (list_any (λ f. is_number_kind (kind_of f)) fields) in
        rw (others, numbers) refl

    marks : narrow_marks (fields ++ [] ∷ []) ≡ narrow_marks fields
    marks =
        let narrow = all_with fields [] is_narrow true refl ∙ and_true (list_all is_narrow fields) in
        let plain = all_with fields [] is_plain true empty_is_plain ∙ and_true (list_all is_plain fields) in
        ap₂ (λ (n p : Bool). if n && p then Some (marks_of (fields ++ [] ∷ [])) else None) narrow plain
        ∙ ap (λ (m : ColumnMarks). if list_all is_narrow fields && list_all is_plain fields then Some m else None) (sym (marks_stay fields))

    unbroken : list_all is_nowrap (fields ++ [] ∷ []) ≡ list_all is_nowrap fields
    unbroken = all_with fields [] is_nowrap true empty_unbroken ∙ and_true (list_all is_nowrap fields)

-- ---- columns that aren't of numbers

-- a field that is neither a number nor neutral isn't plain
other_is_not_plain : (field : Text) → is_other_kind (kind_of field) ≡ true → is_plain field ≡ false
other_is_not_plain field other = by_tests (is_number field) refl (is_neutral field) refl
  where
    by_tests : (a : Bool) → is_number field ≡ a → (b : Bool) → is_neutral field ≡ b → is_plain field ≡ false
    by_tests true number b neutral = absurd (cc (sym other ∙ ap (λ (t : Bool). is_other_kind (if t then Number else if is_neutral field then Neutral else Other)) number))
    by_tests false number true neutral =
        absurd (cc (sym other ∙ ap₂ (λ (t u : Bool). is_other_kind (if t then Number else if u then Neutral else Other)) number neutral))
    by_tests false number false neutral = rw (neutral, number) refl

other_has_no_marks : (fields : List Text) → list_any (λ f. is_other_kind (kind_of f)) fields ≡ true → list_all is_plain fields ≡ false
other_has_no_marks [] any = absurd (cc any)
other_has_no_marks (field ∷ fields) any = by_first (is_other_kind (kind_of field)) refl any (other_has_no_marks fields)
  where
    by_first : (t : Bool) → is_other_kind (kind_of field) ≡ t → (t || list_any (λ f. is_other_kind (kind_of f)) fields) ≡ true
        → (list_any (λ f. is_other_kind (kind_of f)) fields ≡ true → list_all is_plain fields ≡ false) → list_all is_plain (field ∷ fields) ≡ false
    by_first true other some more = ap (λ (b : Bool). b && list_all is_plain fields) (other_is_not_plain field other)
    by_first false other some more = ap (λ (b : Bool). is_plain field && b) (more some) ∙ by_plain (is_plain field)
      where
        by_plain : (b : Bool) → (b && false) ≡ false
        by_plain true = refl
        by_plain false = refl

no_marks : (fields : List Text) → list_all is_plain fields ≡ false → narrow_marks fields ≡ None
no_marks fields none = by_narrow (list_all is_narrow fields) (list_all is_plain fields) none
  where
    by_narrow : (n p : Bool) → p ≡ false → (if n && p then Some (marks_of fields) else None) ≡ None
    by_narrow true false is = refl
    by_narrow false p is = refl
    by_narrow true true is = absurd (cc is)

pub other_stays : (fields : List Text) (field : Text) (had made : ColumnSummary) → is_other_kind had.kind ≡ true → had ≡ summary_of fields
    → made.kind ≡ had.kind → made.marks ≡ had.marks → made.are_nowrap ≡ (had.are_nowrap && is_nowrap field)
    → made ≡ summary_of (fields ++ field ∷ [])
other_stays fields field had made other same kind marks unbroken =
    same_summary made (summary_of (fields ++ field ∷ []))
    (kind ∙ ap (λ (s : ColumnSummary). s.kind) same ∙ is_other ∙ sym (ap (λ (b : Bool). if b then Other else if list_any (λ f. is_number_kind (kind_of f)) (fields ++ field ∷ []) then Number else Neutral) (list_any-append _ fields (field ∷ []) ∙ ap (λ (b : Bool). b || list_any (λ f. is_other_kind (kind_of f)) (field ∷ [])) any)))
    (marks ∙ ap (λ (s : ColumnSummary). s.marks) same ∙ no_marks fields (other_has_no_marks fields any) ∙ sym (no_marks (fields ++ field ∷ []) (list_all-append is_plain fields (field ∷ []) ∙ ap (λ (b : Bool). b && list_all is_plain (field ∷ [])) (other_has_no_marks fields any))))
    (unbroken ∙ ap (λ (s : ColumnSummary). s.are_nowrap && is_nowrap field) same ∙ sym (all_with fields field is_nowrap (is_nowrap field) refl))
  where
    any : list_any (λ f. is_other_kind (kind_of f)) fields ≡ true
    any = by_tests (list_any (λ f. is_other_kind (kind_of f)) fields) (list_any (λ f. is_number_kind (kind_of f)) fields) (sym (ap (λ (s : ColumnSummary). is_other_kind s.kind) same) ∙ other)
      where
        by_tests : (a b : Bool) → is_other_kind (if a then Other else if b then Number else Neutral) ≡ true → a ≡ true
        by_tests true b is = refl
        by_tests false true is = absurd (cc is)
        by_tests false false is = absurd (cc is)

    is_other : column_kind fields ≡ Other
    is_other = rw any refl

-- ---- fields of digits and marks alone

pub bare_is_narrow : (field : Text) → list_all is_written field ≡ true → nat_le (length (chars field)) 25 ≡ is_narrow field
bare_is_narrow field bare = rw (bare_characters field bare, bare_is_printable field bare) (sym (and_true (nat_le (length field) 25)))

-- ---- fields of numbers

module _ (fields : List Text) (field : Text) where
  kind_with : joined_kind (column_kind fields) (kind_of field) ≡ column_kind (fields ++ field ∷ [])
  kind_with =
      let others = any_with fields field (λ f. is_other_kind (kind_of f)) (is_other_kind (kind_of field)) refl in
      let numbers = any_with fields field (λ f. is_number_kind (kind_of f)) (is_number_kind (kind_of field)) refl in
      by_cases (list_any (λ f. is_other_kind (kind_of f)) fields) (list_any (λ f. is_number_kind (kind_of f)) fields) (kind_of field)
      ∙ sym (ap₂ (λ (a b : Bool). if a then Other else if b then Number else Neutral) others numbers)
    where
      by_cases : (a b : Bool) (k : FieldKind) → joined_kind (if a then Other else if b then Number else Neutral) k ≡ (if a || is_other_kind k then Other else if b || is_number_kind k then Number else Neutral)
      by_cases true b k = refl
      by_cases false true Number = refl
      by_cases false true Neutral = refl
      by_cases false true Other = refl
      by_cases false false Number = refl
      by_cases false false Neutral = refl
      by_cases false false Other = refl

  pub number_more : (had made : ColumnSummary) → had ≡ summary_of fields → made.kind ≡ joined_kind had.kind (kind_of field)
      → made.marks ≡ narrow_marks (fields ++ field ∷ []) → made.are_nowrap ≡ (had.are_nowrap && is_nowrap field)
      → made ≡ summary_of (fields ++ field ∷ [])
  number_more had made same kind marks unbroken =
      same_summary made (summary_of (fields ++ field ∷ []))
      (kind ∙ ap (λ (s : ColumnSummary). joined_kind s.kind (kind_of field)) same ∙ kind_with) marks
      (unbroken ∙ ap (λ (s : ColumnSummary). s.are_nowrap && is_nowrap field) same ∙ sym (all_with fields field is_nowrap (is_nowrap field) refl))

  -- a wide field, after which the column has no marks
  pub wide_field : is_narrow field ≡ false → narrow_marks (fields ++ field ∷ []) ≡ None
  wide_field wide = rw (all_with fields field is_narrow false wide) (by_cases (list_all is_narrow fields) (list_all is_plain (fields ++ field ∷ [])))
    where
      by_cases : (n p : Bool) → (if (n && false) && p then Some (marks_of (fields ++ field ∷ [])) else None) ≡ None
      by_cases true p = refl
      by_cases false p = refl

  pub other_field : (made : ColumnMarks) → made ≡ marks_of (fields ++ field ∷ []) → made.are_plain ≡ false → narrow_marks (fields ++ field ∷ []) ≡ None
  other_field made same other = no_marks (fields ++ field ∷ []) (sym (ap (λ (m : ColumnMarks). m.are_plain) same) ∙ other)

  pub none_before : narrow_marks fields ≡ None → narrow_marks (fields ++ field ∷ []) ≡ None
  none_before none =
      ap₂ (λ (n p : Bool). if n && p then Some (marks_of (fields ++ field ∷ [])) else None) (all_with fields field is_narrow (is_narrow field) refl) (all_with fields field is_plain (is_plain field) refl)
      ∙ by_cases (list_all is_narrow fields) (list_all is_plain fields) none (is_narrow field) (is_plain field)
    where
      by_cases : (n p : Bool) → (if n && p then Some (marks_of fields) else None) ≡ None → (m q : Bool)
          → (if (n && m) && (p && q) then Some (marks_of (fields ++ field ∷ [])) else None) ≡ None
      by_cases true true is m q = absurd (cc is)
      by_cases false p is m q = refl
      by_cases true false is true q = refl
      by_cases true false is false q = refl

-- the marks of a column that still has some
pub known_marks : (fields : List Text) (known : ColumnMarks) → narrow_marks fields ≡ Some known → known ≡ marks_of fields
known_marks fields known is = by_test (list_all is_narrow fields && list_all is_plain fields) is
  where
    by_test : (t : Bool) → (if t then Some (marks_of fields) else None) ≡ Some known → known ≡ marks_of fields
    by_test true is = sym (ap (λ o. unwrap_or o known) is)
    by_test false is = absurd (cc is)
