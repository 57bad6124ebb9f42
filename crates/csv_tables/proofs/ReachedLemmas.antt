-- The columns that records reach: those up to the last one whose field a record has.
use Rattle.std.proofs.Common.{◌≡◌, ◌<◌, ◌≤◌, ◌-◌, ℕ, Bool, true, false, ◌||◌, zero, suc, ◌^◌, List, [], ◌∷◌, ◌++◌, ◌⊎◌, inl, inr, Option, Some, None, drop, length, map, min, nat_lt, take, arith, refl, sym, ap, ◌∙◌}
use Rattle.std.specs.List.{list_any, slice_get, slice_index_or}
use Rattle.std.specs.Prelude.{if◌then◌else◌, option_map}
use Rattle.std.proofs.lemmas.Bool.{or_parts}
use Rattle.comfy_parts.specs.Text.{Text}
use Rattle.csv.specs.Records.{field_at}
use Rattle.csv_tables.specs.Cells.{has_field, held, columns_within, Shown, shown_fields, shown_in, text_in}
use Rattle.csv_tables.specs.Fields.{field_or_blank}
use Rattle.std.specs.List.{All}
use Rattle.std.proofs.lemmas.List.Elements.{All-cons, All-head, All-nil, All-tail}
use Rattle.csv_tables.proofs.SpacedLemmas.{blank_text}
use Rattle.csv_tables.specs.declared.options.Look.{Look}
use Rattle.csv_tables.specs.Leasts.{least_position, least_positions}
use Rattle.csv_tables.specs.declared.options.ColumnPlan.{ColumnPlan}

-- a placeholder for a missing column
abbrev pub no_column : ColumnPlan
no_column = record { position = 0; alignment = None; points = None; is_nowrap = false }

-- a property of all columns is one of those that are reached
pub All-reached : (P : ColumnPlan → Type 0) (fields : List Text) (columns : List ColumnPlan) → All P columns → All P (columns_within fields columns)
All-reached P fields [] each = each
All-reached P fields (column ∷ columns) each = by_any (list_any (has_field fields) (column ∷ columns)) refl (All-reached P fields columns (All-tail P column columns each))
  where
    by_any : (b : Bool) → list_any (has_field fields) (column ∷ columns) ≡ b → All P (columns_within fields columns) → All P (columns_within fields (column ∷ columns))
    by_any true is rest = rw is (All-cons P column (columns_within fields columns) (All-head P column columns each) rest)
    by_any false is rest = rw is (All-nil P)

module _ (fields : List Text) where
  -- the record has the field of no column
  none-held : (columns : List ColumnPlan) → list_any (has_field fields) columns ≡ false → held fields columns ≡ []
  none-held [] none = refl
  none-held (column ∷ columns) none =
      let parts = or_parts (has_field fields column) (list_any (has_field fields) columns) none in
      rw parts.0 (none-held columns parts.1)

  -- the record has no field of the columns after those that it reaches
  pub held-reached : (columns : List ColumnPlan) → held fields (columns_within fields columns) ≡ held fields columns
  held-reached [] = refl
  held-reached (column ∷ columns) = by_any (list_any (has_field fields) (column ∷ columns)) refl (held-reached columns)
    where
      by_any : (b : Bool) → list_any (has_field fields) (column ∷ columns) ≡ b → held fields (columns_within fields columns) ≡ held fields columns → held fields (columns_within fields (column ∷ columns)) ≡ held fields (column ∷ columns)
      by_any true is rest = rw is (ap (λ rest. if has_field fields column then column ∷ rest else rest) rest)
      by_any false is rest = rw is (sym (none-held (column ∷ columns) is))

  -- at most all columns are reached
  pub reached-length : (columns : List ColumnPlan) → length (columns_within fields columns) ≤ length columns
  reached-length [] = omega arith
  reached-length (column ∷ columns) = by_any (list_any (has_field fields) (column ∷ columns)) refl (reached-length columns)
    where
      by_any : (b : Bool) → list_any (has_field fields) (column ∷ columns) ≡ b → length (columns_within fields columns) ≤ length columns → length (columns_within fields (column ∷ columns)) ≤ length (column ∷ columns)
      by_any true is rest = rw is (omega (arith, rest))
      by_any false is rest = rw is (omega arith)

  -- the least position shows whether the record has the field of a column
  module _ (short : length fields < 2 ^ 64) where
    pub held-by_least : (columns : List ColumnPlan) → list_any (has_field fields) columns ≡ nat_lt (least_position columns) (length fields)
    held-by_least [] = grind (arith, short)
    held-by_least (column ∷ columns) = ap (λ b. nat_lt column.position (length fields) || b) (held-by_least columns) ∙ either column.position (least_position columns) (length fields)
      where
        either : (a b n : ℕ) → (nat_lt a n || nat_lt b n) ≡ nat_lt (min a b) n
        either a b n = grind arith

-- the least position of the columns from place k on
pub least-at : (columns : List ColumnPlan) (k : ℕ) → k < length columns → slice_index_or (least_positions columns) k 0 ≡ least_position (drop k columns)
least-at [] k below = absurd (omega arith)
least-at (column ∷ columns) zero below = refl
least-at (column ∷ columns) (suc k) below = least-at columns k (omega arith)

pub leasts-length : (columns : List ColumnPlan) → length (least_positions columns) ≡ length columns
leasts-length [] = refl
leasts-length (column ∷ columns) = ap suc (leasts-length columns)

module _ (fields : List Text) where
  -- without a field, no column is reached
  pub none-reached : (columns : List ColumnPlan) → list_any (has_field fields) columns ≡ false → columns_within fields columns ≡ []
  none-reached [] none = refl
  none-reached (column ∷ columns) none = rw none refl

  -- if the record has the field of a column from place k on, it reaches the column at place k
  pub reached-more : (columns : List ColumnPlan) (k : ℕ) → k < length columns → list_any (has_field fields) (drop k columns) ≡ true
      → take k columns ++ columns_within fields (drop k columns) ≡ take (suc k) columns ++ columns_within fields (drop (suc k) columns)
  reached-more [] k below some = absurd (omega arith)
  reached-more (column ∷ columns) zero below some = rw some refl
  reached-more (column ∷ columns) (suc k) below some = ap (λ rest. column ∷ rest) (reached-more columns k (omega arith) some)

-- ---- cells at places

pub mapped_at : {A B : Type 0} (f : A → B) (xs : List A) (k : ℕ) (x : A) → slice_get xs k ≡ Some x → slice_get (map f xs) k ≡ Some (f x)
mapped_at f [] k x found = absurd (cc found)
mapped_at f (y ∷ ys) zero x found = ap (option_map f) found
mapped_at f (y ∷ ys) (suc k) x found = mapped_at f ys k x found

pub unmapped_at : {A B : Type 0} (f : A → B) (xs : List A) (k : ℕ) → slice_get xs k ≡ None → slice_get (map f xs) k ≡ None
unmapped_at f [] k none = refl
unmapped_at f (y ∷ ys) zero none = absurd (cc none)
unmapped_at f (y ∷ ys) (suc k) none = unmapped_at f ys k none

-- a missing field is blank
pub no_field : (fields : List Text) (position : ℕ) → nat_lt position (length fields) ≡ false → field_or_blank fields position ≡ []
unfolding field_at
no_field [] position none = refl
no_field (field ∷ fields) zero none = absurd (let all : nat_lt 0 (length (field ∷ fields)) ≡ true = grind arith in cc (all, none))
no_field (field ∷ fields) (suc position) none = no_field fields position (grind (arith, none))

-- a column is reached, or its field is blank
pub reached-at : (fields : List Text) (columns : List ColumnPlan) (k : ℕ) (d : ColumnPlan) → slice_get columns k ≡ Some d
    → (slice_get (columns_within fields columns) k ≡ Some d) ⊎ ((slice_get (columns_within fields columns) k ≡ None) × (field_or_blank fields d.position ≡ []))
reached-at fields [] k d found = absurd (cc found)
reached-at fields (column ∷ columns) zero d found = by_any (list_any (has_field fields) (column ∷ columns)) refl
  where
    by_any : (b : Bool) → list_any (has_field fields) (column ∷ columns) ≡ b
        → (slice_get (columns_within fields (column ∷ columns)) 0 ≡ Some d) ⊎ ((slice_get (columns_within fields (column ∷ columns)) 0 ≡ None) × (field_or_blank fields d.position ≡ []))
    by_any true is = rw is (inl found)
    by_any false is =
        let parts = or_parts (has_field fields column) (list_any (has_field fields) columns) is in
        let same : column ≡ d = cc found in
        rw is (inr (refl, no_field fields d.position (ap (has_field fields) (sym same) ∙ parts.0)))
reached-at fields (column ∷ columns) (suc k) d found = by_any (list_any (has_field fields) (column ∷ columns)) refl (reached-at fields columns k d found) (after columns k found)
  where
    -- the columns after those that are reached have no field
    after : (columns : List ColumnPlan) (k : ℕ) → slice_get columns k ≡ Some d → list_any (has_field fields) columns ≡ false → has_field fields d ≡ false
    after [] k found none = absurd (cc found)
    after (column ∷ columns) zero found none =
        let parts = or_parts (has_field fields column) (list_any (has_field fields) columns) none in
        let same : column ≡ d = cc found in ap (has_field fields) (sym same) ∙ parts.0
    after (column ∷ columns) (suc k) found none =
        let parts = or_parts (has_field fields column) (list_any (has_field fields) columns) none in after columns k found parts.1

    by_any : (b : Bool) → list_any (has_field fields) (column ∷ columns) ≡ b
        → (slice_get (columns_within fields columns) k ≡ Some d) ⊎ ((slice_get (columns_within fields columns) k ≡ None) × (field_or_blank fields d.position ≡ []))
        → (list_any (has_field fields) columns ≡ false → has_field fields d ≡ false)
        → (slice_get (columns_within fields (column ∷ columns)) (suc k) ≡ Some d) ⊎ ((slice_get (columns_within fields (column ∷ columns)) (suc k) ≡ None) × (field_or_blank fields d.position ≡ []))
    by_any true is rest none = rw is rest
    by_any false is rest none =
        let parts = or_parts (has_field fields column) (list_any (has_field fields) columns) is in
        rw is (inr (refl, no_field fields d.position (none parts.1)))

-- the text that a column shows of a record, and its alignment
abbrev show : Look → Bool → List Text → ColumnPlan → Shown
show look is_aligned fields column = record { alignment = column.alignment; text = text_in look is_aligned column fields }

-- a text at a place of a list, or a blank one after its end
abbrev pub IsAt : List Shown → ℕ → Shown → Type 0
IsAt shown k d = (slice_get shown k ≡ Some d) ⊎ ((slice_get shown k ≡ None) × (d.text ≡ []))

-- a text that a row shows has a cell, or is blank
pub shown-at : (look : Look) (is_aligned is_numbered : Bool) (columns : List ColumnPlan) (row : ℕ × List Text) (k : ℕ) (d : Shown) → slice_get (shown_in look is_aligned is_numbered columns row) k ≡ Some d
    → IsAt (shown_in look is_aligned is_numbered (columns_within row.1 columns) row) k d
shown-at look is_aligned true columns row zero d found = inl found
shown-at look is_aligned true columns row (suc k) d found = shown-at look is_aligned false columns row k d found
shown-at look is_aligned false columns row k d found = by_column (slice_get columns k) refl
  where
    by_reached : (column : ColumnPlan) → show look is_aligned row.1 column ≡ d → (slice_get (columns_within row.1 columns) k ≡ Some column) ⊎ ((slice_get (columns_within row.1 columns) k ≡ None) × (field_or_blank row.1 column.position ≡ []))
        → IsAt (shown_fields look is_aligned (columns_within row.1 columns) row.1) k d
    by_reached column same (inl some) = inl (mapped_at (show look is_aligned row.1) (columns_within row.1 columns) k column some ∙ ap (λ (s : Shown). Some s) same)
    by_reached column same (inr (none, blank)) = inr (unmapped_at (show look is_aligned row.1) (columns_within row.1 columns) k none, ap (λ (s : Shown). s.text) (sym same) ∙ blank_text look is_aligned column row.1 blank)

    by_column : (o : Option ColumnPlan) → slice_get columns k ≡ o → IsAt (shown_fields look is_aligned (columns_within row.1 columns) row.1) k d
    by_column None none = absurd (let gone : ◌≡◌ {A = Option Shown} None (Some d) = sym (unmapped_at (show look is_aligned row.1) columns k none) ∙ found in cc gone)
    by_column (Some column) some =
        let both : Some (show look is_aligned row.1 column) ≡ Some d = sym (mapped_at (show look is_aligned row.1) columns k column some) ∙ found in
        let same : show look is_aligned row.1 column ≡ d = cc both in
        by_reached column same (reached-at row.1 columns k column some)

-- a record that has the field of the last column reaches all columns
any_at : (fields : List Text) (columns : List ColumnPlan) (i : ℕ) (column : ColumnPlan) → slice_get columns i ≡ Some column → has_field fields column ≡ true → list_any (has_field fields) columns ≡ true
any_at fields [] i column is own = absurd (cc is)
any_at fields (first ∷ columns) zero column is own =
    let same : first ≡ column = cc is in
    ap (λ (c : ColumnPlan). has_field fields c || list_any (has_field fields) columns) same ∙ ap (λ b. b || list_any (has_field fields) columns) own
any_at fields (first ∷ columns) (suc i) column is own = by_first (has_field fields first) (any_at fields columns i column is own)
  where
    by_first : (b : Bool) → list_any (has_field fields) columns ≡ true → (b || list_any (has_field fields) columns) ≡ true
    by_first true rest = refl
    by_first false rest = rest

pub last-reached : (fields : List Text) (columns : List ColumnPlan) (last : ColumnPlan) → slice_get columns (length columns - 1) ≡ Some last → has_field fields last ≡ true → columns_within fields columns ≡ columns
last-reached fields [] last is own = refl
last-reached fields (column ∷ []) last is own = rw (any_at fields (column ∷ []) 0 last is own) refl
last-reached fields (column ∷ (other ∷ columns)) last is own =
    let before : length (column ∷ other ∷ columns) - 1 ≡ suc (length (other ∷ columns) - 1) = omega arith in
    let rest : slice_get (other ∷ columns) (length (other ∷ columns) - 1) ≡ Some last = sym (ap (slice_get (column ∷ other ∷ columns)) before) ∙ is in
    rw (any_at fields (column ∷ other ∷ columns) (length (column ∷ other ∷ columns) - 1) last is own)
    (ap (λ (more : List ColumnPlan). column ∷ more) (last-reached fields (other ∷ columns) last rest own))

-- a column that is reached has the same place among all columns
pub own_place : (fields : List Text) (columns : List ColumnPlan) (k : ℕ) (own : ColumnPlan) → slice_get (columns_within fields columns) k ≡ Some own → slice_get columns k ≡ Some own
own_place fields [] k own is = absurd (cc is)
own_place fields (column ∷ columns) zero own is = by_any (list_any (has_field fields) (column ∷ columns)) is
  where
    by_any : (b : Bool) → slice_get (if b then column ∷ columns_within fields columns else []) 0 ≡ Some own → Some column ≡ Some own
    by_any true found = found
    by_any false found = absurd (cc found)
own_place fields (column ∷ columns) (suc k) own is = by_any (list_any (has_field fields) (column ∷ columns)) is (own_place fields columns k own)
  where
    by_any : (b : Bool) → slice_get (if b then column ∷ columns_within fields columns else []) (suc k) ≡ Some own → (slice_get (columns_within fields columns) k ≡ Some own → slice_get columns k ≡ Some own) → slice_get columns k ≡ Some own
    by_any true found rest = rest found
    by_any false found rest = absurd (cc found)
