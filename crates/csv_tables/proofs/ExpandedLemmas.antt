-- The rows of expanded records, record by record.
use Rattle.std.proofs.Common.{◌≡◌, ◌<◌, ◌≤◌, ℕ, Bool, true, false, zero, suc, List, [], ◌∷◌, ◌++◌, Some, None, cond, drop, length, map, nat_lt, arith, ap, ◌∙◌}
use Rattle.std.proofs.lemmas.List.{map-append}
use Rattle.std.proofs.lemmas.List.Elements.{filter-append}
use Rattle.std.specs.List.{slice_index_or}
use Rattle.comfy_parts.specs.CellValue.{RowValue}
use Rattle.comfy_parts.specs.Text.{Text}
use Rattle.csv.specs.Records.{field_at}
use Rattle.csv_tables.specs.Cells.{has_field, held, pair_for}
use Rattle.csv_tables.specs.Fields.{field_or_blank}
use Rattle.csv_tables.specs.Columns.{name_at}
use Rattle.csv_tables.specs.Drawn.{pairs_of}
use Rattle.csv_tables.specs.declared.options.ColumnPlan.{ColumnPlan}
use Rattle.csv_tables.specs.declared.options.Look.{Look}

-- a record has a field at this position
pub has-some : (fields : List Text) (position : ℕ) (field : Text) → Some field ≡ field_at fields position → (nat_lt position (length fields) ≡ true) × (field_or_blank fields position ≡ field)
unfolding field_at
has-some [] position field is = absurd (cc is)
has-some (f ∷ fs) zero field is = (grind arith, cc is)
has-some (f ∷ fs) (suc position) field is = let rest = has-some fs position field is in (grind (arith, rest.0), rest.1)

-- a record has no field at this position
pub has-none : (fields : List Text) (position : ℕ) → None ≡ field_at fields position → nat_lt position (length fields) ≡ false
unfolding field_at
has-none [] position is = grind arith
has-none (f ∷ fs) zero is = absurd (cc is)
has-none (f ∷ fs) (suc position) is = let rest = has-none fs position is in grind (arith, rest)

-- the row of a column's field
abbrev pair_of : Look → List Text → List Text → ColumnPlan → RowValue
pair_of look names fields column = pair_for look (name_at names column.position) (field_or_blank fields column.position)

-- the rows of columns, if the record has the field of the first one
pub pairs-first : (look : Look) (column : ColumnPlan) (left : List ColumnPlan) (names fields : List Text) (field : Text) → Some field ≡ field_at fields column.position
    → pairs_of look (column ∷ left) names fields ≡ pair_for look (name_at names column.position) field ∷ pairs_of look left names fields
pairs-first look column left names fields field is =
    let own = has-some fields column.position field is in
    ap (λ (b : Bool). map (pair_of look names fields) (cond b (column ∷ held fields left) (held fields left))) own.0
    ∙ ap (λ (text : Text). pair_for look (name_at names column.position) text ∷ pairs_of look left names fields) own.1

-- the rows of columns, if the record doesn't have that field
pub pairs-later : (look : Look) (column : ColumnPlan) (left : List ColumnPlan) (names fields : List Text) → None ≡ field_at fields column.position → pairs_of look (column ∷ left) names fields ≡ pairs_of look left names fields
pairs-later look column left names fields is = ap (λ (b : Bool). map (pair_of look names fields) (cond b (column ∷ held fields left) (held fields left))) (has-none fields column.position is)

-- a list from its k-th element on begins with this element
pub at_place : {X : Type 0} (xs : List X) (k : ℕ) (x d : X) (rest : List X) → x ∷ rest ≡ drop k xs → (k < length xs) × (slice_index_or xs k d ≡ x) × (rest ≡ drop (suc k) xs)
at_place [] zero x d rest is = absurd (cc is)
at_place [] (suc k) x d rest is = absurd (cc is)
at_place (y ∷ xs) zero x d rest is = (omega arith, cc is, cc is)
at_place (y ∷ xs) (suc k) x d rest is = let more = at_place xs k x d rest is in (omega (arith, more.0), more.1, more.2)

-- nothing is left of a list after its end
pub none_after : {X : Type 0} (xs : List X) (k : ℕ) → drop k xs ≡ [] → length xs ≤ k
none_after [] k is = omega arith
none_after (x ∷ xs) zero is = absurd (cc is)
none_after (x ∷ xs) (suc k) is = let more = none_after xs k is in omega (arith, more)

-- the rows of columns and of more columns
pub pairs-append : (look : Look) (columns more : List ColumnPlan) (names fields : List Text) → pairs_of look (columns ++ more) names fields ≡ pairs_of look columns names fields ++ pairs_of look more names fields
pairs-append look columns more names fields = ap (map (pair_of look names fields)) (filter-append (has_field fields) columns more) ∙ map-append (pair_of look names fields) (held fields columns) (held fields more)
