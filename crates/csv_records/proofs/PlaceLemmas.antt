-- One more record after others.
use Rattle.std.proofs.Common.{◌≡◌, ◌<◌, ◌≤◌, ◌+◌, ◌-◌, ◌++◌, ◌∷◌, [], ℕ, zero, suc, All, List, Some, None, unwrap_or, zero-add, ap, ap₂, arith, drop, length, map, refl, sym, take, ◌∙◌}
use Rattle.std.proofs.Math.Seq.{drop-append_seam, take-length}
use Rattle.std.proofs.lemmas.List.{drop-append-le, length-append, length-drop, length-take-le, map-append, take-append-le}
use Rattle.std.proofs.lemmas.List.Elements.{All-cons, All-drop, All-nil}
use Rattle.comfy_parts.specs.Text.{Text}
use Rattle.csv.specs.Records.{AllText, field_at}
use Rattle.csv_records.specs.Places.{IsWithin, fields_at}
use Rattle.csv_records.specs.declared.records.Place.{Place}

module _ (fields more : List Text) where
  -- a record keeps its fields when fields are added
  kept : (place : Place) → IsWithin fields place → fields_at (fields ++ more) place ≡ fields_at fields place
  kept place within =
      let start : place.start ≤ length fields = omega (arith, within.0, within.1) in
      let left : place.end - place.start ≤ length (drop place.start fields) = omega (arith, within.1, length-drop place.start fields) in
      ap (take (place.end - place.start)) (drop-append-le place.start fields more start) ∙ take-append-le (place.end - place.start) (drop place.start fields) more left

  all_kept : (places : List Place) → All (IsWithin fields) places → map (fields_at (fields ++ more)) places ≡ map (fields_at fields) places
  all_kept [] within = refl
  all_kept (place ∷ places) within = ap₂ (λ x xs. x ∷ xs) (kept place (within zero place (omega arith))) (all_kept places (All-drop (IsWithin fields) 1 (place ∷ places) within))

  abbrev pub last_place : Place
  last_place = record { start = length fields; end = length (fields ++ more) }

  -- one more record has the fields that were added
  pub one_more : (places : List Place) → All (IsWithin fields) places → map (fields_at (fields ++ more)) (places ++ last_place ∷ []) ≡ map (fields_at fields) places ++ more ∷ []
  one_more places within =
      let own : length (fields ++ more) - length fields ≡ length more = omega (arith, length-append fields more) in
      let last : fields_at (fields ++ more) last_place ≡ more = ap₂ take own (drop-append_seam fields more) ∙ take-length more in
      map-append (fields_at (fields ++ more)) places (last_place ∷ []) ∙ ap₂ (λ xs x. xs ++ x ∷ []) (all_kept places within) last

-- ---- a walk over a record

-- one more field of the record is taken
pub one_taken : (fields : List Text) (i : ℕ) (field : Text) → field_at fields i ≡ Some field → take (suc i) fields ≡ take i fields ++ field ∷ []
unfolding field_at
one_taken [] i field is = absurd (cc is)
one_taken (f ∷ fs) zero field is = ap (λ (x : Text). x ∷ []) (ap (λ o. unwrap_or o field) is)
one_taken (f ∷ fs) (suc i) field is = ap (λ xs. f ∷ xs) (one_taken fs i field is)

-- no field of the record is left
pub all_taken : (fields : List Text) (i : ℕ) → field_at fields i ≡ None → take i fields ≡ fields
unfolding field_at
all_taken [] zero is = refl
all_taken [] (suc i) is = refl
all_taken (f ∷ fs) zero is = absurd (cc is)
all_taken (f ∷ fs) (suc i) is = ap (λ xs. f ∷ xs) (all_taken fs i is)

-- the fields from a position on
from_here : (fields : List Text) (i : ℕ) (field : Text) → field_at fields i ≡ Some field → drop i fields ≡ field ∷ drop (suc i) fields
unfolding field_at
from_here [] i field is = absurd (cc is)
from_here (f ∷ fs) zero field is = ap (λ (x : Text). x ∷ fs) (ap (λ o. unwrap_or o field) is)
from_here (f ∷ fs) (suc i) field is = from_here fs i field is

pub first_left : (fields : List Text) (place : Place) (field : Text) → place.start < place.end → field_at fields place.start ≡ Some field
    → fields_at fields place ≡ field ∷ fields_at fields (record { start = place.start + 1; end = place.end })
first_left fields place field below is =
    let one : place.end - place.start ≡ suc (place.end - (place.start + 1)) = omega (arith, below) in
    let next : suc place.start ≡ place.start + 1 = omega arith in
    ap₂ take one (from_here fields place.start field is) ∙ ap (λ (n : ℕ). field ∷ take (place.end - (place.start + 1)) (drop n fields)) next

-- ---- a field of a record

pub size : (fields : List Text) (place : Place) → IsWithin fields place → length (fields_at fields place) ≡ place.end - place.start
size fields place within =
    let left : place.end - place.start ≤ length (drop place.start fields) = omega (arith, within.1, length-drop place.start fields) in
    length-take-le (place.end - place.start) (drop place.start fields) left

field_past : (n : ℕ) (fields : List Text) (i : ℕ) → field_at (drop n fields) i ≡ field_at fields (n + i)
unfolding field_at
field_past zero fields i = ap (field_at fields) (sym (zero-add i))
field_past (suc n) [] i = refl
field_past (suc n) (f ∷ fs) i =
    let one : suc n + i ≡ suc (n + i) = omega arith in
    field_past n fs i ∙ ap (field_at (f ∷ fs)) (sym one)

field_before : (n : ℕ) (fields : List Text) (i : ℕ) → i < n → field_at (take n fields) i ≡ field_at fields i
unfolding field_at
field_before zero fields i below = absurd (omega (arith, below))
field_before (suc n) [] i below = refl
field_before (suc n) (f ∷ fs) zero below = refl
field_before (suc n) (f ∷ fs) (suc i) below = field_before n fs i (omega (arith, below))

pub field_of_record : (fields : List Text) (place : Place) (i : ℕ) → i < place.end - place.start → field_at fields (place.start + i) ≡ field_at (fields_at fields place) i
field_of_record fields place i below = sym (field_before (place.end - place.start) (drop place.start fields) i below ∙ field_past place.start fields i)

-- ---- texts

texts-take : (n : ℕ) (fields : List Text) → AllText fields → AllText (take n fields)
unfolding AllText
texts-take zero fields texts = tt
texts-take (suc n) [] texts = tt
texts-take (suc n) (f ∷ fs) texts = (texts.0, texts-take n fs texts.1)

texts-drop : (n : ℕ) (fields : List Text) → AllText fields → AllText (drop n fields)
unfolding AllText
texts-drop zero fields texts = texts
texts-drop (suc n) [] texts = tt
texts-drop (suc n) (f ∷ fs) texts = texts-drop n fs texts.1

-- the fields of all records are UTF-8 if all fields are
pub all_texts : (fields : List Text) (places : List Place) → AllText fields → All AllText (map (fields_at fields) places)
all_texts fields [] texts = All-nil AllText
all_texts fields (place ∷ places) texts = All-cons AllText (fields_at fields place) (map (fields_at fields) places) (texts-take (place.end - place.start) (drop place.start fields) (texts-drop place.start fields texts)) (all_texts fields places texts)
