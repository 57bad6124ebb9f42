-- The visible text of a field.
use Rattle.std.proofs.Common.{◌≡◌, ℕ, Bool, true, false, zero, suc, [], ◌∷◌, List, refl}
use Rattle.comfy_parts.specs.Text.{Text}
use Rattle.csv.specs.Records.{field_at}
use Rattle.csv_tables.specs.Fields.{field_or_blank}
use Rattle.csv_records.specs.Cleaning.{visible_of}
use Rattle.csv_tables.specs.Columns.{seen}

-- the visible text of the field at a position
pub seen_at : (keeps : Bool) (fields : List Text) (position : ℕ) → field_or_blank (seen keeps fields) position ≡ visible_of keeps (field_or_blank fields position)
unfolding field_at
seen_at false [] position = refl
seen_at true [] position = refl
seen_at keeps (f ∷ fs) zero = refl
seen_at keeps (f ∷ fs) (suc n) = seen_at keeps fs n
