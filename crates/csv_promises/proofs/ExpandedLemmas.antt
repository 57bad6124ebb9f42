-- Expanded records: the rows of each one are the next rows of their table.
use Rattle.std.proofs.Common.{◌≡◌, ℕ, List, [], ◌∷◌, ◌++◌, drop, flat_map, length, take, refl, sym, ap, ap₂, ◌∙◌, arith, length-append, slice_index_or}
use Rattle.std.specs.Prelude.{sum_by}
use Rattle.std.proofs.Math.Seq.{drop-append_seam, get_or-append_seam, take-append_seam}
use Rattle.std.proofs.lemmas.Grind.{flat_map-append}
use Rattle.std.proofs.lemmas.List.{length-map}
use Rattle.std.proofs.lemmas.List.Sums.{sum_by-cons}
use Rattle.comfy_parts.specs.CellValue.{RowValue}
use Rattle.comfy_parts.specs.Text.{Text}
use Rattle.csv_tables.specs.Drawn.{SelectedValue, drawn_fields, pairs_in}
use Rattle.csv_tables.specs.Cells.{held}
use Rattle.csv_tables.specs.declared.options.Look.{Look}

module _ {X Y : Type 0} (f : X → List Y) where
  -- the part of concatenated lists that belongs to one element
  part_of : (front : List X) (x : X) (more : List X) → take (length (f x)) (drop (length (flat_map f front)) (flat_map f (front ++ x ∷ more))) ≡ f x
  part_of front x more =
      ap (λ (ys : List Y). take (length (f x)) (drop (length (flat_map f front)) ys)) (flat_map-append f front (x ∷ more))
      ∙ ap (take (length (f x))) (drop-append_seam (flat_map f front) (f x ++ flat_map f more)) ∙ take-append_seam (f x) (flat_map f more)

module _ (look : Look) (content : SelectedValue) where
  abbrev pairs : List Text → List RowValue
  pairs fields = pairs_in look content fields

  as_many : (fields : List Text) → drawn_fields content fields ≡ length (pairs fields)
  as_many fields = sym (length-map (held fields content.columns) _)

  all_before : (front : List (List Text)) → sum_by (drawn_fields content) front ≡ length (flat_map pairs front)
  all_before [] = refl
  all_before (fields ∷ front) =
      omega (arith, sum_by-cons (drawn_fields content) fields front, as_many fields, all_before front, length-append (pairs fields) (flat_map pairs front))

  -- the rows of the record at a place
  pub rows_at : (k : ℕ) (front : List (List Text)) (fields : List Text) (more : List (List Text)) → length front ≡ k → content.rows ≡ front ++ fields ∷ more
      → take (drawn_fields content (slice_index_or content.rows k [])) (drop (sum_by (drawn_fields content) (take k content.rows)) (flat_map pairs content.rows)) ≡ pairs fields
  rows_at k front fields more at is =
      ap (λ (rows : List (List Text)). take (drawn_fields content (slice_index_or rows k [])) (drop (sum_by (drawn_fields content) (take k rows)) (flat_map pairs rows))) is
      ∙ ap (λ (n : ℕ). take (drawn_fields content (slice_index_or (front ++ fields ∷ more) n [])) (drop (sum_by (drawn_fields content) (take n (front ++ fields ∷ more))) (flat_map pairs (front ++ fields ∷ more)))) (sym at)
      ∙ ap₂ (λ (own : List Text) (before : List (List Text)). take (drawn_fields content own) (drop (sum_by (drawn_fields content) before) (flat_map pairs (front ++ fields ∷ more)))) (get_or-append_seam front fields more []) (take-append_seam front (fields ∷ more))
      ∙ ap₂ (λ (n m : ℕ). take n (drop m (flat_map pairs (front ++ fields ∷ more)))) (as_many fields) (all_before front)
      ∙ part_of pairs front fields more
