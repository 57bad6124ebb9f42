-- Records whose fields are consecutive parts of one list.
use Rattle.std.proofs.Common.{◌≡◌, ◌<◌, ◌≤◌, ◌+◌, ◌-◌, ◌^◌, ◌++◌, ◌∷◌, [], ℕ, List, ap, ap₂, arith, drop, length, map, refl, slice_index_or, sym, take, zero-add, ◌∙◌}
use Rattle.std.specs.List.{All, AllByRecursion}
use Rattle.std.proofs.lemmas.List.{drop-drop, take_more}
use Rattle.std.proofs.lemmas.List.Sums.{sum_by-append, sum_by-cons}
use Rattle.std.proofs.lemmas.List.Elements.{All-from_recursion}
use Rattle.comfy_parts.specs.Text.{Text}
use Rattle.csv_records.specs.CutLists.{cut_by, total}
use Rattle.csv_records.specs.Places.{IsWithin, fields_at, places_for}

-- the places with one more
pub places_more : (start : ℕ) (ns : List ℕ) (n : ℕ) → places_for start (ns ++ n ∷ []) ≡ places_for start ns ++ record { start = start + total ns; end = start + total ns + n } ∷ []
places_more start [] n = let here : start ≡ start + 0 = omega arith in ap₂ (λ a b. record { start = a; end = b } ∷ []) here (ap (λ a. a + n) here)
places_more start (m ∷ ns) n =
    let moved : start + m + total ns ≡ start + total (m ∷ ns) = omega (arith, sum_by-cons (λ n. n) m ns) in
    ap (λ places. record { start = start; end = start + m } ∷ places) (places_more (start + m) ns n ∙ ap (λ (a : ℕ). places_for (start + m) ns ++ record { start = a; end = a + n } ∷ []) moved)

-- the places of the first i + 1 records are those of the first i records, and one more place
pub place_taken : (ns : List ℕ) (i : ℕ) (d : ℕ) → i < length ns → (places_for 0 (take (i + 1) ns) ≡ places_for 0 (take i ns) ++ record { start = total (take i ns); end = total (take i ns) + slice_index_or ns i d } ∷ []) × (total (take (i + 1) ns) ≡ total (take i ns) + slice_index_or ns i d)
place_taken ns i d below =
    let more : take (i + 1) ns ≡ take i ns ++ slice_index_or ns i d ∷ [] = take_more ns i d below in
    (ap (places_for 0) more ∙ places_more 0 (take i ns) (slice_index_or ns i d) ∙ ap (λ (a : ℕ). places_for 0 (take i ns) ++ record { start = a; end = a + slice_index_or ns i d } ∷ []) (zero-add (total (take i ns))), ap total more ∙ sum_by-append (λ n. n) (take i ns) (slice_index_or ns i d ∷ []) ∙ ap (λ (n : ℕ). total (take i ns) + n) (zero-add (slice_index_or ns i d)))

-- the places of records are within the list of fields, if it is long enough
pub places_within : (fields : List Text) (start : ℕ) (ns : List ℕ) → length fields < 2 ^ 64 → start + total ns ≤ length fields → All (IsWithin fields) (places_for start ns)
places_within fields start ns small fits = All-from_recursion (IsWithin fields) (places_for start ns) (each start ns fits)
  where
    each : (start : ℕ) (ns : List ℕ) → start + total ns ≤ length fields → AllByRecursion (IsWithin fields) (places_for start ns)
    each start [] fits = tt
    each start (n ∷ ns) fits = let all = sum_by-cons (λ (m : ℕ). m) n ns in ((omega arith, omega (arith, fits, all), omega (arith, fits, small, all)), each (start + n) ns (omega (arith, fits, all)))

-- the fields at these places are the parts of the list
pub cut_at_places : (fields : List Text) (start : ℕ) (ns : List ℕ) → map (fields_at fields) (places_for start ns) ≡ cut_by ns (drop start fields)
cut_at_places fields start [] = refl
cut_at_places fields start (n ∷ ns) =
    let own : start + n - start ≡ n = omega arith in
    ap₂ (λ x xs. x ∷ xs) (ap (λ (k : ℕ). take k (drop start fields)) own) (cut_at_places fields (start + n) ns ∙ ap (cut_by ns) (sym (drop-drop n start fields)))
