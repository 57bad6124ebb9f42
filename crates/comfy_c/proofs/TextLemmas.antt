-- Texts that are cut from a block by their lengths.
use Rattle.std.proofs.Common.{◌≡◌, ◌<◌, ◌+◌, ◌++◌, ◌∷◌, ◌∙◌, [], ℕ, List, zero, suc, ap, arith, drop, length, refl, slice_index_or, subst, sym, take}
use Rattle.std.specs.List.{All}
use Rattle.std.specs.Str.{IsUtf8}
use Rattle.std.proofs.lemmas.List.{drop-drop, length-drop, take-append-drop, take_more}
use Rattle.std.proofs.lemmas.List.Elements.{All-head, All-tail}
use Rattle.std.proofs.lemmas.List.Sums.{sum_by-cons}
use Rattle.std.proofs.lemmas.Str.{IsUtf8-append, IsUtf8-nil}
use Rattle.csv_records.proofs.CutLemmas.{place_taken}
use Rattle.csv_records.specs.CutLists.{cut_by, total}

-- the rest after the first parts
pub after : {A : Type 0} (n : ℕ) (ns : List ℕ) (xs : List A) → drop (total ns) (drop n xs) ≡ drop (total (n ∷ ns)) xs
after n ns xs = drop-drop (total ns) n xs ∙ ap (λ (k : ℕ). drop k xs) (sym (sum_by-cons (λ m. m) n ns))

cut_more : {A : Type 0} (ns : List ℕ) (n : ℕ) (xs : List A) → cut_by (ns ++ n ∷ []) xs ≡ cut_by ns xs ++ take n (drop (total ns) xs) ∷ []
cut_more [] n xs = refl
cut_more (m ∷ ns) n xs = ap (λ ys. take m xs ∷ ys) (cut_more ns n (drop m xs) ∙ ap (λ ys. cut_by ns (drop m xs) ++ take n ys ∷ []) (after m ns xs))

-- in a loop over lengths: one part more, and the distance of its end from the front
pub one_cut : {A : Type 0} (ns : List ℕ) (i d : ℕ) → i < length ns → (xs : List A)
    → (cut_by (take (i + 1) ns) xs ≡ cut_by (take i ns) xs ++ take (slice_index_or ns i d) (drop (total (take i ns)) xs) ∷ []) × (total (take (i + 1) ns) ≡ total (take i ns) + slice_index_or ns i d)
one_cut ns i d below xs =
    (ap (λ (ms : List ℕ). cut_by ms xs) (take_more ns i d below) ∙ cut_more (take i ns) (slice_index_or ns i d) xs, (place_taken ns i d below).1)

-- it is one of all parts
pub in_cut : {A : Type 0} (P : List A → Type 0) (ns : List ℕ) (i d : ℕ) → i < length ns → (xs : List A) → All P (cut_by ns xs) → P (take (slice_index_or ns i d) (drop (total (take i ns)) xs))
in_cut P [] i d below xs all = absurd (omega (arith, below))
in_cut P (n ∷ ns) zero d below xs all = All-head P (take n xs) (cut_by ns (drop n xs)) all
in_cut P (n ∷ ns) (suc i) d below xs all =
    subst (λ ys. P (take (slice_index_or ns i d) ys)) (after n (take i ns) xs) (in_cut P ns i d (omega (arith, below)) (drop n xs) (All-tail P (take n xs) (cut_by ns (drop n xs)) all))

-- there are as many parts as lengths
pub length-cut_by : {A : Type 0} (ns : List ℕ) (xs : List A) → length (cut_by ns xs) ≡ length ns
length-cut_by [] xs = refl
length-cut_by (n ∷ ns) xs = ap suc (length-cut_by ns (drop n xs))

-- ---- parts that are texts

-- a block of UTF-8 parts is UTF-8
pub whole_text : (ns xs : List ℕ) → total ns ≡ length xs → All IsUtf8 (cut_by ns xs) → IsUtf8 xs
whole_text [] [] add_up all = IsUtf8-nil
whole_text [] (x ∷ xs) add_up all = absurd (omega (arith, add_up))
whole_text (n ∷ ns) xs add_up all =
    let sum = sum_by-cons (λ m. m) n ns in
    let long = length-drop n xs in
    let rest : IsUtf8 (drop n xs) = whole_text ns (drop n xs) (omega (arith, add_up, sum, long)) (All-tail IsUtf8 (take n xs) (cut_by ns (drop n xs)) all) in
    subst IsUtf8 (take-append-drop n xs) (IsUtf8-append (take n xs) (drop n xs) (All-head IsUtf8 (take n xs) (cut_by ns (drop n xs)) all) rest)
