-- A text that is cut between two of its clusters. If the first cluster after the cut is the first without room, the
-- text before the cut is the head.
use Rattle.std.proofs.Common.{◌≡◌, ℕ, ◌+◌, ◌-◌, ◌≤◌, ◌<◌, true, List, [], ◌∷◌, ◌++◌, map, length, take, sum_by, nat_le, refl, sym, ap, ◌∙◌, subst, arith, length-append, append-nil}
use Rattle.std.proofs.Math.Seq.{take-append_seam, get_or-append_seam}
use Rattle.std.specs.Borrow.{Bor}
use Rattle.std.specs.List.{All, concat}
use Rattle.std.specs.Str.{IsUtf8}
use Rattle.std.proofs.lemmas.Bool.{cond-false, cond_both}
use Rattle.std.proofs.lemmas.Bool.Decides.{nat_tests}
use Rattle.std.proofs.lemmas.List.{append_assoc, map-append}
use Rattle.std.proofs.lemmas.List.Folds.{concat-append}
use Rattle.std.proofs.lemmas.List.Sums.{sum_by-cons}
use Rattle.std.proofs.lemmas.Str.{IsUtf8-between}
use Rattle.unicode_segmentation.specs.Segments.{with_offsets}
use Rattle.unicode_segmentation.specs.Grapheme.{is_grapheme_break}
use Rattle.unicode_segmentation.proofs.SegmentsLemmas.{map-with_offsets, concat-segments, All-IsPieceOf, IsPieceOf}
use Rattle.comfy_parts.specs.Following.{EndsHead, IsFirstWide}
use Rattle.comfy_parts.specs.Text.{Text, measure, clusters, clusters_within, head}

-- a piece with the position of its first byte
abbrev pub Placed : Type 0
Placed = ℕ × List ℕ

abbrev pub pieces : List Placed → List Text
pieces xs = map (λ x. x.1) xs

-- a piece begins at the end of the pieces before it
pub begins_at : (n : ℕ) (done : List Placed) (x : Placed) (rest : List Placed) (ps : List Text) → done ++ x ∷ rest ≡ with_offsets n ps → x.0 ≡ n + length (concat (pieces done))
unfolding with_offsets
begins_at n [] x rest [] e = cc
begins_at n [] x rest (p ∷ ps) e = let f : x ≡ (n, p) = cc in let g : x.0 ≡ n = ap (λ y. y.0) f in omega arith
begins_at n (y ∷ done) x rest [] e = cc
begins_at n (y ∷ done) x rest (p ∷ ps) e =
    let first : y ≡ (n, p) = cc in
    let tail : done ++ x ∷ rest ≡ with_offsets (n + length p) ps = cc in
    let at = begins_at (n + length p) done x rest ps tail in
    let same : y.1 ≡ p = ap (λ z. z.1) first in
    let long = length-append y.1 (concat (pieces done)) in
    let len : length y.1 ≡ length p = ap length same in
    omega arith

-- the pieces before and after a piece
pub around : (done : List Placed) (x : Placed) (rest : List Placed) (ps : List Text) → done ++ x ∷ rest ≡ with_offsets 0 ps → ps ≡ pieces done ++ x.1 ∷ pieces rest
around done x rest ps e = sym (map-with_offsets 0 ps) ∙ sym (ap pieces e) ∙ map-append (λ x. x.1) done (x ∷ rest)

-- the head takes clusters that fit, and goes on after them with the columns that they leave
within-front : (k : ℕ) (qs more : List Text) → sum_by measure qs ≤ k → clusters_within k (qs ++ more) ≡ concat qs ++ clusters_within (k - sum_by measure qs) more
within-front k [] more fits =
    let same : k ≡ k - 0 = omega arith in
    ap (λ n. clusters_within n more) same
within-front k (q ∷ qs) more fits =
    let sums = sum_by-cons measure q qs in
    let left : k - measure q - sum_by measure qs ≡ k - sum_by measure (q ∷ qs) = omega (arith, sums, fits) in
    cond_both (nat_le (measure q) k) _ _ (λ front. front ≡ (q ++ concat qs) ++ clusters_within (k - sum_by measure (q ∷ qs)) more)
    (λ _. ap (λ t. q ++ t) (within-front (k - measure q) qs more (omega (arith, sums, fits)) ∙ ap (λ n. concat qs ++ clusters_within n more) left)
    ∙ sym (append_assoc q (concat qs) (clusters_within (k - sum_by measure (q ∷ qs)) more)))
    (λ wide. absurd (grind (arith, nat_tests, wide, sums, fits)))

-- a cluster that is too wide ends the head
within-wide : (k : ℕ) (p : Text) (more : List Text) → k < measure p → clusters_within k (p ∷ more) ≡ []
within-wide k p more wide = cond-false (nat_le (measure p) k) _ _ (grind (arith, nat_tests, wide))

-- the clusters before the first one that is too wide are the head
pub head-before : (k : ℕ) (text : Text) (qs : List Text) (c : Text) (others : List Text) → IsUtf8 text → clusters text ≡ qs ++ c ∷ others → sum_by measure qs ≤ k → k < sum_by measure qs + measure c
    → take (length (concat qs)) text ≡ head k text
head-before k text qs c others u parts fits wide =
    let all : concat qs ++ concat (c ∷ others) ≡ text = sym (concat-append qs (c ∷ others)) ∙ sym (ap concat parts) ∙ concat-segments (is_grapheme_break true) text u in
    let front : take (length (concat qs)) text ≡ concat qs = ap (take (length (concat qs))) (sym all) ∙ take-append_seam (concat qs) (concat (c ∷ others)) in
    let taken : head k text ≡ concat qs ++ [] =
    ap (clusters_within k) parts ∙ within-front k qs (c ∷ others) fits ∙ ap (λ t. concat qs ++ t) (within-wide (k - sum_by measure qs) c others (omega (arith, fits, wide))) in
    front ∙ sym (taken ∙ append-nil (concat qs))

-- the record of the first cluster that is too wide, from its position in the list
pub first-wide : (k : ℕ) (text : Text) (done : List Placed) (x : Placed) (rest : List Placed) (beyond : ℕ) → IsUtf8 text → done ++ x ∷ rest ≡ with_offsets 0 (clusters text)
    → sum_by measure (pieces done) ≤ k → sum_by measure (pieces done) + measure x.1 ≡ k + beyond → 0 < beyond → IsFirstWide k text x.0 (length x.1) beyond
first-wide k text done x rest beyond u place fits all wide =
    let every = All-IsPieceOf (is_grapheme_break true) text u in
    let here = subst (All (IsPieceOf text)) (sym place) every (length done) x (omega (arith, length-append done (x ∷ rest))) in
    let piece = subst (IsPieceOf text) (get_or-append_seam done x rest x) here in
    let begins = begins_at 0 done x rest (clusters text) place in
    record {
      before = pieces done;
      cluster = x.1;
      others = pieces rest;
      clusters_are = around done x rest (clusters text) place;
      at_is = omega arith;
      boundary = piece.start;
      bytes_are = refl;
      whole = subst IsUtf8 (sym piece.bytes) (IsUtf8-between text x.0 (x.0 + length x.1) u (omega arith) piece.start piece.end);
      room_before = fits;
      beyond_is = all;
      too_wide = wide;
    }

-- the head ends at the first cluster that is too wide
pub ends-head : (k : ℕ) (text : Text) (at bytes beyond : ℕ) → IsUtf8 text → IsFirstWide k text at bytes beyond → EndsHead k text at
ends-head k text at bytes beyond u is =
    let wide : k < sum_by measure is.before + measure is.cluster = (let all = is.beyond_is in let some = is.too_wide in omega arith) in
    record { boundary = is.boundary; head_is = ap (λ n. take n text) (sym is.at_is) ∙ head-before k text is.before is.cluster is.others u is.clusters_are is.room_before wide }

-- a text whose clusters all fit is its own head
pub head-all : (k : ℕ) (text : Text) (done : List Placed) → IsUtf8 text → done ≡ with_offsets 0 (clusters text) → sum_by measure (pieces done) ≤ k → text ≡ head k text
head-all k text done u e fits =
    let same : pieces done ≡ clusters text = ap pieces e ∙ map-with_offsets 0 (clusters text) in
    let taken : head k text ≡ concat (pieces done) ++ [] = ap (clusters_within k) (sym same ∙ sym (append-nil (pieces done))) ∙ within-front k (pieces done) [] fits in
    sym (taken ∙ append-nil (concat (pieces done)) ∙ ap concat same ∙ concat-segments (is_grapheme_break true) text u)

-- an item of the iterator as a piece with its position
abbrev pub shown : ℕ × Bor (List ℕ) → Placed
shown x = (x.0, x.1.now)

-- the sum of the measures of the items
pub sum_by-shown : (xs : List (ℕ × Bor (List ℕ))) → sum_by measure (pieces (map shown xs)) ≡ sum_by (λ x. measure x.1.now) xs
sum_by-shown [] = refl
sum_by-shown (x ∷ xs) =
    sum_by-cons measure x.1.now (pieces (map shown xs)) ∙ ap (λ n. measure x.1.now + n) (sum_by-shown xs) ∙ sym (sum_by-cons (λ x. measure x.1.now) x xs)
