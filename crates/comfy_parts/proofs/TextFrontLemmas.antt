-- The clusters of a prefix of a text are clusters of the text, except the last one, which is the beginning of a
-- cluster. So a prefix can show the end of the head.
use Rattle.std.proofs.Common.{◌≡◌, ◌≤◌, ◌<◌, ℕ, ◌+◌, ◌-◌, Bool, true, false, List, [], ◌∷◌, ◌++◌, length, map, take, sum_by, refl, sym, ap, ◌∙◌, subst, arith, length-append, append-nil}
use Rattle.std.proofs.Math.Seq.{get_or-append_seam}
use Rattle.std.specs.List.{All, concat}
use Rattle.std.specs.Prelude.{chars, encode_utf8_all}
use Rattle.std.specs.Str.{IsUtf8}
use Rattle.std.proofs.lemmas.List.Folds.{concat-append}
use Rattle.std.proofs.lemmas.Str.{IsCharBoundary-from_take, IsUtf8-append, chars-append, encodes-append}
use Rattle.unicode_segmentation.specs.Grapheme.{is_grapheme_break}
use Rattle.unicode_segmentation.specs.Segments.{cut, prepend, segments}
use Rattle.unicode_segmentation.proofs.SegmentsLemmas.{concat-segments}
use Rattle.cluster_width.proofs.ClusterFronts.{fronts_of_clusters}
use Rattle.cluster_width.proofs.Fronts.{put}
use Rattle.comfy_parts.specs.Following.{EndsHead, IsFirstWide}
use Rattle.comfy_parts.specs.Text.{Text, clusters, head, measure}
use Rattle.comfy_parts.proofs.ClusterLemmas.{head-before}
use Rattle.comfy_parts.proofs.PlaceLemmas.{head-utf8}

-- ---- the pieces of a prefix

-- the pieces of a prefix and of the whole are the same, except the last one of the prefix, which is the beginning of
-- one of the whole
abbrev pub Begin : List (List ℕ) → List (List ℕ) → Type 0
Begin [] qs = Unit {0}
Begin (p ∷ []) qs = (more : List ℕ) × (others : List (List ℕ)) × (qs ≡ (p ++ more) ∷ others)
Begin (p ∷ (r ∷ ps)) qs = (others : List (List ℕ)) × (qs ≡ p ∷ others) × Begin (r ∷ ps) others

-- this stays true with one more character before them
begin-first : (b : Bool) (c : ℕ) (qs : List (List ℕ)) → Begin ((c ∷ []) ∷ []) (put b c qs)
begin-first true c qs = ([], qs, refl)
begin-first false c [] = ([], [], refl)
begin-first false c (q ∷ qs) = (q, qs, refl)

begin-put : (b : Bool) (c : ℕ) (ps qs : List (List ℕ)) → Begin ps qs → Begin (put b c ps) (put b c qs)
begin-put true c [] qs h = ([], qs, refl)
begin-put true c (p ∷ ps) qs h = (qs, refl, h)
begin-put false c [] qs h = begin-first false c qs
begin-put false c (p ∷ []) qs (more, others, same) = (more, others, ap (prepend (c ∷ [])) same)
begin-put false c (p ∷ (r ∷ ps)) qs (others, same, rest) = (others, ap (prepend (c ∷ [])) same, rest)

begin-cut : (before xs ys : List ℕ) → Begin (cut (is_grapheme_break true) before xs []) (cut (is_grapheme_break true) before (xs ++ ys) [])
unfolding cut is_grapheme_break
begin-cut before [] ys = tt
begin-cut before (c ∷ []) ys = begin-first (is_grapheme_break true (c ∷ before) (ys ++ [])) c (cut (is_grapheme_break true) (c ∷ before) ys [])
begin-cut before (c ∷ (x ∷ xs)) ys =
    begin-put (is_grapheme_break true (c ∷ before) (x ∷ (xs ++ []))) c (cut (is_grapheme_break true) (c ∷ before) (x ∷ xs) [])
    (cut (is_grapheme_break true) (c ∷ before) (x ∷ (xs ++ ys)) []) (begin-cut (c ∷ before) (x ∷ xs) ys)

-- this is true for the pieces as bytes
begin-bytes : (ps qs : List (List ℕ)) → Begin ps qs → Begin (map encode_utf8_all ps) (map encode_utf8_all qs)
begin-bytes [] qs h = tt
begin-bytes (p ∷ []) qs (more, others, same) =
    (encode_utf8_all more, map encode_utf8_all others, ap (map encode_utf8_all) same ∙ ap (λ t. t ∷ map encode_utf8_all others) (encodes-append p more))
begin-bytes (p ∷ (r ∷ ps)) qs (others, same, rest) = (map encode_utf8_all others, ap (map encode_utf8_all) same, begin-bytes (r ∷ ps) others rest)

begin-clusters : (front rest : Text) → IsUtf8 front → Begin (clusters front) (clusters (front ++ rest))
unfolding segments
begin-clusters front rest utf8 =
    subst (λ cs. Begin (clusters front) (map encode_utf8_all (cut (is_grapheme_break true) [] cs []))) (sym (chars-append front rest utf8))
    (begin-bytes _ _ (begin-cut [] (chars front) (chars rest)))

-- ---- a single piece

-- a piece of a prefix begins a piece of the whole, and is the same piece if another one follows it
begin-at : (qs : List Text) (c : Text) (others ws : List Text) → Begin (qs ++ c ∷ others) ws
    → (more : Text) × (after : List Text) × (ws ≡ qs ++ (c ++ more) ∷ after) × (0 < length others → more ≡ [])
begin-at [] c [] ws (more, after, same) = (more, after, same, λ some. absurd (omega (arith, some)))
begin-at [] c (o ∷ os) ws (after, same, rest) = ([], after, same ∙ ap (λ t. t ∷ after) (sym (append-nil c)), λ _. refl)
begin-at (q ∷ []) c others ws (tail, same, rest) =
    let r = begin-at [] c others tail rest in (r.0, r.1, same ∙ ap (λ t. q ∷ t) r.2, r.3)
begin-at (q ∷ (s ∷ qs)) c others ws (tail, same, rest) =
    let r = begin-at (s ∷ qs) c others tail rest in (r.0, r.1, same ∙ ap (λ t. q ∷ t) r.2, r.3)

-- if the first cluster of a prefix that is too wide is too wide in each text with this prefix, the head ends before it
module _ (k : ℕ) (front : Text) (at bytes beyond : ℕ) (utf8 : IsUtf8 front) (first : IsFirstWide k front at bytes beyond) where
  all : concat first.before ++ (first.cluster ++ concat first.others) ≡ front
  all = sym (concat-append first.before (first.cluster ∷ first.others)) ∙ sym (ap concat first.clusters_are) ∙ concat-segments (is_grapheme_break true) front utf8

  -- the last cluster ends at the end of the prefix
  at-end : first.others ≡ [] → bytes ≡ length front - at
  at-end none =
      let long = sym (ap length all) ∙ length-append (concat first.before) (first.cluster ++ concat first.others) in
      let own = length-append first.cluster (concat first.others) in
      let rest = ap (λ (ps : List Text). length (concat ps)) none in
      let start = first.at_is in
      let size = first.bytes_are in
      omega (arith, long, own, rest, start, size)

  pub shown-end : (rest : Text) → IsUtf8 rest → (bytes ≡ length front - at → 2 < beyond) → EndsHead k (front ++ rest) at
  shown-end rest utf8' last =
      let whole = IsUtf8-append front rest utf8 utf8' in
      let begun = begin-at first.before first.cluster first.others (clusters (front ++ rest)) (subst (λ cs. Begin cs (clusters (front ++ rest))) first.clusters_are (begin-clusters front rest utf8)) in
      let before = head-before k (front ++ rest) first.before (first.cluster ++ begun.0) begun.1 whole begun.2 first.room_before (is_wide begun.0 begun.1 whole begun.2 begun.3) in
      let head_is : take at (front ++ rest) ≡ head k (front ++ rest) = ap (λ n. take n (front ++ rest)) (sym first.at_is) ∙ before in
      let long = length-append front rest in
      let within = first.boundary.0 in
      record {
        boundary = IsCharBoundary-from_take (front ++ rest) at whole (omega (arith, within, long)) (subst IsUtf8 (sym head_is) (head-utf8 k (front ++ rest) whole));
        head_is = head_is;
      }
    where
      is_wide : (more : Text) (others : List Text) → IsUtf8 (front ++ rest) → clusters (front ++ rest) ≡ first.before ++ (first.cluster ++ more) ∷ others → (0 < length first.others → more ≡ [])
          → k < sum_by measure first.before + measure (first.cluster ++ more)
      is_wide more others whole parts alone = by_after first.others refl
        where
          IsBounded : Text → Type 0
          IsBounded cluster = (f r : Text) → IsUtf8 f → cluster ≡ f ++ r → measure f ≤ measure cluster + 2

          bounded : All IsBounded (first.before ++ (first.cluster ++ more) ∷ others)
          bounded = subst (All IsBounded) parts (fronts_of_clusters (front ++ rest) whole)

          here : IsBounded (first.cluster ++ more)
          here = subst IsBounded (get_or-append_seam first.before (first.cluster ++ more) others first.cluster)
              (bounded (length first.before) first.cluster (omega (arith, length-append first.before ((first.cluster ++ more) ∷ others))))

          by_after : (ps : List Text) → first.others ≡ ps → k < sum_by measure first.before + measure (first.cluster ++ more)
          by_after [] none =
              let most = here first.cluster more first.whole refl in
              let far = last (at-end none) in
              let sum = first.beyond_is in
              omega (arith, most, far, sum)
          by_after (p ∷ ps) some =
              let nothing : first.cluster ++ more ≡ first.cluster = ap (λ t. first.cluster ++ t) (alone (let long = ap length some in omega (arith, long))) ∙ append-nil first.cluster in
              let same = ap measure nothing in
              let sum = first.beyond_is in
              let wide = first.too_wide in
              omega (arith, same, sum, wide)
