-- A prefix of a cluster measures at most two terminal columns more than the cluster.
use Rattle.std.proofs.Common.{◌≡◌, ◌≤◌, ℕ, ◌+◌, Bool, true, false, not, ◌&&◌, ◌||◌, ◌==◌, List, [], ◌∷◌, ◌++◌, Option, Some, None, slice_index_or, unwrap_or, refl, sym, ap, ◌∙◌, subst, arith, append-nil}
use Rattle.std.specs.List.{list_all}
use Rattle.std.specs.Prelude.{encode_utf8_all, if◌then◌else◌}
use Rattle.std.specs.Str.{chars, IsUtf8}
use Rattle.std.proofs.Math.Utf8.{scalars}
use Rattle.std.proofs.lemmas.Bool.{and_from, and_parts, leb-true, or_right}
use Rattle.std.proofs.lemmas.List.Elements.{All-map}
use Rattle.std.proofs.lemmas.List.Sums.{AllPass-from_list_all}
use Rattle.std.proofs.lemmas.Str.{chars-append, chars-encodes, scalars-chars}
use Rattle.ucd_breaks.specs.GraphemeClusterBreak.{grapheme_cluster_break}
use Rattle.unicode_segmentation.specs.Grapheme.{break_by_pair, ends_in_half_flag, is_grapheme_break, is_regional, joins_conjunct, joins_emoji}
use Rattle.unicode_segmentation.specs.Segments.{cut, segments}
use Rattle.unicode_width.specs.Width.{plain, str_width}
use Rattle.cluster_width.specs.ClusterSums.{FrontsOfClustersAreBounded, Text, measure}
use Rattle.cluster_width.proofs.Classes.{IsIn, IsLike, are_linkable, example_of, examples}
use Rattle.cluster_width.proofs.FrontPairs.{arrives, ends-well, may_join, pairs, reached, start, starts}
use Rattle.cluster_width.proofs.Fronts.{all-cut, put}
use Rattle.cluster_width.proofs.Pairs.{Covers, Pair}
use Rattle.cluster_width.proofs.Sums.{and_left, and_then, either_way, implied, is_break, linkable, one_more, read, read-step}

-- ---- neighbours in a cluster

abbrev joins_first : ℕ → List ℕ → Bool
joins_first d [] = true
joins_first d (c ∷ cs) = may_join d c

-- any two neighbours may be joined
abbrev chained : List ℕ → Bool
chained [] = true
chained (c ∷ cs) = joins_first c cs && chained cs

joins-by : (o : Option Bool) (a b : Bool) → (a ≡ true → b ≡ true) → unwrap_or o (not a) ≡ false → not (unwrap_or o (not b)) ≡ true
joins-by (Some x) a b p h = ap not h
joins-by None true b p h = ap (λ t. not (not t)) (p refl)
joins-by None false b p h = absurd (cc h)

-- if there is no boundary between two characters, they may be joined
may-join : (before : List ℕ) (d c : ℕ) (cs : List ℕ) → is_break (d ∷ before) (c ∷ cs) ≡ false → may_join d c ≡ true
unfolding is_grapheme_break ends_in_half_flag
may-join before d c cs =
    let linked = joins_conjunct (d ∷ before) c || joins_emoji (d ∷ before) c in
    let one = is_regional (grapheme_cluster_break d) in
    let two = is_regional (grapheme_cluster_break c) in
    let odd = ends_in_half_flag (d ∷ before) in
    joins-by (break_by_pair true (grapheme_cluster_break d) (grapheme_cluster_break c)) (linked || (odd && two)) (are_linkable d c || (one && two))
    (either_way linked (odd && two) (are_linkable d c) (one && two) (linkable before d c)
    (λ h. and_from one two (and_left one (not (ends_in_half_flag before)) (and_left odd two h)) (and_then odd two h)))

abbrev first_joined : ℕ → List (List ℕ) → Bool
first_joined d [] = true
first_joined d (p ∷ ps) = joins_first d p

first-put : (d c : ℕ) (cs : List ℕ) (b : Bool) (ps : List (List ℕ)) → joins_first d (c ∷ cs) ≡ true → first_joined d (put b c ps) ≡ true
first-put d c cs true ps h = h
first-put d c cs false [] h = h
first-put d c cs false (p ∷ ps) h = h

chained-put : (b : Bool) (d : ℕ) (ps : List (List ℕ)) → list_all chained ps ≡ true → (b ≡ false → first_joined d ps ≡ true) → list_all chained (put b d ps) ≡ true
chained-put true d ps each h = each
chained-put false d [] each h = refl
chained-put false d (p ∷ ps) each h =
    let parts = and_parts (chained p) (list_all chained ps) each in and_from _ _ (and_from _ _ (h refl) parts.0) parts.1

-- any two neighbours in a cluster may be joined
chained-cut : (before cs after : List ℕ) → list_all chained (cut is_break before cs after) ≡ true
unfolding cut
chained-cut before [] after = refl
chained-cut before (d ∷ []) after = chained-put (is_break (d ∷ before) after) d [] refl (λ _. refl)
chained-cut before (d ∷ (c ∷ cs)) after =
    chained-put (is_break (d ∷ before) (c ∷ (cs ++ after))) d (cut is_break (d ∷ before) (c ∷ cs) after) (chained-cut (d ∷ before) (c ∷ cs) after)
    (λ h. first-put d c cs (is_break (c ∷ (d ∷ before)) (cs ++ after)) (cut is_break (c ∷ (d ∷ before)) cs after) (may-join before d c (cs ++ after) h))

-- ---- the relation

-- a cluster from c on, and a prefix of it there; if `inside` is false, c is after the prefix, which is then empty
record IsFront (inside : Bool) (front : List ℕ) (c : ℕ) (rest : List ℕ) : Type 0 where
  pair : Pair
  known : IsIn pairs pair
  mark : pair.mark ≡ inside
  own : (read front).1 ≡ pair.less.1
  whole : (read (c ∷ rest)).1 ≡ pair.more.1
  right : IsLike c pair.right
  sums : (read front).0 + pair.more.0 ≤ (read (c ∷ rest)).0 + pair.less.0

ended : (c : ℕ) → IsFront false [] c []
ended c =
    let e = example_of c in
    let it = arrives start e.0 false starts e.1 refl refl in
    let one = read-step c e.0 e.2 [] plain refl in
    let totals = it.2.totals in
    record {
      pair = it.0;
      known = it.1;
      mark = it.2.mark;
      own = sym it.2.less;
      whole = one.0 ∙ sym it.2.more;
      right = subst (IsLike c) (sym it.2.right) e.2;
      sums = omega (arith, totals, one.1);
    }

join-like : (d e c x : ℕ) → IsLike d e → IsLike c x → may_join d c ≡ may_join e x
join-like d e c x l m = cc

-- one more character before c
module _ (inside : Bool) (front : List ℕ) (d c : ℕ) (rest : List ℕ) (r : IsFront inside front c rest) (joined : may_join d c ≡ true) where
  arriving : (b : Bool) → (not inside || b) ≡ true → (e : ℕ) → IsIn examples e → IsLike d e → (z : Pair) × IsIn pairs z × Covers z (reached r.pair e b)
  arriving b may e known like =
      arrives r.pair e b r.known known (or_right (r.pair.right == 0x11_0000) (may_join e r.pair.right) (sym (join-like d e c r.pair.right like r.right) ∙ joined))
      (ap (λ m. not m || b) r.mark ∙ may)

  further : (b : Bool) → (not inside || b) ≡ true → IsFront b (if b then d ∷ front else front) d (c ∷ rest)
  further true may =
      let e = example_of d in
      let it = arriving true may e.0 e.1 e.2 in
      let whole = read-step d e.0 e.2 (c ∷ rest) r.pair.more.1 r.whole in
      let own = read-step d e.0 e.2 front r.pair.less.1 r.own in
      let sums = r.sums in
      let totals = it.2.totals in
      record {
        pair = it.0;
        known = it.1;
        mark = it.2.mark;
        own = own.0 ∙ sym it.2.less;
        whole = whole.0 ∙ sym it.2.more;
        right = subst (IsLike d) (sym it.2.right) e.2;
        sums = omega (arith, totals, whole.1, own.1, sums);
      }
  further false may =
      let e = example_of d in
      let it = arriving false may e.0 e.1 e.2 in
      let whole = read-step d e.0 e.2 (c ∷ rest) r.pair.more.1 r.whole in
      let sums = r.sums in
      let totals = it.2.totals in
      record {
        pair = it.0;
        known = it.1;
        mark = it.2.mark;
        own = r.own ∙ sym it.2.less;
        whole = whole.0 ∙ sym it.2.more;
        right = subst (IsLike d) (sym it.2.right) e.2;
        sums = omega (arith, totals, whole.1, sums);
      }

is_back : (c : ℕ) (rest : List ℕ) → chained (c ∷ rest) ≡ true → IsFront false [] c rest
is_back c [] chain = ended c
is_back d (c ∷ rest) chain =
    let parts = and_parts (joins_first d (c ∷ rest)) (chained (c ∷ rest)) chain in further false [] d c rest (is_back c rest parts.1) parts.0 false refl

is_front : (d : ℕ) (front : List ℕ) (b : ℕ) (back : List ℕ) → chained (d ∷ (front ++ b ∷ back)) ≡ true → IsFront true (d ∷ front) d (front ++ b ∷ back)
is_front d [] b back chain =
    let parts = and_parts (joins_first d (b ∷ back)) (chained (b ∷ back)) chain in further false [] d b back (is_back b back parts.1) parts.0 true refl
is_front d (c ∷ front) b back chain =
    let parts = and_parts (joins_first d (c ∷ (front ++ b ∷ back))) (chained (c ∷ (front ++ b ∷ back))) chain in
    further true (c ∷ front) d c (front ++ b ∷ back) (is_front c front b back parts.1) parts.0 true refl

no_width : str_width false [] ≡ 0
unfolding str_width
no_width = refl

-- the characters of a prefix of a cluster measure at most two more than those of the cluster
front_bound : (front back : List ℕ) → chained (front ++ back) ≡ true → str_width false front ≤ str_width false (front ++ back) + 2
front_bound [] back chain = let none = no_width in omega (arith, none)
front_bound (c ∷ front) [] chain = let same = ap (str_width false) (append-nil (c ∷ front)) in omega (arith, same)
front_bound (c ∷ front) (b ∷ back) chain =
    let r = is_front c front b back chain in
    let sums = r.sums in
    let ends = leb-true _ _ (implied r.pair.mark _ (ends-well r.pair r.known) r.mark) in
    let own = one_more (c ∷ front) in
    let whole = one_more (c ∷ (front ++ b ∷ back)) in
    omega (arith, sums, ends, own, whole)

pub fronts_of_clusters : (text : Text) → FrontsOfClustersAreBounded text
unfolding segments
fronts_of_clusters text utf8 =
    let ps = cut is_break [] (chars text) [] in
    All-map (λ (cluster : Text). (front rest : Text) → IsUtf8 front → cluster ≡ front ++ rest → measure front ≤ measure cluster + 2) encode_utf8_all ps
    (λ k default below front rest whole splits.
    let piece = slice_index_or ps k default in
    let known = AllPass-from_list_all scalars ps (all-cut is_break [] (chars text) [] (scalars-chars text utf8)) k default below in
    let chain = AllPass-from_list_all chained ps (chained-cut [] (chars text) []) k default below in
    let same : piece ≡ chars front ++ chars rest = sym (chars-encodes piece known) ∙ ap chars splits ∙ chars-append front rest whole in
    let bound = front_bound (chars front) (chars rest) (sym (ap chained same) ∙ chain) in
    let measured = ap (str_width false) (chars-encodes piece known ∙ same) in
    omega (arith, bound, measured))
