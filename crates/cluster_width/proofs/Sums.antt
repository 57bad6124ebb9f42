-- A text measures at most as much as its clusters together: both readings stay related, from the end of the text to its
-- beginning.
use Rattle.std.proofs.Common.{◌≡◌, ◌≤◌, ℕ, ◌+◌, ◌-◌, Bool, true, false, not, ◌&&◌, ◌||◌, ◌==◌, List, [], ◌∷◌, ◌++◌, map, sum_by, refl, sym, ap, ap₂, ◌∙◌, subst, arith}
use Rattle.std.specs.Bool.{beq}
use Rattle.std.specs.Prelude.{if◌then◌else◌}
use Rattle.std.proofs.Math.Bool.{and-false, and-true, or-true}
use Rattle.std.proofs.lemmas.Bool.{and_from, and_parts, leb-true, not-true}
use Rattle.std.proofs.lemmas.List.Sums.{sum_by-cons}
use Rattle.ucd_breaks.specs.GraphemeClusterBreak.{grapheme_cluster_break}
use Rattle.ucd_derived.specs.IndicConjunctBreak.{indic_conjunct_break}
use Rattle.ucd_derived.specs.declared.IndicConjunctBreak.{IndicConjunctBreak}
use Rattle.ucd_derived.specs.declared.IndicConjunctBreak.TheVariants as InCb
use Rattle.ucd_emoji.specs.Binary.{is_extended_pictographic}
use Rattle.unicode_segmentation.specs.Grapheme.{ends_in_half_flag, ends_in_linker, ends_in_pictograph, is_consonant, is_grapheme_break, is_regional, is_zwj, joins_conjunct, joins_emoji}
use Rattle.unicode_segmentation.specs.Segments.{cut, prepend}
use Rattle.unicode_segmentation.proofs.Computing.{unicode_segmentation}
use Rattle.unicode_width.specs.declared.state.State.{State}
use Rattle.unicode_width.specs.Width.{Reading, plain, read_before, step, str_width}
use Rattle.unicode_width.proofs.Computing.{unicode_width}
use Rattle.unicode_width.proofs.Rules.{str_width-append_simple}
use Rattle.cluster_width.specs.ClusterSums.{clash, is_presentation, selectors_agree}
use Rattle.cluster_width.proofs.Classes.{IsIn, IsLike, are_linkable, example_of, may_link}
use Rattle.cluster_width.proofs.Pairs.{Covers, Pair}
use Rattle.cluster_width.proofs.Steps.{step-like, step-moves}
use Rattle.cluster_width.proofs.TextPairs.{anew, arrives, ends-well, fits, is_cut, links, pairs, reached, start, starts}

-- ---- readings with a total of 1 at the start never reach 0

abbrev pub read : List ℕ → Reading
read cs = read_before false cs (1, plain)

pub read_before-append : (xs ys : List ℕ) (r : Reading) → read_before false (xs ++ ys) r ≡ read_before false xs (read_before false ys r)
read_before-append [] ys r = refl
read_before-append (x ∷ xs) ys r = ap (step false x) (read_before-append xs ys r)

one_space : read_before false (0x20 ∷ []) (0, plain) ≡ (1, plain)
unfolding unicode_width
one_space = refl

space_width : str_width false (0x20 ∷ []) ≡ 1
unfolding unicode_width
space_width = refl

pub one_more : (cs : List ℕ) → (read cs).0 ≡ str_width false cs + 1
unfolding str_width
one_more cs =
    ap (λ (r : Reading). (read_before false cs r).0) (sym one_space)
    ∙ sym (ap (λ (r : Reading). r.0) (read_before-append cs (0x20 ∷ []) (0, plain)))
    ∙ str_width-append_simple false cs (0x20 ∷ []) refl ∙ ap (λ n. str_width false cs + n) space_width

-- ---- tests

pub implied : (a b : Bool) → (not a || b) ≡ true → a ≡ true → b ≡ true
implied true b h is = h
implied false b h is = absurd (cc is)

pub implies : (a b : Bool) → (a ≡ true → b ≡ true) → (not a || b) ≡ true
implies true b h = h refl
implies false b h = refl

beq-same : (a b : Bool) → a ≡ b → beq a b ≡ true
beq-same a b e = subst (λ x. beq a x ≡ true) e (self a)
  where
    self : (x : Bool) → beq x x ≡ true
    self true = refl
    self false = refl

pub and_left : (a b : Bool) → (a && b) ≡ true → a ≡ true
and_left a b h = (and_parts a b h).0

pub and_then : (a b : Bool) → (a && b) ≡ true → b ≡ true
and_then a b h = (and_parts a b h).1

-- ---- the rules on clusters for two neighbours

abbrev pub is_break : List ℕ → List ℕ → Bool
is_break = is_grapheme_break true

linker_may : (v : IndicConjunctBreak) (vs : List IndicConjunctBreak) → ends_in_linker (v ∷ vs) ≡ true → may_link v ≡ true
unfolding ends_in_linker
linker_may InCb.Linker vs h = refl
linker_may InCb.Extend vs h = refl
linker_may InCb.Consonant vs h = absurd (cc h)
linker_may InCb.None vs h = absurd (cc h)

pub either_way : (a b p q : Bool) → (a ≡ true → p ≡ true) → (b ≡ true → q ≡ true) → (a || b) ≡ true → (p || q) ≡ true
either_way true b p q f g h = ap (λ t. t || q) (f refl)
either_way false true p q f g h = ap (λ t. p || t) (g refl) ∙ or-true p
either_way false false p q f g h = absurd (cc h)

-- if GB9c or GB11 joins d and c, they are linkable
pub linkable : (before : List ℕ) (d c : ℕ) → (joins_conjunct (d ∷ before) c || joins_emoji (d ∷ before) c) ≡ true → are_linkable d c ≡ true
linkable before d c =
    let ends = ends_in_linker (map indic_conjunct_break (d ∷ before)) in
    let link = may_link (indic_conjunct_break d) in
    let consonant = is_consonant (indic_conjunct_break c) in
    let zwj = is_zwj (grapheme_cluster_break d) in
    let shown = ends_in_pictograph before in
    let pictograph = is_extended_pictographic c in
    either_way (joins_conjunct (d ∷ before) c) (joins_emoji (d ∷ before) c) (link && consonant) (zwj && pictograph)
    (λ h. and_from link consonant (linker_may (indic_conjunct_break d) (map indic_conjunct_break before) (and_left ends consonant h)) (and_then ends consonant h))
    (λ h. and_from zwj pictograph (and_left zwj shown (and_left (zwj && shown) pictograph h)) (and_then (zwj && shown) pictograph h))

-- one step of a reading is the same for a character of the same class
pub read-step : (c d : ℕ) → IsLike c d → (cs : List ℕ) (s : State) → (read cs).1 ≡ s
    → ((read (c ∷ cs)).1 ≡ (step false d (1, s)).1) × ((read (c ∷ cs)).0 + 1 ≡ (read cs).0 + (step false d (1, s)).0)
read-step c d like cs s is =
    let r : Reading = read cs in
    let total = one_more cs in
    let after = one_more (c ∷ cs) in
    let moved : read (c ∷ cs) ≡ (r.0 + (step false c (1, r.1)).0 - 1, (step false c (1, r.1)).1) = (step-moves c r.1).moves r.0 (omega (arith, total)) in
    let same : step false c (1, r.1) ≡ step false d (1, s) = step-like c d 1 r.1 like ∙ ap (λ t. step false d (1, t)) is in
    let first = ap (λ (x : Reading). x.0) moved in
    let added = ap (λ (x : Reading). x.0) same in
    (ap (λ (x : Reading). x.1) moved ∙ ap (λ (x : Reading). x.1) same, omega (arith, first, added, total, after))

-- ---- the relation

-- a text from the character c on, which `before` precedes, last character first, and its clusters if `after` follows
record IsRelated (before : List ℕ) (c : ℕ) (rest after first : List ℕ) (others : List (List ℕ)) : Type 0 where
  pair : Pair
  known : IsIn pairs pair
  pieces : cut is_break before (c ∷ rest) after ≡ first ∷ others
  whole : (read (c ∷ rest)).1 ≡ pair.less.1
  own : (read first).1 ≡ pair.more.1
  right : IsLike c pair.right
  half : ends_in_half_flag (c ∷ before) ≡ pair.mark
  sums : (read (c ∷ rest)).0 + pair.more.0 ≤ (read first).0 + sum_by (str_width false) others + pair.less.0

abbrev AreRelated : List ℕ → ℕ → List ℕ → List ℕ → Type 0
AreRelated before c rest after = (first : List ℕ) × (others : List (List ℕ)) × IsRelated before c rest after first others

-- a text of one character
one_piece : (b : Bool) (c : ℕ) → (if b then (c ∷ []) ∷ [] else prepend (c ∷ []) []) ≡ (c ∷ []) ∷ []
one_piece true c = refl
one_piece false c = refl

anew_plain : (b : Bool) → anew b (0, plain) ≡ (0, plain)
anew_plain true = refl
anew_plain false = refl

-- a text at its end is joined to nothing
fits_start : (c : ℕ) (half : Bool) → (not half || is_regional (grapheme_cluster_break c)) ≡ true → fits c start.right start.mark half ≡ true
unfolding unicode_segmentation
fits_start c half h = and_from _ _ h (ap not (ap₂ ◌||◌ (and-false (c == 0xFE01)) (and-false (is_presentation c))))

related-one : (before : List ℕ) (c : ℕ) (after : List ℕ) → AreRelated before c [] after
unfolding cut ends_in_half_flag
related-one before c after =
    let half = ends_in_half_flag (c ∷ before) in
    let d = example_of c in
    let f = fits_start d.0 half (ap (λ b. not half || is_regional b) (sym d.2.breaks) ∙ implies half _ (λ h. and_left _ _ h)) in
    let it = arrives start d.0 false half starts d.1 f refl in
    let more = anew_plain (is_cut d.0 start.right false half) in
    let one = read-step c d.0 d.2 [] plain refl in
    let m = ap (λ r. r.0 + (step false d.0 (1, r.1)).0) more in
    let totals = it.2.totals in (
      c ∷ [],
      [],
      record {
        pair = it.0;
        known = it.1;
        pieces = one_piece (is_break (c ∷ before) after) c;
        whole = one.0 ∙ sym it.2.less;
        own = one.0 ∙ sym (it.2.more ∙ ap (λ r. (step false d.0 (1, r.1)).1) more);
        right = subst (IsLike c) (sym it.2.right) d.2;
        half = sym it.2.mark;
        sums = omega (arith, totals, m);
      },
    )

-- the tests are the same for characters of the same class
fits-like : (d e c x : ℕ) (mark half : Bool) → IsLike d e → IsLike c x → fits d c mark half ≡ fits e x mark half
fits-like d e c x mark half l m = cc

links-like : (d e c x : ℕ) (joined : Bool) → IsLike d e → IsLike c x → links d c joined ≡ links e x joined
links-like d e c x joined l m = cc

cut-like : (d e c x : ℕ) (joined half : Bool) → IsLike d e → IsLike c x → is_cut d c joined half ≡ is_cut e x joined half
cut-like d e c x joined half l m = cc

-- one more character before c
module _ (before : List ℕ) (d c : ℕ) (rest after first : List ℕ) (others : List (List ℕ)) (r : IsRelated (d ∷ before) c rest after first others) where
  abbrev half : Bool
  half = ends_in_half_flag (d ∷ before)

  abbrev joined : Bool
  joined = joins_conjunct (d ∷ before) c || joins_emoji (d ∷ before) c

  fitting : clash d c ≡ false → fits d c r.pair.mark half ≡ true
  unfolding ends_in_half_flag
  fitting apart = and_from _ _ (implies half _ (λ h. and_left _ _ h)) (and_from _ _ (beq-same _ _ (sym r.half)) (ap not apart))

  same-cut : is_break (d ∷ before) (c ∷ (rest ++ after)) ≡ is_cut d c joined half
  unfolding is_grapheme_break
  same-cut = refl

  more : (e : ℕ) (b : Bool) → IsLike d e → is_break (d ∷ before) (c ∷ (rest ++ after)) ≡ b → (z : Pair) → IsIn pairs z → Covers z (reached r.pair e b half) → AreRelated before d (c ∷ rest) after
  unfolding cut
  more e true like is z known cover =
      let whole = read-step d e like (c ∷ rest) r.pair.less.1 r.whole in
      let own = read-step d e like [] plain refl in
      let sum = sum_by-cons (str_width false) first others in
      let one = one_more first in
      let sums = r.sums in
      let totals = cover.totals in (
        d ∷ [],
        first ∷ others,
        record {
          pair = z;
          known = known;
          pieces = ap₂ (λ b ps. if b then (d ∷ []) ∷ ps else prepend (d ∷ []) ps) is r.pieces;
          whole = whole.0 ∙ sym cover.less;
          own = own.0 ∙ sym cover.more;
          right = subst (IsLike d) (sym cover.right) like;
          half = sym cover.mark;
          sums = omega (arith, totals, whole.1, own.1, sum, one, sums);
        },
      )
  more e false like is z known cover =
      let whole = read-step d e like (c ∷ rest) r.pair.less.1 r.whole in
      let own = read-step d e like first r.pair.more.1 r.own in
      let sums = r.sums in
      let totals = cover.totals in (
        d ∷ first,
        others,
        record {
          pair = z;
          known = known;
          pieces = ap₂ (λ b ps. if b then (d ∷ []) ∷ ps else prepend (d ∷ []) ps) is r.pieces;
          whole = whole.0 ∙ sym cover.less;
          own = own.0 ∙ sym cover.more;
          right = subst (IsLike d) (sym cover.right) like;
          half = sym cover.mark;
          sums = omega (arith, totals, whole.1, own.1, sums);
        },
      )

  related-more : clash d c ≡ false → AreRelated before d (c ∷ rest) after
  related-more apart =
      let e = example_of d in
      let f = sym (fits-like d e.0 c r.pair.right r.pair.mark half e.2 r.right) ∙ fitting apart in
      let l = sym (links-like d e.0 c r.pair.right joined e.2 r.right) ∙ implies joined _ (linkable before d c) in
      let it = arrives r.pair e.0 joined half r.known e.1 f l in
      more e.0 (is_cut e.0 r.pair.right joined half) e.2 (same-cut ∙ cut-like d e.0 c r.pair.right joined half e.2 r.right) it.0 it.1 it.2

related : (before : List ℕ) (c : ℕ) (rest after : List ℕ) → selectors_agree (c ∷ rest) ≡ true → AreRelated before c rest after
related before c [] after h = related-one before c after
related before d (c ∷ rest) after h =
    let parts = and_parts (not (clash d c)) (selectors_agree (c ∷ rest)) h in
    let r = related (d ∷ before) c rest after parts.1 in
    related-more before d c rest after r.0 r.1 r.2 (not-true _ parts.0)

-- the characters of a text measure at most as much as its pieces together
pub pieces_bound : (cs after : List ℕ) → selectors_agree cs ≡ true → str_width false cs ≤ sum_by (str_width false) (cut is_break [] cs after)
unfolding str_width ends_in_half_flag
pieces_bound [] after h = omega arith
pieces_bound (c ∷ rest) after h =
    let all = related [] c rest after h in
    let r = all.2 in
    let half : r.pair.mark ≡ is_regional (grapheme_cluster_break r.pair.right) = sym r.half ∙ and-true (is_regional (grapheme_cluster_break c)) ∙ ap is_regional r.right.breaks in
    let owed = leb-true _ _ (implied (beq r.pair.mark (is_regional (grapheme_cluster_break r.pair.right))) _ (ends-well r.pair r.known) (beq-same _ _ half)) in
    let whole = one_more (c ∷ rest) in
    let own = one_more all.0 in
    let sum = sum_by-cons (str_width false) all.0 all.1 in
    let pieces = ap (sum_by (str_width false)) r.pieces in
    let sums = r.sums in
    omega (arith, owed, whole, own, sum, pieces, sums)
