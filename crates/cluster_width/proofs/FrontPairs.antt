-- The pairs of the readings of a prefix of a cluster and of the cluster. `mark` is true within the prefix. After the
-- prefix, its reading hasn't begun.
use Rattle.std.proofs.Common.{◌≡◌, ℕ, ◌+◌, Bool, true, false, not, ◌&&◌, ◌||◌, ◌==◌, nat_le, max, List, [], ◌∷◌, map, unwrap_or, inl, refl}
use Rattle.std.specs.List.{flat_map, list_all}
use Rattle.std.specs.Prelude.{if◌then◌else◌}
use Rattle.std.proofs.lemmas.Bool.{and_parts}
use Rattle.ucd_breaks.specs.GraphemeClusterBreak.{grapheme_cluster_break}
use Rattle.unicode_segmentation.specs.Grapheme.{break_by_pair, is_regional}
use Rattle.unicode_segmentation.proofs.Computing.{unicode_segmentation}
use Rattle.unicode_width.specs.Width.{plain}
use Rattle.unicode_width.proofs.Computing.{unicode_width}
use Rattle.cluster_width.proofs.Classes.{IsIn, are_linkable, each, examples}
use Rattle.cluster_width.proofs.Pairs.{Covers, Pair, choices, chosen, close, in_flat, in_only, is_closed, kept, leads, on, only, same_state}

-- d and c may be neighbours in a cluster: no rule on pairs separates them, and if no rule on pairs joins them, GB9c,
-- GB11 or GB12 may
abbrev pub may_join : ℕ → ℕ → Bool
may_join d c =
    not (unwrap_or (break_by_pair true (grapheme_cluster_break d) (grapheme_cluster_break c))
    (not (are_linkable d c || (is_regional (grapheme_cluster_break d) && is_regional (grapheme_cluster_break c)))))

-- the pair with d before it, within the prefix or after it
abbrev pub reached : Pair → ℕ → Bool → Pair
reached x d inside = record { less = if inside then on d x.less else (x.less.0 + 1, x.less.1); more = on d x.more; right = d; mark = inside }

-- d may be before the pair
abbrev pub may_follow : ℕ → Pair → Bool
may_follow d x = (x.right == 0x11_0000) || may_join d x.right

-- the pair to which d leads, within the prefix or after it; no step leads from within the prefix back to the text after
-- it
abbrev choosing : ℕ → Pair → Bool → List Pair
choosing d x inside = only (not x.mark || inside) (λ _. reached x d inside ∷ [])

-- all pairs to which d leads
abbrev next : ℕ → Pair → List Pair
next d x = only (may_follow d x) (λ _. flat_map (choosing d x) choices)

-- the pair at the end of a cluster; its number is that of no character
abbrev pub start : Pair
start = record { less = (0, plain); more = (0, plain); right = 0x11_0000; mark = false }

-- a pair within the prefix with a weaker bound: if both readings are in one state, their difference stays the same, and
-- may be 2
abbrev narrowed : Pair → Pair
narrowed y = if y.mark then record y { less = (if same_state y.less.1 y.more.1 then y.more.0 + 2 else max y.less.0 y.more.0, y.less.1) } else y

-- all pairs that are reached
unfoldable pub pairs : List Pair
pairs = close (λ d x. map narrowed (next d x)) 40 (start ∷ []) (start ∷ [])

-- at its beginning, the prefix measures at most 2 more than the cluster
abbrev ends_well : Pair → Bool
ends_well x = not x.mark || nat_le x.less.0 (x.more.0 + 2)

-- the list of pairs is closed under all steps, and each of them ends well; both are computed
fine : (is_closed next pairs && list_all ends_well pairs) ≡ true
unfolding unicode_segmentation unicode_width examples pairs
fine = refl

pub ends-well : (x : Pair) → IsIn pairs x → ends_well x ≡ true
ends-well x known = each ends_well pairs (and_parts (is_closed next pairs) (list_all ends_well pairs) fine).1 x known

pub starts : IsIn pairs start
unfolding pairs
starts = kept (λ d x. map narrowed (next d x)) 40 (start ∷ []) (start ∷ []) start (inl refl)

-- a step from a pair of the list leads to a pair that one of the list covers
pub arrives : (x : Pair) (d : ℕ) (inside : Bool) → IsIn pairs x → IsIn examples d → may_follow d x ≡ true → (not x.mark || inside) ≡ true
    → (z : Pair) × IsIn pairs z × Covers z (reached x d inside)
arrives x d inside known d_in f h =
    let y = reached x d inside in
    let one = in_only (not x.mark || inside) (λ _. y ∷ []) y h (inl refl) in
    let two = in_only (may_follow d x) (λ _. flat_map (choosing d x) choices) y f (in_flat (choosing d x) choices inside y (chosen inside) one) in
    leads next pairs (and_parts (is_closed next pairs) (list_all ends_well pairs) fine).0 d x y d_in known two
