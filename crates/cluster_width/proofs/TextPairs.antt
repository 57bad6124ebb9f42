-- The pairs of the readings of a text and of its clusters, one after another. At the end of a cluster, the second
-- reading starts anew.
use Rattle.std.proofs.Common.{◌≡◌, ℕ, Bool, true, false, not, ◌&&◌, ◌||◌, nat_le, List, [], ◌∷◌, unwrap_or, inl, refl}
use Rattle.std.specs.Bool.{beq}
use Rattle.std.specs.List.{flat_map, list_all}
use Rattle.std.specs.Prelude.{if◌then◌else◌}
use Rattle.std.proofs.lemmas.Bool.{and_parts}
use Rattle.ucd_breaks.specs.GraphemeClusterBreak.{grapheme_cluster_break}
use Rattle.unicode_segmentation.specs.Grapheme.{break_by_pair, is_regional}
use Rattle.unicode_segmentation.proofs.Computing.{unicode_segmentation}
use Rattle.unicode_width.specs.Width.{Reading, plain}
use Rattle.unicode_width.proofs.Computing.{unicode_width}
use Rattle.cluster_width.specs.ClusterSums.{clash}
use Rattle.cluster_width.proofs.Classes.{IsIn, are_linkable, each, examples}
use Rattle.cluster_width.proofs.Pairs.{Pair, choices, Covers, chosen, close, in_flat, in_only, is_closed, kept, leads, on, only}

-- the condition on d before c, if a half flag ends with d (`half`) and with c (`mark`)
abbrev pub fits : ℕ → ℕ → Bool → Bool → Bool
fits d c mark half =
    (not half || is_regional (grapheme_cluster_break d)) && (beq mark (is_regional (grapheme_cluster_break c) && not half) && not (clash d c))

-- the condition on d before c, if rule GB9c or GB11 joins them (`joined`)
abbrev pub links : ℕ → ℕ → Bool → Bool
links d c joined = not joined || are_linkable d c

-- true if there is a boundary between d and c
abbrev pub is_cut : ℕ → ℕ → Bool → Bool → Bool
is_cut d c joined half =
    unwrap_or (break_by_pair true (grapheme_cluster_break d) (grapheme_cluster_break c)) (not (joined || (half && is_regional (grapheme_cluster_break c))))

-- the reading, which starts anew if b is true
abbrev pub anew : Bool → Reading → Reading
anew b r = if b then (r.0, plain) else r

-- the pair with d before it; b is true if a cluster begins after d
abbrev pub reached : Pair → ℕ → Bool → Bool → Pair
reached x d b half = record { less = on d x.less; more = on d (anew b x.more); right = d; mark = half }

-- the pairs to which d leads, if d may be joined in this way
abbrev joining : ℕ → Pair → Bool → Bool → List Pair
joining d x half joined = only (links d x.right joined) (λ _. reached x d (is_cut d x.right joined half) half ∷ [])

-- the pairs to which d leads, if a half flag ends with d or not
abbrev standing : ℕ → Pair → Bool → List Pair
standing d x half = only (fits d x.right x.mark half) (λ _. flat_map (joining d x half) choices)

-- all pairs to which d leads
abbrev next : ℕ → Pair → List Pair
next d x = flat_map (standing d x) choices

-- the pair at the end of a text, which is the same as before a control character
abbrev pub start : Pair
start = record { less = (0, plain); more = (0, plain); right = 0; mark = false }

-- all pairs that are reached
unfoldable pub pairs : List Pair
pairs = close next 40 (start ∷ []) (start ∷ [])

-- at the beginning of a text, its clusters measure at least as much as the text
abbrev ends_well : Pair → Bool
ends_well x = not (beq x.mark (is_regional (grapheme_cluster_break x.right))) || nat_le x.less.0 x.more.0

-- the list of pairs is closed under all steps, and each of them ends well; both are computed
fine : (is_closed next pairs && list_all ends_well pairs) ≡ true
unfolding unicode_segmentation unicode_width examples pairs
fine = refl

pub ends-well : (x : Pair) → IsIn pairs x → ends_well x ≡ true
ends-well x known = each ends_well pairs (and_parts (is_closed next pairs) (list_all ends_well pairs) fine).1 x known

pub starts : IsIn pairs start
unfolding pairs
starts = kept next 40 (start ∷ []) (start ∷ []) start (inl refl)

-- a step from a pair of the list leads to a pair that one of the list covers
pub arrives : (x : Pair) (d : ℕ) (joined half : Bool) → IsIn pairs x → IsIn examples d → fits d x.right x.mark half ≡ true → links d x.right joined ≡ true
    → (z : Pair) × IsIn pairs z × Covers z (reached x d (is_cut d x.right joined half) half)
arrives x d joined half known d_in f l =
    let y = reached x d (is_cut d x.right joined half) half in
    let one = in_only (links d x.right joined) (λ _. y ∷ []) y l (inl refl) in
    let two = in_only (fits d x.right x.mark half) (λ _. flat_map (joining d x half) choices) y f (in_flat (joining d x half) choices joined y (chosen joined) one) in
    leads next pairs (and_parts (is_closed next pairs) (list_all ends_well pairs) fine).0 d x y d_in known (in_flat (standing d x) choices half y (chosen half) two)
