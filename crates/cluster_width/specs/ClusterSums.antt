-- The measures of texts, which are their widths in terminal columns, and the measures of their
-- clusters by themselves.
-- Source: UAX 29 for clusters, unicode-width 0.2.3 for measures.
use Rattle.std.specs.Prelude.{◌≡◌, ℕ, ◌≤◌, Bool, true, false, not, ◌&&◌, ◌||◌, ◌==◌, chars, List, [], ◌∷◌, ◌++◌, ◌+◌, take, sum_by, IsUtf8}
use Rattle.std.specs.List.{All, concat}
use Rattle.unicode_segmentation.specs.Grapheme.{graphemes}
use Rattle.unicode_width.specs.Width.{str_width}

-- a text, as its bytes
abbrev pub Text : Type 0
Text = List ℕ

-- the terminal columns that a text takes
abbrev pub measure : Text → ℕ
measure text = str_width false (chars text)

-- the extended grapheme clusters of a text, in order
abbrev pub clusters : Text → List Text
clusters text = graphemes true text

-- U+FE0E and U+FE0F, which choose between text and emoji presentation
abbrev pub is_presentation : ℕ → Bool
is_presentation c = (c == 0xFE0E) || (c == 0xFE0F)

-- one of two neighbouring characters is U+FE01, which widens a quotation mark, and the other is
-- U+FE0E or U+FE0F
abbrev pub clash : ℕ → ℕ → Bool
clash c d = ((c == 0xFE01) && is_presentation d) || (is_presentation c && (d == 0xFE01))

abbrev pub clashes : ℕ → List ℕ → Bool
clashes c [] = false
clashes c (d ∷ cs) = clash c d

-- U+FE01 is never directly next to U+FE0E or U+FE0F
abbrev pub selectors_agree : List ℕ → Bool
selectors_agree [] = true
selectors_agree (c ∷ cs) = not (clashes c cs) && selectors_agree cs

-- a text measures at most as much as its clusters together
abbrev pub ClustersBoundTheMeasure : Text → Type 0
ClustersBoundTheMeasure text =
    IsUtf8 text → selectors_agree (chars text) ≡ true
    → measure text ≤ sum_by measure (clusters text)

-- the first n clusters of a text together measure at most as much as by themselves
abbrev pub FrontsBoundTheMeasure : Text → ℕ → Type 0
FrontsBoundTheMeasure text n =
    IsUtf8 text → selectors_agree (chars text) ≡ true
    → measure (concat (take n (clusters text))) ≤ sum_by measure (take n (clusters text))

-- a prefix of a cluster measures at most two terminal columns more than the cluster
abbrev pub FrontsOfClustersAreBounded : Text → Type 0
FrontsOfClustersAreBounded text =
    IsUtf8 text
    → All (λ (cluster : Text). (front rest : Text) → IsUtf8 front → cluster ≡ front ++ rest
    → measure front ≤ measure cluster + 2) (clusters text)

-- a prefix of some cluster measures exactly two terminal columns more
pub record SomeFrontTakesTwoMore : Type 0 where
  pub front : Text
  pub rest : Text
  pub whole_characters : IsUtf8 front
  pub one_cluster : clusters (front ++ rest) ≡ (front ++ rest) ∷ []
  pub two_more : measure front ≡ measure (front ++ rest) + 2
