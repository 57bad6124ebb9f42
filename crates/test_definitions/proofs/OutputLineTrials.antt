-- The lines of an output.
use Rattle.std.proofs.Common.{◌≡◌, ◌==◌, ◌∙◌, List, [], ◌∷◌, ◌++◌, Some, codes, ap}
use Rattle.std.specs.List.{slice_split}
use Rattle.comfy_parts.specs.Presets.{ascii_full}
use Rattle.comfy_parts.specs.Text.{Text}
use Rattle.comfy_table.proofs.BreakLemmas.{terminated_lines}
use Rattle.comfy_table.specs.Laws.{AreLinesOf, IsStyleWithout}

-- the lines of a text are the parts between its line feeds
pub found : (text : Text) (lines : List Text) → AreLinesOf text lines
    → slice_split (λ b. b == 0x0A) text ≡ lines ++ [] ∷ []
found text lines are = ap (slice_split (λ b. b == 0x0A)) are.joined ∙ terminated_lines lines are.unbroken

-- one line
pub one_line : (line : Text) (lines : List Text) → line ∷ [] ∷ [] ≡ lines ++ [] ∷ [] → lines ≡ line ∷ []
one_line line [] is = absurd (cc is)
one_line line (x ∷ []) is = cc is
one_line line (x ∷ y ∷ []) is = absurd (cc is)
one_line line (x ∷ y ∷ z ∷ more) is = absurd (cc is)

-- two lines
pub two_lines : (first second : Text) (lines : List Text)
    → first ∷ second ∷ [] ∷ [] ≡ lines ++ [] ∷ [] → lines ≡ first ∷ second ∷ []
two_lines first second [] is = absurd (cc is)
two_lines first second (x ∷ []) is = absurd (cc is)
two_lines first second (x ∷ y ∷ []) is = cc is
two_lines first second (x ∷ y ∷ z ∷ []) is = absurd (cc is)
two_lines first second (x ∷ y ∷ z ∷ t ∷ more) is = absurd (cc is)

-- a text that doesn't end with a line feed has no lines
pub unended : (lines : List Text) → ¬ (AreLinesOf (codes "a") lines)
unended lines are = by_lines lines (found (codes "a") lines are)
  where
    by_lines : (xs : List Text) → ¬ (codes "a" ∷ [] ≡ xs ++ [] ∷ [])
    by_lines [] is = let gone : codes "a" ≡ [] = cc is in cc gone
    by_lines (x ∷ []) is = cc is
    by_lines (x ∷ y ∷ more) is = cc is

-- a style with a line feed
broken_style : ¬ (IsStyleWithout 0x0A (record ascii_full { content_lines = record ascii_full.content_lines { left = Some 0x0A } }))
broken_style is = cc is
