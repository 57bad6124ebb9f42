-- The lines of a cell whose text has sequences. The visible text decides the ends of lines. Each
-- line begins with the sequences that are open at its start, and closes those that are open at its
-- end.
-- Source: this library's own, in place of custom_styling of comfy-table 8.0.1.
use Rattle.std.specs.Prelude.{ℕ, zero, suc, ◌+◌, ◌-◌, List, [], ◌∷◌, ◌++◌, map, length, nat_le, zip, if◌then◌else◌}
use Rattle.comfy_parts.specs.Text.{Text, measure, begins_with}
use Rattle.comfy_parts.specs.VisibleText.{visible_text, line_text}
use Rattle.comfy_parts.specs.Wrapping.{lines_of_text, part_end}

-- a line of a cell: its visible text, which is measured and cut, and its text as it is written
pub record CellLine : Type 0 where
  pub measured : Text
  pub written : Text

-- the start of a line of a cell: the text lines before its own, its text line, and the position of
-- its first visible byte there
pub record LineStart : Type 0 where
  pub earlier : List Text
  pub text : Text
  pub at : ℕ

-- the positions at which the lines of a text begin
module _ (w d : ℕ) where
  -- the positions after the first `skip` bytes of a text whose front is at position `at`
  abbrev pub starts_past : ℕ → ℕ → Text → List ℕ
  starts_past at skip [] = []
  starts_past at zero (b ∷ rest) =
      (if begins_with d (b ∷ rest) then [] else at ∷ [])
      ++ starts_past (at + 1) (part_end w d (b ∷ rest) - 1) rest
  starts_past at (suc skip) (b ∷ rest) = starts_past (at + 1) skip rest

  -- a text that fits is one line, which begins at 0
  abbrev pub starts_of_text : Text → List ℕ
  starts_of_text text = if nat_le (measure text) w then 0 ∷ [] else starts_past 0 0 text

-- the lines of a text line that follows earlier ones of its cell
abbrev pub line_texts_of_text : ℕ → ℕ → List Text → Text → List CellLine
line_texts_of_text w d earlier text =
    map (λ (p : ℕ × Text). record {
      measured = p.1;
      written = line_text earlier text p.0 (length p.1);
    }) (zip (starts_of_text w d (visible_text text)) (lines_of_text w d (visible_text text)))

-- the lines of text lines that follow earlier ones, whose open sequences stay open
abbrev pub line_texts_past : ℕ → ℕ → List Text → List Text → List CellLine
line_texts_past w d earlier [] = []
line_texts_past w d earlier (text ∷ more) =
    line_texts_of_text w d earlier text ++ line_texts_past w d (earlier ++ text ∷ []) more

-- the lines of all text lines of a cell
abbrev pub line_texts : ℕ → ℕ → List Text → List CellLine
line_texts w d text_lines = line_texts_past w d [] text_lines

-- the starts of the lines of text lines that follow earlier ones
abbrev pub line_starts_past : ℕ → ℕ → List Text → List Text → List LineStart
line_starts_past w d earlier [] = []
line_starts_past w d earlier (text ∷ more) =
    map (λ (at : ℕ). record { earlier = earlier; text = text; at = at })
    (starts_of_text w d (visible_text text)) ++ line_starts_past w d (earlier ++ text ∷ []) more

-- the starts of the lines of all text lines of a cell
abbrev pub line_starts : ℕ → ℕ → List Text → List LineStart
line_starts w d text_lines = line_starts_past w d [] text_lines
