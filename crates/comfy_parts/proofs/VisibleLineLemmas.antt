-- The lines of a cell with sequences. The measured lines are those of the visible text, and each is written as its
-- slice, with its sequences resumed and closed.
use Rattle.std.proofs.Common.{◌≡◌, ℕ, zero, suc, ◌+◌, ◌-◌, Bool, true, false, List, [], ◌∷◌, ◌++◌, length, map, take, drop, zip, nat_le, refl, sym, ap, ap₂, ◌∙◌, arith, ◌<◌, ◌≤◌}
use Rattle.std.specs.List.{flat_map, AllByRecursion, AllZip}
use Rattle.std.specs.Prelude.{if◌then◌else◌}
use Rattle.std.proofs.lemmas.List.{map-append, length-take, length-drop}
use Rattle.std.proofs.Math.Seq.{take-length}
use Rattle.comfy_parts.specs.Text.{Text, measure, begins_with}
use Rattle.comfy_parts.specs.VisibleLines.{CellLine, LineStart, line_starts, line_starts_past, starts_past, starts_of_text, line_texts_of_text, line_texts_past, line_texts}
use Rattle.comfy_parts.specs.VisibleText.{parts, visible_text, open_after, line_text}
use Rattle.comfy_parts.specs.Wrapping.{lines_past, wrapped, lines_of_text, line_end, part_end}
use Rattle.comfy_parts.specs.Laws.{IsResumedLine, LinesAreResumed}
use Rattle.comfy_parts.proofs.LineTextLemmas.{line_closed, line_resumes, line_visible}
use Rattle.std.proofs.lemmas.Simd.{map-map}
use Rattle.std.proofs.lemmas.Slice.Zip.{AllZip-long, seconds-zip}
use Rattle.comfy_parts.proofs.ListLemmas.{AllZip-append, AllZip-map_zip, drop_next, every-always, every-second, take-front}

-- ---- two lists of the same length

-- one more pair before the others, or none
zip-one : (R : ℕ → Text → Type 0) (t : Bool) (at : ℕ) (line : Text) (starts : List ℕ) (lines : List Text) → R at line → AllZip R starts lines
    → AllZip R ((if t then [] else at ∷ []) ++ starts) ((if t then [] else line ∷ []) ++ lines)
zip-one R true at line starts lines here more = more
zip-one R false at line starts lines here more = (here, more)

-- ---- positions of lines

-- the line is part of the text, from this position on
abbrev pub IsTextAt : Text → ℕ → Text → Type 0
IsTextAt whole at line = take (length line) (drop at whole) ≡ line

-- the lines after skipped bytes are parts of the whole text, from their positions on
lines_are_there : (w d : ℕ) (whole : Text) (at skip : ℕ) (text : Text) → drop at whole ≡ text → AllZip (IsTextAt whole) (starts_past w d at skip text) (lines_past w d skip text)
unfolding lines_past
lines_are_there w d whole at zero [] is = tt
lines_are_there w d whole at (suc skip) [] is = tt
lines_are_there w d whole at (suc skip) (b ∷ rest) is = lines_are_there w d whole (at + 1) skip rest (drop_next at whole b rest is)
lines_are_there w d whole at zero (b ∷ rest) is =
    let line : Text = take (line_end w d (b ∷ rest)) (b ∷ rest) in
    zip-one (IsTextAt whole) (begins_with d (b ∷ rest)) at line (starts_past w d (at + 1) (part_end w d (b ∷ rest) - 1) rest) (lines_past w d (part_end w d (b ∷ rest) - 1) rest)
    (ap (take (length line)) is ∙ take-front (line_end w d (b ∷ rest)) (b ∷ rest))
    (lines_are_there w d whole (at + 1) (part_end w d (b ∷ rest) - 1) rest (drop_next at whole b rest is))

-- the lines of a text are parts of it, from their positions on
text_lines_are_there : (w d : ℕ) (text : Text) → AllZip (IsTextAt text) (starts_of_text w d text) (lines_of_text w d text)
text_lines_are_there w d text =
    elim (nat_le (measure text) w) as (λ b. AllZip (IsTextAt text) (if b then 0 ∷ [] else starts_past w d 0 0 text) (if b then text ∷ [] else wrapped w d text))
    [ true ↦ (take-length text, tt) | false ↦ lines_are_there w d text 0 0 text refl ]

-- ---- written lines

-- the measured lines of a text line are the lines of its visible text
visible_of_text : (w d : ℕ) (earlier : List Text) (text : Text) → map (λ (line : CellLine). line.measured) (line_texts_of_text w d earlier text) ≡ lines_of_text w d (visible_text text)
visible_of_text w d earlier text =
    map-map (λ (line : CellLine). line.measured) (λ (p : ℕ × Text). record { measured = p.1; written = line_text earlier text p.0 (length p.1) }) (zip (starts_of_text w d (visible_text text)) (lines_of_text w d (visible_text text)))
    ∙ seconds-zip (starts_of_text w d (visible_text text)) (lines_of_text w d (visible_text text)) (AllZip-long _ _ _ (text_lines_are_there w d (visible_text text)))

visible_past : (w d : ℕ) (earlier text_lines : List Text) → map (λ (line : CellLine). line.measured) (line_texts_past w d earlier text_lines) ≡ flat_map (lines_of_text w d) (map visible_text text_lines)
visible_past w d earlier [] = refl
visible_past w d earlier (text ∷ more) =
    map-append (λ (line : CellLine). line.measured) (line_texts_of_text w d earlier text) (line_texts_past w d (earlier ++ text ∷ []) more)
    ∙ ap₂ (λ (xs ys : List Text). xs ++ ys) (visible_of_text w d earlier text) (visible_past w d (earlier ++ text ∷ []) more)

-- the measured lines of a cell are the lines of its visible texts
pub visible_lines : (w d : ℕ) (text_lines : List Text) → map (λ (line : CellLine). line.measured) (line_texts w d text_lines) ≡ flat_map (lines_of_text w d) (map visible_text text_lines)
visible_lines w d text_lines = visible_past w d [] text_lines

-- a property of each slice of the visible text, and of its written text, holds for each line of a text line
pub each_slice : (w d : ℕ) (Q : LineStart → CellLine → Type 0) (earlier : List Text) (text : Text)
    → ((start : ℕ) (line : Text) → take (length line) (drop start (visible_text text)) ≡ line
    → Q (record { earlier = earlier; text = text; at = start }) (record { measured = line; written = line_text earlier text start (length line) }))
    → AllZip Q (map (λ (at : ℕ). record { earlier = earlier; text = text; at = at }) (starts_of_text w d (visible_text text))) (line_texts_of_text w d earlier text)
each_slice w d Q earlier text gives =
    AllZip-map_zip (IsTextAt (visible_text text)) Q _ (λ (p : ℕ × Text). record { measured = p.1; written = line_text earlier text p.0 (length p.1) }) gives
    (starts_of_text w d (visible_text text)) (lines_of_text w d (visible_text text)) (text_lines_are_there w d (visible_text text))

-- if this is so for all text lines of a kind, the property holds for each line of a cell of such text lines
each_line : (w d : ℕ) (P : Text → Type 0) (Q : LineStart → CellLine → Type 0)
    → ((earlier : List Text) (text : Text) → P text → (start : ℕ) (line : Text) → take (length line) (drop start (visible_text text)) ≡ line
    → Q (record { earlier = earlier; text = text; at = start }) (record { measured = line; written = line_text earlier text start (length line) }))
    → (earlier text_lines : List Text) → AllByRecursion P text_lines → AllZip Q (line_starts_past w d earlier text_lines) (line_texts_past w d earlier text_lines)
each_line w d P Q gives earlier [] each = tt
each_line w d P Q gives earlier (text ∷ more) each =
    AllZip-append Q _ _ (line_texts_of_text w d earlier text) (line_texts_past w d (earlier ++ text ∷ []) more) (each_slice w d Q earlier text (gives earlier text each.0))
    (each_line w d P Q gives (earlier ++ text ∷ []) more each.1)

module _ (w d : ℕ) (text_lines : List Text) where
  -- no sequence is open at the end of a written line
  pub lines_closed : AllByRecursion (λ (line : CellLine). open_after (parts line.written) ≡ []) (line_texts w d text_lines)
  lines_closed =
      every-second _ (line_starts w d text_lines) _
      (each_line w d (λ text. Unit {0}) (λ from line. open_after (parts line.written) ≡ []) (λ earlier text _ start line is_at. line_closed earlier text start (length line)) [] text_lines (every-always _ text_lines (λ _. tt)))

  -- a written line without its sequences is the measured line
  pub lines_visible : AllByRecursion (λ (line : CellLine). visible_text line.written ≡ line.measured) (line_texts w d text_lines)
  lines_visible =
      every-second _ (line_starts w d text_lines) _
      (each_line w d (λ text. Unit {0}) (λ from line. visible_text line.written ≡ line.measured) (λ earlier text _ start line is_at. line_visible earlier text start (length line) ∙ is_at) [] text_lines (every-always _ text_lines (λ _. tt)))

  -- before each visible byte of a written line, the open sequences are those that are open there in the cell
  pub lines_resumed : LinesAreResumed w d text_lines
  lines_resumed =
      each_line w d (λ text. Unit {0}) IsResumedLine
      (λ earlier text _ start line is_at. record { is_at = is_at; resumed = λ k below. line_resumes earlier text start (length line) k (within (visible_text text) start line is_at k below) below }) [] text_lines (every-always _ text_lines (λ _. tt))
    where
      within : (whole : Text) (start : ℕ) (line : Text) → IsTextAt whole start line → (k : ℕ) → k < length line → start + length line ≤ length whole
      within whole start line is_at k below =
          let taken = sym (length-take (length line) (drop start whole)) ∙ ap length is_at in
          let left = length-drop start whole in
          omega (arith, taken, left, below)
