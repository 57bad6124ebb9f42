-- The written lines of a cell resume its sequences, from top to bottom.
use Rattle.std.proofs.Common.{◌≡◌, ◌<◌, ◌≤◌, ◌⊎◌, inl, inr, ℕ, zero, suc, ◌+◌, ◌-◌, Bool, true, false, List, [], ◌∷◌, ◌++◌, append_assoc, length, length-append, map, nat_le, take, refl, sym, ap, ◌∙◌, arith}
use Rattle.std.specs.List.{AllByRecursion, AllZip}
use Rattle.std.specs.Prelude.{encode_utf8, if◌then◌else◌, zip}
use Rattle.std.proofs.lemmas.List.{length-take}
use Rattle.comfy_parts.proofs.ListLemmas.{AllZip-append}
use Rattle.comfy_parts.proofs.VisibleLineLemmas.{each_slice, lines_resumed, lines_visible}
use Rattle.comfy_parts.specs.CellValue.{CellValue}
use Rattle.comfy_parts.specs.Laws.{IsResumedLine}
use Rattle.comfy_parts.specs.Text.{Text, begins_with, measure}
use Rattle.comfy_parts.specs.VisibleLines.{CellLine, LineStart, line_starts, line_starts_past, line_texts, line_texts_of_text, line_texts_past, starts_of_text, starts_past}
use Rattle.comfy_parts.specs.VisibleText.{line_text, visible_text}
use Rattle.comfy_parts.specs.Wrapping.{line_end, lines_past, part_end, wrapped}
use Rattle.promises.specs.Headline.{AreInOrder, ResumeTheirSequences, ResumesSequences}

module _ (w d : ℕ) where
  -- ---- parts of a cell

  -- a line begins in one of the text lines of a cell
  abbrev IsIn : List Text → LineStart → CellLine → Type 0
  IsIn all from line = (later : List Text) × (all ≡ from.earlier ++ from.text ∷ later)

  are_in : (all earlier text_lines : List Text) → all ≡ earlier ++ text_lines → AllZip (IsIn all) (line_starts_past w d earlier text_lines) (line_texts_past w d earlier text_lines)
  are_in all earlier [] is = tt
  are_in all earlier (text ∷ more) is =
      AllZip-append (IsIn all) _ _ (line_texts_of_text w d earlier text) (line_texts_past w d (earlier ++ text ∷ []) more) (each_slice w d (IsIn all) earlier text (λ start line is_at. (more, is)))
      (are_in all (earlier ++ text ∷ []) more (is ∙ sym (append_assoc earlier (text ∷ []) more)))

  -- ---- their order

  abbrev start_at : List Text → Text → ℕ → LineStart
  start_at earlier text at = record { earlier = earlier; text = text; at = at }

  abbrev line_at : List Text → Text → ℕ × Text → CellLine
  line_at earlier text p = record { measured = p.1; written = line_text earlier text p.0 (length p.1) }

  -- the lines of one text line, and the lines of later ones
  module _ (earlier : List Text) (text : Text) (rest : List LineStart) (lines : List CellLine) where
    abbrev Fits : ℕ → ℕ → ℕ → Type 0
    Fits n m at = (n < length earlier) ⊎ ((n ≡ length earlier) × (m ≤ at))

    abbrev AreLater : Type 0
    AreLater = (n m : ℕ) → n ≤ length earlier → AreInOrder n m rest lines

    no_later : (n m at : ℕ) → Fits n m at → n ≤ length earlier
    no_later n m at (inl less) = omega (arith, less)
    no_later n m at (inr same) = omega (arith, same.0)

    moved : (n m at bt : ℕ) → at ≤ bt → Fits n m at → Fits n m bt
    moved n m at bt past (inl less) = inl less
    moved n m at bt past (inr same) = inr (same.0, omega (arith, past, same.1))

    in_text : AreLater → (at skip : ℕ) (whole : Text) (n m : ℕ) → Fits n m (at + skip)
        → AreInOrder n m (map (start_at earlier text) (starts_past w d at skip whole) ++ rest) (map (line_at earlier text) (zip (starts_past w d at skip whole) (lines_past w d skip whole)) ++ lines)
    unfolding lines_past
    in_text later at zero [] n m fits = later n m (no_later n m (at + 0) fits)
    in_text later at (suc skip) [] n m fits = later n m (no_later n m (at + suc skip) fits)
    in_text later at (suc skip) (b ∷ more) n m fits = in_text later (at + 1) skip more n m (moved n m (at + suc skip) (at + 1 + skip) (omega arith) fits)
    in_text later at zero (b ∷ more) n m fits = by_test (in_text later (at + 1) (part_end w d (b ∷ more) - 1) more) (begins_with d (b ∷ more)) refl
      where
        skip : ℕ
        skip = part_end w d (b ∷ more) - 1

        line : Text
        line = take (line_end w d (b ∷ more)) (b ∷ more)

        by_test : ((k l : ℕ) → Fits k l (at + 1 + skip) → AreInOrder k l (map (start_at earlier text) (starts_past w d (at + 1) skip more) ++ rest) (map (line_at earlier text) (zip (starts_past w d (at + 1) skip more) (lines_past w d skip more)) ++ lines)) → (t : Bool) → begins_with d (b ∷ more) ≡ t
            → AreInOrder n m (map (start_at earlier text) ((if t then [] else at ∷ []) ++ starts_past w d (at + 1) skip more) ++ rest)
            (map (line_at earlier text) (zip ((if t then [] else at ∷ []) ++ starts_past w d (at + 1) skip more) ((if t then [] else line ∷ []) ++ lines_past w d skip more)) ++ lines)
        by_test after true is = after n m (moved n m (at + 0) (at + 1 + skip) (omega arith) fits)
        by_test after false is =
            let end : part_end w d (b ∷ more) ≡ line_end w d (b ∷ more) = ap (λ (t : Bool). if t then length (encode_utf8 d) else line_end w d (b ∷ more)) is in
            let long = length-take (line_end w d (b ∷ more)) (b ∷ more) in (
              moved n m (at + 0) at (omega arith) fits,
              after (length earlier) (at + length line) (inr (refl, omega (arith, end, long))),
            )

    of_text : AreLater → (n m : ℕ) → Fits n m 0 → AreInOrder n m (map (start_at earlier text) (starts_of_text w d (visible_text text)) ++ rest) (line_texts_of_text w d earlier text ++ lines)
    of_text later n m fits = by_test (nat_le (measure visible) w)
      where
        visible : Text
        visible = visible_text text

        by_test : (t : Bool) → AreInOrder n m (map (start_at earlier text) (if t then 0 ∷ [] else starts_past w d 0 0 visible) ++ rest)
            (map (line_at earlier text) (zip (if t then 0 ∷ [] else starts_past w d 0 0 visible) (if t then visible ∷ [] else wrapped w d visible)) ++ lines)
        by_test true = (fits, later (length earlier) (0 + length visible) (omega arith))
        by_test false = in_text later 0 0 visible n m fits

  in_order : (earlier text_lines : List Text) (n m : ℕ) → (n < length earlier) ⊎ ((n ≡ length earlier) × (m ≤ 0)) → AreInOrder n m (line_starts_past w d earlier text_lines) (line_texts_past w d earlier text_lines)
  in_order earlier [] n m fits = tt
  in_order earlier (text ∷ more) n m fits =
      let after = earlier ++ text ∷ [] in
      of_text earlier text (line_starts_past w d after more) (line_texts_past w d after more) (λ k l within. in_order after more k l (inl (omega (arith, within, length-append earlier (text ∷ []))))) n m fits

  -- ---- the lines of a cell

  all_resume : (cell : CellValue) (starts : List LineStart) (lines : List CellLine) → AllZip (IsIn cell.text_lines) starts lines → AllZip IsResumedLine starts lines → AllByRecursion (λ (line : CellLine). visible_text line.written ≡ line.measured) lines → AllZip (ResumesSequences cell) starts lines
  all_resume cell [] [] inside resumed visible = tt
  all_resume cell [] (line ∷ lines) inside resumed visible = absurd inside
  all_resume cell (from ∷ starts) [] inside resumed visible = absurd inside
  all_resume cell (from ∷ starts) (line ∷ lines) inside resumed visible = (
    record { later = inside.0.0; in_cell = inside.0.1; part = resumed.0.is_at; visible = visible.0; resumed = resumed.0.resumed },
    all_resume cell starts lines inside.1 resumed.1 visible.1,
  )

  pub resume : (cell : CellValue) → ResumeTheirSequences cell (map (λ (line : CellLine). line.written) (line_texts w d cell.text_lines))
  resume cell = (
    line_starts w d cell.text_lines,
    line_texts w d cell.text_lines,
    all_resume cell (line_starts w d cell.text_lines) (line_texts w d cell.text_lines) (are_in cell.text_lines [] cell.text_lines refl) (lines_resumed w d cell.text_lines) (lines_visible w d cell.text_lines),
    in_order [] cell.text_lines 0 0 (inr (refl, omega arith)),
    refl,
  )
