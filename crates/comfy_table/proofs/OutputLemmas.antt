-- Outputs after lines are written to them, one after another.
use Rattle.std.proofs.Common.{◌≡◌, ◌<◌, ◌≤◌, ◌-◌, ℕ, arith, length, take, drop, List, [], ◌∷◌, ◌++◌, map, refl, ap, ap₂, sym, subst, ◌∙◌, append_assoc, append-nil}
use Rattle.std.proofs.Math.Seq.{get_or-append_seam, take-append_seam}
use Rattle.std.proofs.lemmas.List.Folds.{flat_map-map}
use Rattle.std.specs.List.{slice_index}
use Rattle.std.specs.Prelude.{flat_map}
use Rattle.std.specs.Str.{IsCharBoundary, IsUtf8, trim_end}
use Rattle.std.specs.String.Boundary.{IsSplitPoint}
use Rattle.std.proofs.lemmas.List.{length-append, length-take, take-append-drop}
use Rattle.std.proofs.lemmas.Str.{IsCharBoundary-from_take}
use Rattle.std.proofs.lemmas.List.Concat.{flat_map-append}
use Rattle.comfy_parts.specs.Text.{Text}
use Rattle.comfy_table.specs.Drawing.{terminated_text_of, text_of}
use Rattle.comfy_table.specs.Output.{BeginsWith, with_lines}

-- no lines
pub with_lines-none : {A : Type 0} (of : Text → List A) (kept : List A) → with_lines of [] kept ≡ kept
with_lines-none of kept = append-nil kept

-- lines and then more lines
pub with_lines-append : {A : Type 0} (of : Text → List A) (first more : List Text) (kept : List A) → with_lines of more (with_lines of first kept) ≡ with_lines of (first ++ more) kept
with_lines-append of first more kept = append_assoc kept (flat_map of first) (flat_map of more) ∙ ap (λ xs. kept ++ xs) (sym (flat_map-append of first more))

-- the output of lines as a list of texts is these lines
pub with_lines-listed : (lines : List Text) → with_lines (λ (line : Text). line ∷ []) lines [] ≡ lines
with_lines-listed [] = refl
with_lines-listed (line ∷ lines) = ap (λ (more : List Text). line ∷ more) (with_lines-listed lines)

-- a list that begins with two joined lists begins with the first of them
pub begins-before : {A : Type 0} (front more list : List A) → BeginsWith list (front ++ more) → BeginsWith list front
begins-before front more list known =
    let rest = drop (length (front ++ more)) list in
    ap (take (length front)) (sym (take-append-drop (length (front ++ more)) list) ∙ ap (λ t. t ++ rest) known ∙ append_assoc front more rest)
    ∙ take-append_seam front (more ++ rest)

-- a list that begins with an output after lines were written begins with the output before
pub begins-before_lines : {A : Type 0} (of : Text → List A) (lines : List Text) (kept list : List A) → BeginsWith list (with_lines of lines kept) → BeginsWith list kept
begins-before_lines of lines kept list known = begins-before kept (flat_map of lines) list known

-- a text that begins with another one can be split after it
pub begins-split : (front text : Text) (n : ℕ) → IsUtf8 front → IsUtf8 text → n ≡ length front → BeginsWith text front → IsSplitPoint text n
begins-split front text n front_whole whole size begins =
    let within : n ≤ length text = omega (arith, size, ap length begins, length-take (length front) text) in
    let cut : IsCharBoundary text n = IsCharBoundary-from_take text n whole within (subst IsUtf8 (sym (ap (λ k. take k text) size ∙ begins)) front_whole) in
    (cut.0, λ some below high. cut.1 below high)

-- terminated lines have one line feed more than joined lines, after the last one
terminated : (line : Text) (lines : List Text) → terminated_text_of (line ∷ lines) ≡ text_of (line ∷ lines) ++ 0x0A ∷ []
terminated line [] = append-nil (line ++ 0x0A ∷ [])
terminated line (next ∷ lines) = grind (arith, append_assoc, terminated next lines)

-- a text without its last byte
shorter : (front old new : Text) (n : ℕ) → n ≡ length old → old ≡ front ++ 0x0A ∷ [] → (0 < n → slice_index old (n - 1) < 128 → new ≡ take (n - 1) old) → new ≡ front
shorter front old new n size is popped =
    let sized : n - 1 ≡ length front = omega (arith, size, ap length is, length-append front (0x0A ∷ [])) in
    let last : slice_index old (n - 1) ≡ 0x0A = ap₂ (λ (t : Text) k. slice_index t k) is sized ∙ get_or-append_seam front 0x0A [] 0 in
    popped (omega (arith, size, ap length is, length-append front (0x0A ∷ []))) (omega (arith, last))
    ∙ ap₂ (λ (t : Text) k. take k t) is sized ∙ take-append_seam front (0x0A ∷ [])

-- terminated lines without their last line feed are joined lines
pub last-taken : (lines : List Text) (old new : Text) (n m : ℕ) → n ≡ length old → m ≡ length new → old ≡ terminated_text_of lines → m ≤ n
    → (0 < n → slice_index old (n - 1) < 128 → new ≡ take (n - 1) old) → new ≡ text_of lines
last-taken [] old new n m size size' is bound popped = empty new (omega (arith, size, size', bound, ap length is))
  where
    empty : (text : Text) → length text ≤ 0 → text ≡ []
    empty [] none = refl
    empty (b ∷ bs) none = absurd (omega (arith, none))
last-taken (line ∷ lines) old new n m size size' is bound popped = shorter (text_of (line ∷ lines)) old new n size (is ∙ terminated line lines) popped

-- trimmed lines, each followed by a line feed
pub trimmed-text : (lines : List Text) → flat_map (λ (line : Text). trim_end line ++ 0x0A ∷ []) lines ≡ terminated_text_of (map trim_end lines)
trimmed-text lines = sym (flat_map-map (λ (line : Text). line ++ 0x0A ∷ []) trim_end lines)
