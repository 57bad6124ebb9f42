-- The next of the remaining lines, and the lines after it.
use Rattle.std.proofs.Common.{◌≡◌, ◌<◌, ℕ, ◌-◌, false, ◌∷◌, length, take, drop, refl, sym, ap, ap₂, ◌∙◌, subst}
use Rattle.std.specs.Str.{IsCharBoundary, IsUtf8}
use Rattle.std.proofs.lemmas.Str.{IsUtf8-drop}
use Rattle.std.proofs.lemmas.List.{take-append-drop}
use Rattle.comfy_parts.specs.Following.{AreColumnsUpTo, IsAtLine, IsFirstElement, IsWideFrom}
use Rattle.comfy_parts.specs.Laws.{IsPrintable}
use Rattle.comfy_parts.specs.Text.{Text, begins_with, is_printable_ascii}
use Rattle.comfy_parts.specs.Wrapping.{wrapped, line_end}
use Rattle.comfy_parts.proofs.FollowingLemmas.{first-inside}
use Rattle.comfy_parts.proofs.PrintableLemmas.{IsUtf8-printable, back-printable}
use Rattle.comfy_parts.proofs.WideEndLemmas.{rest-wide}
use Rattle.comfy_parts.proofs.StartLemmas.{line-cut}

-- a text at the start of a line is whole characters, and doesn't begin with d
abbrev pub IsLineStart : ℕ → Text → Type 0
IsLineStart d text = IsUtf8 text × (begins_with d text ≡ false)

pub printable-starts : (w d : ℕ) (text : Text) → IsPrintable w d text → begins_with d text ≡ false → IsLineStart d text
printable-starts w d text plain begins = (IsUtf8-printable text plain.printable, begins)

pub element-starts : (w d : ℕ) (text : Text) (first columns shown : ℕ) → IsAtLine w d text first columns shown → IsLineStart d text
element-starts w d text first columns shown at = (at.whole, at.begins_otherwise)

-- the text after a line of a printable text is printable
pub printable-after : (w d : ℕ) (text : Text) → IsPrintable w d text → (end : ℕ) (remaining : Text) → remaining ≡ drop end text → IsPrintable w d remaining
printable-after w d text plain end remaining back = record {
  columns = plain.columns;
  delimiter = plain.delimiter;
  printable = ap is_printable_ascii back ∙ back-printable (take end text) (drop end text) (ap is_printable_ascii (take-append-drop end text) ∙ plain.printable);
}

-- a text at the start of a line that isn't empty has this line, and the lines after it
pub line-then : (w d : ℕ) (text : Text) → IsLineStart d text → 0 < length text → (end : ℕ) (line remaining : Text)
    → end ≡ line_end w d text → line ≡ take end text → remaining ≡ drop end text → wrapped w d text ≡ line ∷ wrapped w d remaining
line-then w d text (whole, otherwise) some end line remaining ends front back =
    let front_is = front ∙ ap₂ (λ (n : ℕ) (t : Text). take n t) ends refl in
    let back_is = back ∙ ap₂ (λ (n : ℕ) (t : Text). drop n t) ends refl in
    (line-cut w d text whole some otherwise).lines ∙ ap₂ (λ l b. l ∷ wrapped w d b) (sym front_is) (sym back_is)

pub line-place : (w d : ℕ) (text : Text) → IsLineStart d text → 0 < length text → (end : ℕ) → end ≡ line_end w d text → IsCharBoundary text end
line-place w d text (whole, otherwise) some end ends = subst (IsCharBoundary text) (sym ends) (line-cut w d text whole some otherwise).place

-- if a line ends within the first element, the rest of the element follows, with the same bound of wide suffixes
pub rest-shown : (w d : ℕ) (text : Text) (first columns shown : ℕ) → IsAtLine w d text first columns shown → (end : ℕ) → IsCharBoundary text end → end < first → (word remaining : Text)
    → remaining ≡ drop end text → word ≡ take (first - end) remaining → IsWideFrom w shown word
rest-shown w d text first columns shown at end place inside word remaining back part =
    let same : word ≡ take (first - end) (drop end text) = part ∙ ap (take (first - end)) back in
    subst (IsWideFrom w shown) (sym same) (rest-wide text first end at.whole place inside w shown at.wide_from)

-- the next line then begins with this rest
pub rest-at : (w d : ℕ) (text : Text) (first columns shown : ℕ) → IsAtLine w d text first columns shown → (end : ℕ) → IsCharBoundary text end → end < first → (word remaining : Text)
    → remaining ≡ drop end text → word ≡ take (first - end) remaining → (p : ℕ) → AreColumnsUpTo w p word → IsAtLine w d remaining (first - end) p shown
rest-at w d text first columns shown at end place inside word remaining back part p are =
    let after = first-inside d text first end at.whole at.element at.boundary place inside in
    record {
      narrow = at.narrow;
      whole = subst IsUtf8 (sym back) (IsUtf8-drop text end at.whole place);
      begins_otherwise = ap (begins_with d) back ∙ after.2;
      boundary = subst (λ (t : Text). IsCharBoundary t (first - end)) (sym back) after.0;
      element = subst (λ (t : Text). IsFirstElement d t (take (first - end) t) (drop (first - end) t)) (sym back) after.1;
      columns_are = subst (AreColumnsUpTo w p) part are;
      wide_from = subst (IsWideFrom w shown) part (rest-shown w d text first columns shown at end place inside word remaining back part);
    }
