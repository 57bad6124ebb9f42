-- Widths of lines and elements in terminal columns that are known without measuring again.
use Rattle.std.proofs.Common.{◌≡◌, ◌≤◌, ℕ, ◌+◌, false, List, ◌∷◌, ◌++◌, Option, None, Some, length, take, drop, refl, sym, ap, ◌∙◌, subst, arith, append_assoc, length-append}
use Rattle.std.proofs.Math.Seq.{drop-append_seam}
use Rattle.std.proofs.lemmas.List.{length-take-le}
use Rattle.std.specs.List.{All}
use Rattle.std.specs.Prelude.{IfSome, IsUtf8}
use Rattle.std.specs.Str.{IsCharBoundary}
use Rattle.comfy_parts.proofs.FollowingLemmas.{first-at}
use Rattle.comfy_parts.proofs.PrintableTextLemmas.{IsPrintableLine, wrapped-printable}
use Rattle.comfy_parts.proofs.PrintableLemmas.{measure-printable}
use Rattle.comfy_parts.proofs.WideEndLemmas.{exact-columns, first-is, none-wider}
use Rattle.comfy_parts.specs.Following.{AreColumnsUpTo, IsAtLine, IsFirstElement, IsMeasured, IsMeasuredAtEnd, IsWideFrom}
use Rattle.comfy_parts.specs.Laws.{IsPrintable}
use Rattle.comfy_parts.specs.Text.{Text, begins_with, measure}
use Rattle.comfy_parts.specs.Wrapping.{wrapped}
use Rattle.comfy_parts.specs.declared.content_split.ends.Measured.{Measured}

-- the width of the first line of a printable text is its number of bytes
pub first-measured : (w d : ℕ) (text line : Text) (others : List Text) → IsPrintable w d text → wrapped w d text ≡ line ∷ others → length line ≡ measure line
first-measured w d text line others plain is =
    let all : All (IsPrintableLine w) (line ∷ others) = subst (All (IsPrintableLine w)) is (wrapped-printable w d text plain) in
    let first : IsPrintableLine w line = all 0 line (omega arith) in
    sym (measure-printable line first.printable)

-- two suffixes of one text with the same length are the same
same_end : (whole front front' end end' : Text) → whole ≡ front ++ end → whole ≡ front' ++ end' → length end ≡ length end' → end ≡ end'
same_end whole front front' end end' one two same =
    let long : length whole ≡ length front + length end = ap length one ∙ length-append front end in
    let long' : length whole ≡ length front' + length end' = ap length two ∙ length-append front' end' in
    let fronts : length front ≡ length front' = omega (arith, long, long', same) in
    sym (drop-append_seam front end) ∙ ap (drop (length front)) (sym one ∙ two) ∙ ap (λ n. drop n (front' ++ end')) fronts ∙ drop-append_seam front' end'

-- the record of an element that was measured
pub measured-at : (d : ℕ) (text front others next after : Text) (columns : ℕ) → text ≡ front ++ others → IsFirstElement d others next after → columns ≡ measure next
    → IsMeasured d text (length others) (length next) columns
measured-at d text front others next after columns splits element measured =
    let at = first-at d others next after element in
    record { front = front; others = others; splits = splits; left_is = refl; boundary = at.0; element = at.1; columns_are = measured ∙ ap measure (sym (first-is d others next after element)) }

-- the record holds for a text with more at its front
pub measured-past : (d : ℕ) (text word after : Text) (m : Option Measured) → text ≡ word ++ after → IfSome m (λ m. IsMeasured d after m.left m.first m.columns)
    → IfSome m (λ m. IsMeasured d text m.left m.first m.columns)
measured-past d text word after None splits is = is
measured-past d text word after (Some m) splits is = record {
  front = word ++ is.front;
  others = is.others;
  splits = splits ∙ ap (λ (t : Text). word ++ t) is.splits ∙ sym (append_assoc word is.front is.others);
  left_is = is.left_is;
  boundary = is.boundary;
  element = is.element;
  columns_are = is.columns_are;
}

-- the record holds for a text with less at its front
pub measured-after : (d : ℕ) (whole before text : Text) (m : Option Measured) → whole ≡ before ++ text → IfSome m (λ m. IsMeasured d whole m.left m.first m.columns)
    → IfSome m (λ m. IsMeasuredAtEnd d text m.left m.first m.columns)
measured-after d whole before text None splits is = is
measured-after d whole before text (Some m) splits is = (whole, before, splits, is)

-- a line that begins with an element of known width
pub at-first : (w d : ℕ) (text word after : Text) (columns shown : ℕ) → w ≤ 65535 → IsUtf8 text → begins_with d text ≡ false → IsFirstElement d text word after
    → AreColumnsUpTo w columns word → IsWideFrom w shown word → IsAtLine w d text (length word) columns shown
at-first w d text word after columns shown narrow utf8 otherwise is columns_are wide_from =
    let at = first-at d text word after is in
    let same = sym (first-is d text word after is) in
    record {
      narrow = narrow;
      whole = utf8;
      begins_otherwise = otherwise;
      boundary = at.0;
      element = at.1;
      columns_are = subst (AreColumnsUpTo w columns) same columns_are;
      wide_from = subst (IsWideFrom w shown) same wide_from;
    }

-- a line that begins with an element that was measured
pub at-measured : (w d : ℕ) (text start rest : Text) (left first columns : ℕ) → w ≤ 65535 → IsUtf8 rest → begins_with d rest ≡ false → text ≡ start ++ rest
    → IsMeasuredAtEnd d text left first columns → left ≡ length rest → IsAtLine w d rest first columns (first + 1)
at-measured w d text start rest left first columns narrow utf8 otherwise begun (whole, before, splits, is) left_is =
    let same : is.others ≡ rest =
    same_end whole is.front (before ++ start) is.others rest is.splits (splits ∙ ap (λ (t : Text). before ++ t) begun ∙ sym (append_assoc before start rest)) (is.left_is ∙ left_is) in
    let boundary : IsCharBoundary rest first = subst (λ (t : Text). IsCharBoundary t first) same is.boundary in
    let element = subst (λ (t : Text). IsFirstElement d t (take first t) (drop first t)) same is.element in
    let exact = exact-columns w columns (take first rest) (is.columns_are ∙ ap (λ (t : Text). measure (take first t)) same) in
    subst (λ n. IsAtLine w d rest n columns (n + 1)) (length-take-le first rest boundary.0)
    (at-first w d rest (take first rest) (drop first rest) columns (length (take first rest) + 1) narrow utf8 otherwise element exact (none-wider w (take first rest)))
