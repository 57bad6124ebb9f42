-- The start of a line, before which delimiters give no line, and the cut of a line from the front of a text.
use Rattle.std.proofs.Common.{◌≡◌, ◌<◌, ℕ, Bool, true, false, ◌==◌, [], ◌∷◌, ◌++◌, length, take, drop, None, refl, sym, ap, ap₂, ◌∙◌, subst, arith, take_at, drop_at}
use Rattle.std.specs.Char.{IsScalar}
use Rattle.std.specs.Prelude.{encode_utf8, encode_utf8_all, IsUtf8}
use Rattle.std.specs.Str.{IsCharBoundary}
use Rattle.std.specs.Str.Pattern.{FindsCharPrefix}
use Rattle.std.proofs.lemmas.Bool.Decides.{nat_tests}
use Rattle.std.proofs.lemmas.Str.{encodes-chars, IsCharBoundary-at_seam}
use Rattle.unicode_segmentation.proofs.TextLemmas.{encode_utf8_nonempty}
use Rattle.comfy_parts.specs.Text.{Text, begins_with}
use Rattle.comfy_parts.specs.Wrapping.{wrapped, lines_past, line_end}
use Rattle.comfy_parts.proofs.EndLemmas.{line-first}
use Rattle.comfy_parts.proofs.WrappingLemmas.{begins_otherwise-unless, begins_with-delimiter, lines_past-delimiter, lines_past-line}

-- if no delimiter is found at the front, the text doesn't begin with one
pub begins_otherwise-none : (d : ℕ) (text : Text) → IsUtf8 text → FindsCharPrefix d text None → begins_with d text ≡ false
begins_otherwise-none d text utf8 none =
    begins_otherwise-unless d text (λ cs characters. none (encode_utf8_all cs) (sym (encodes-chars text utf8) ∙ ap encode_utf8_all characters))

-- a delimiter at the front gives no line
pub wrapped-delimiter : (w d : ℕ) (text after : Text) → IsScalar d → text ≡ encode_utf8 d ++ after → wrapped w d after ≡ wrapped w d text
wrapped-delimiter w d text after scalar splits =
    sym (ap (wrapped w d) splits ∙ lines_past-delimiter w d after (encode_utf8_nonempty d) (begins_with-delimiter d after scalar))

-- a line is cut from the front of a text at a character boundary, and the other lines are those of the text after it
pub record IsLineCut (w d : ℕ) (text : Text) : Type 0 where
  pub place : IsCharBoundary text (line_end w d text)
  pub some : 0 < line_end w d text
  pub whole_rest : IsUtf8 (drop (line_end w d text) text)
  pub lines : wrapped w d text ≡ take (line_end w d text) text ∷ wrapped w d (drop (line_end w d text) text)

-- a text that doesn't begin with a delimiter has a line at its front
pub line-cut : (w d : ℕ) (text : Text) → IsUtf8 text → 0 < length text → begins_with d text ≡ false → IsLineCut w d text
line-cut w d text utf8 some begins =
    let it = line-first w d text utf8 in
    let front : take (line_end w d text) text ≡ it.line = ap (take (line_end w d text)) it.splits ∙ take_at it.line it.tail (line_end w d text) it.ends in
    let back : drop (line_end w d text) text ≡ it.tail = ap (drop (line_end w d text)) it.splits ∙ drop_at it.line it.tail (line_end w d text) it.ends in
    let lines = lines_past-line w d it.line it.tail (it.some some begins) (ap (begins_with d) (sym it.splits) ∙ begins) (it.ends ∙ ap (line_end w d) it.splits) in
    record {
      place = subst (IsCharBoundary text) it.ends (IsCharBoundary-at_seam text it.line it.tail it.splits it.whole_tail);
      some = omega (arith, it.ends, it.some some begins);
      whole_rest = subst IsUtf8 (sym back) it.whole_tail;
      lines = ap (wrapped w d) it.splits ∙ lines ∙ ap₂ (λ a b. a ∷ wrapped w d b) (sym front) (sym back);
    }

-- an empty text has no lines
pub wrapped-empty : (w d : ℕ) (text : Text) (b : Bool) → b ≡ (length text == 0) → b ≡ true → wrapped w d text ≡ []
unfolding lines_past
wrapped-empty w d [] b test holds = refl
wrapped-empty w d (c ∷ cs) b test holds = absurd (grind (arith, nat_tests, test, holds))
