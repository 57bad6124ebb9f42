-- The longest line of printable ASCII, found part by part from the front.
use Rattle.std.proofs.Common.{◌≡◌, ◌<◌, ◌≤◌, ℕ, true, false, ◌==◌, [], ◌∷◌, ◌++◌, length, map, max, drop, slice_index_or, sym, ap, ◌∙◌, subst, arith}
use Rattle.std.specs.Char.{IsScalar}
use Rattle.std.proofs.lemmas.List.{length-take-le}
use Rattle.std.proofs.lemmas.Str.{encode_ascii}
use Rattle.comfy_parts.specs.Laws.{IsPrintable}
use Rattle.comfy_parts.specs.Text.{Text, begins_with, greatest, is_first, is_printable_ascii, measure}
use Rattle.comfy_parts.specs.Wrapping.{line_end, wrapped}
use Rattle.comfy_parts.proofs.MeasuredLineLemmas.{first-measured}
use Rattle.comfy_parts.proofs.PrintableLemmas.{IsUtf8-printable, below_seven_bits, chars-printable}
use Rattle.comfy_parts.proofs.StartLemmas.{line-cut, wrapped-delimiter}

abbrev longest : ℕ → ℕ → Text → ℕ
longest w d text = greatest (map measure (wrapped w d text))

-- a text begins with another character than d if its first byte isn't d
pub begins-other : (d : ℕ) (text : Text) → is_printable_ascii text ≡ true → 0 < length text → (slice_index_or text 0 0 == d) ≡ false → begins_with d text ≡ false
begins-other d [] printable some other = absurd (omega (arith, some))
begins-other d (c ∷ cs) printable some other = ap (is_first d) (chars-printable (c ∷ cs) printable) ∙ other

-- a delimiter at the front adds nothing
pub past-delimiter : (w d : ℕ) (text : Text) → IsPrintable w d text → IsScalar d → 0 < length text → slice_index_or text 0 0 ≡ d → longest w d text ≡ max 0 (longest w d (drop 1 text))
past-delimiter w d [] plain scalar some is = absurd (omega (arith, some))
past-delimiter w d (c ∷ cs) plain scalar some is =
    let one = encode_ascii d (let below = below_seven_bits d plain.delimiter in omega (arith, below)) in
    let splits = ap (λ b. b ∷ cs) is ∙ ap (λ (t : Text). t ++ cs) (sym one) in
    ap (λ ls. greatest (map measure ls)) (sym (wrapped-delimiter w d (c ∷ cs) cs scalar splits)) ∙ omega arith

-- a line at the front counts with its number of bytes
pub record IsPast (w d : ℕ) (text : Text) (end : ℕ) : Type 0 where
  pub some : 0 < end
  pub bound : end ≤ length text
  pub longest : longest w d text ≡ max end (longest w d (drop end text))

pub past-line : (w d : ℕ) (text : Text) → IsPrintable w d text → 0 < length text → begins_with d text ≡ false → (end : ℕ) → end ≡ line_end w d text → IsPast w d text end
past-line w d text plain some begins end ends =
    let cut = line-cut w d text (IsUtf8-printable text plain.printable) some begins in
    let columns = first-measured w d text _ _ plain cut.lines in
    let bytes = length-take-le (line_end w d text) text cut.place.0 in
    subst (IsPast w d text) (sym ends) (record {
      some = cut.some;
      bound = cut.place.0;
      longest = ap (λ ls. greatest (map measure ls)) cut.lines ∙ ap (λ n. max n (longest w d (drop (line_end w d text) text))) (sym columns ∙ bytes);
    })
