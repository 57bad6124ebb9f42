-- A pass that counts the terminal columns of an element up to its delimiter.
use Rattle.std.proofs.Common.{◌≡◌, ◌≤◌, ℕ, ◌+◌, ◌*◌, ◌-◌, true, false, ◌&&◌, ◌||◌, ◌==◌, List, [], ◌∷◌, ◌++◌, Some, length, sum_by, refl, sym, ap, ap₂, ◌∙◌, subst, arith, append-nil, append_assoc}
use Rattle.std.specs.Char.{IsScalar}
use Rattle.std.specs.Int.{is_in_range}
use Rattle.std.specs.List.{list_all}
use Rattle.std.specs.Prelude.{encode_utf8, encode_utf8_all, IsUtf8}
use Rattle.std.specs.Str.{IsCharBoundary, NonePass, all_scalars}
use Rattle.std.proofs.lemmas.Bool.{and_parts}
use Rattle.std.proofs.lemmas.Bool.Decides.{nat_tests}
use Rattle.std.proofs.lemmas.List.{length-append}
use Rattle.std.proofs.lemmas.List.Folds.{list_all-append}
use Rattle.std.proofs.lemmas.List.Sums.{sum_by-append, sum_by-cons}
use Rattle.std.proofs.lemmas.Str.{IsCharBoundary-at_seam, IsUtf8-append, IsUtf8-encode, IsUtf8-past_char, chars_from_encodes, cons_from_encodes, encodes-append}
use Rattle.unicode_segmentation.proofs.TextLemmas.{encode_utf8_nonempty}
use Rattle.unicode_width.proofs.Rules.{width_or_zero}
use Rattle.unicode_width.specs.Width.{str_width}
use Rattle.comfy_parts.proofs.OwnWidthLemmas.{own}
use Rattle.comfy_parts.proofs.PrintableElementLemmas.{first-clear}
use Rattle.comfy_parts.proofs.SumKindLemmas.{summed_add_up}
use Rattle.comfy_parts.specs.Columns.{joins_no_other}
use Rattle.comfy_parts.specs.Following.{EndsElement, IsSummed}
use Rattle.comfy_parts.specs.OwnWidth.{own_width}
use Rattle.comfy_parts.specs.Text.{Text}

-- the pass has counted characters before the rest, none of which is a delimiter
pub record IsRun (d : ℕ) (text rest : Text) (columns : ℕ) : Type 0 where
  pub passed : List ℕ
  pub splits : text ≡ encode_utf8_all passed ++ rest
  pub whole : IsUtf8 (encode_utf8_all passed)
  pub after : IsUtf8 rest
  pub apart : list_all joins_no_other passed ≡ true
  pub none : NonePass (λ c. c == d) passed
  pub sum : sum_by (width_or_zero false) passed ≡ columns
  pub bound : columns + 2 * length rest ≤ 2 * length text

none-more : (d c : ℕ) (cs : List ℕ) → NonePass (λ c. c == d) cs → (c == d) ≡ false → NonePass (λ c. c == d) (cs ++ c ∷ [])
none-more d c [] none other = (other, tt)
none-more d c (x ∷ xs) none other = (none.0, none-more d c xs none.1 other)

first_scalar : (rest later : Text) (c : ℕ) → IsUtf8 rest → rest ≡ encode_utf8 c ++ later → IsScalar c
first_scalar rest later c utf8 splits =
    let first = cons_from_encodes utf8.0 later c (utf8.1.1 ∙ splits) in
    (and_parts _ (all_scalars first.0) (sym (ap all_scalars first.1) ∙ utf8.1.0)).0

-- the pass counts one more character
pub run-more : (d : ℕ) (text rest later : Text) (columns c n : ℕ) → IsRun d text rest columns → rest ≡ encode_utf8 c ++ later → own_width c ≡ Some n → (c == d) ≡ false → IsRun d text later (columns + n)
run-more d text rest later columns c n run splits is other =
    let one = own c n is in
    let passed = run.passed in
    let spelt : encode_utf8_all (passed ++ c ∷ []) ≡ encode_utf8_all passed ++ encode_utf8 c =
    encodes-append passed (c ∷ []) ∙ ap (λ (t : Text). encode_utf8_all passed ++ t) (append-nil (encode_utf8 c)) in
    let long = ap length splits ∙ length-append (encode_utf8 c) later in
    let some = encode_utf8_nonempty c in
    let sums = sum_by-append (width_or_zero false) passed (c ∷ []) in
    let last = sum_by-cons (width_or_zero false) c [] in
    record {
      passed = passed ++ c ∷ [];
      splits = run.splits ∙ ap (λ (t : Text). encode_utf8_all passed ++ t) splits ∙ sym (append_assoc (encode_utf8_all passed) (encode_utf8 c) later) ∙ ap (λ (t : Text). t ++ later) (sym spelt);
      whole = subst IsUtf8 (sym spelt) (IsUtf8-append (encode_utf8_all passed) (encode_utf8 c) run.whole (IsUtf8-encode c (first_scalar rest later c run.after splits)));
      after = IsUtf8-past_char rest later c run.after splits;
      apart = list_all-append joins_no_other passed (c ∷ []) ∙ ap₂ (λ a b. a && (b && true)) run.apart one.apart;
      none = none-more d c passed run.none other;
      sum = omega (arith, sums, last, run.sum, one.columns);
      bound = omega (arith, run.bound, long, some, one.most);
    }

-- a wide character isn't a delimiter that isn't wide
pub wide-other : (c d : ℕ) → (is_in_range 0x4E00 0x9FFF c || (is_in_range 0xB000 0xCFFF c || false)) ≡ true → is_in_range 0x4E00 0xCFFF d ≡ false → (c == d) ≡ false
wide-other c d wide other = grind (arith, nat_tests, wide, other)

pub nothing : (text : Text) → length text ≡ 0 → text ≡ []
nothing [] none = refl
nothing (b ∷ bs) none = absurd (omega (arith, none))

-- the pass ends at the end of the element
pub run-ends : (d : ℕ) (text rest : Text) (columns : ℕ) → IsRun d text rest columns → IsScalar d → EndsElement d rest → IsSummed d text rest columns
run-ends d text rest columns run scalar ends =
    let word = encode_utf8_all run.passed in
    let long = ap length run.splits ∙ length-append word rest in
    record {
      word = word;
      element = first-clear d text word rest scalar run.splits run.whole run.after (run.passed, refl, run.none) ends;
      columns_are = sym run.sum ∙ sym (summed_add_up.sums run.passed run.apart) ∙ ap (str_width false) (chars_from_encodes run.passed word run.whole refl);
      bound = omega (arith, run.bound, long);
    }

module _ (d : ℕ) (text after : Text) (columns : ℕ) (summed : IsSummed d text after columns) where
  front-long : length text ≡ length summed.word + length after
  front-long = ap length (sym summed.element.joined) ∙ length-append summed.word after

  -- the text can be cut before the rest
  pub front-boundary : IsCharBoundary text (length text - length after)
  front-boundary =
      let size : length text - length after ≡ length summed.word = omega (arith, front-long) in
      subst (IsCharBoundary text) (sym size) (IsCharBoundary-at_seam text summed.word after (sym summed.element.joined) summed.element.whole_after)
