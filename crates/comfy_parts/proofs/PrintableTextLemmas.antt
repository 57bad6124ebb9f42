-- The lines of printable ASCII, wrapped or not, are printable ASCII and fit their width.
use Rattle.std.proofs.Common.{◌≡◌, ◌≤◌, ℕ, true, List, [], ◌∷◌, ◌++◌, nat_le, sym, ap, ◌∙◌, arith}
use Rattle.std.specs.Int.{is_in_range}
use Rattle.std.specs.List.{All}
use Rattle.std.proofs.lemmas.Bool.{and_parts, cond_both}
use Rattle.std.proofs.lemmas.Bool.Decides.{nat_tests}
use Rattle.std.proofs.lemmas.List.Elements.{All-cons, All-nil}
use Rattle.std.proofs.lemmas.List.Folds.{list_all-append}
use Rattle.comfy_parts.proofs.CutLineLemmas.{lines_fit}
use Rattle.comfy_parts.proofs.PrintableLemmas.{IsUtf8-printable}
use Rattle.comfy_parts.proofs.SliceLemmas.{scalar-printable}
use Rattle.comfy_parts.proofs.WrappedLemmas.{wrapped_is_wrapped}
use Rattle.comfy_parts.specs.Laws.{IsPrintable}
use Rattle.comfy_parts.specs.Text.{Text, measure, is_printable_ascii}
use Rattle.comfy_parts.specs.Wrapping.{IsSlicesWhere, IsWrapped, wrapped, lines_of_text}

-- a line of printable ASCII that measures at most w
pub record IsPrintableLine (w : ℕ) (line : Text) : Type 0 where
  pub printable : is_printable_ascii line ≡ true
  pub fits : measure line ≤ w

-- slices of printable ASCII are printable ASCII
pub slices-printable : (Ends : Text → Text → Type 0) (d : ℕ) (text : Text) (lines : List Text) → IsSlicesWhere Ends d text lines → is_printable_ascii text ≡ true
    → All (λ line. is_printable_ascii line ≡ true) lines
slices-printable Ends d text [] slices printable = All-nil (λ line. is_printable_ascii line ≡ true)
slices-printable Ends d text (line ∷ lines) (tail, slice, ends, more) printable =
    All-cons (λ line. is_printable_ascii line ≡ true) line lines both.0 (slices-printable Ends d tail lines more both.1)
  where
    rest : is_printable_ascii (line ++ tail) ≡ true
    rest = (and_parts (is_printable_ascii slice.gap) (is_printable_ascii (line ++ tail)) (sym (list_all-append (is_in_range 0x20 0x7E) slice.gap (line ++ tail)) ∙ ap is_printable_ascii (sym slice.splits) ∙ printable)).1

    both : (is_printable_ascii line ≡ true) × (is_printable_ascii tail ≡ true)
    both = and_parts (is_printable_ascii line) (is_printable_ascii tail) (sym (list_all-append (is_in_range 0x20 0x7E) line tail) ∙ rest)

-- a text of printable ASCII is wrapped into printable lines
pub wrapped-printable : (w d : ℕ) (text : Text) → IsPrintable w d text → All (IsPrintableLine w) (wrapped w d text)
wrapped-printable w d text plain k default below =
    record { printable = slices-printable _ d text (wrapped w d text) lines plain.printable k default below; fits = lines_fit w d text (wrapped w d text) lines plain k default below }
  where
    lines : IsWrapped w d text (wrapped w d text)
    lines = wrapped_is_wrapped w d text (scalar-printable d plain.delimiter) (IsUtf8-printable text plain.printable)

-- the lines of a printable text at a width, wrapped if needed, are printable and fit
pub lines_of_text-printable : (w d : ℕ) (text : Text) → IsPrintable w d text → All (IsPrintableLine w) (lines_of_text w d text)
lines_of_text-printable w d text plain =
    cond_both (nat_le (measure text) w) _ _ (All (IsPrintableLine w))
    (λ fits. All-cons (IsPrintableLine w) text [] (record { printable = plain.printable; fits = grind (arith, nat_tests, fits) }) (All-nil (IsPrintableLine w))) (λ _. wrapped-printable w d text plain)
