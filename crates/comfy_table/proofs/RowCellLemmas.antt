-- Cells of texts without escape sequences.
use Rattle.std.proofs.Common.{◌≡◌, ◌≤◌, ◌+◌, ℕ, zero, suc, Bool, true, false, ◌&&◌, ◌||◌, ◌==◌, List, [], ◌∷◌, ◌++◌, length, map, refl, ap, ap₂, sym, ◌∙◌, arith, append-nil, slice_index_or}
use Rattle.std.proofs.lemmas.Bool.{and_parts, cond_both, or_parts}
use Rattle.std.proofs.lemmas.Bool.Decides.{nat_tests}
use Rattle.std.proofs.lemmas.List.{length-append, length-replicate}
use Rattle.std.proofs.lemmas.List.Folds.{list_all-append}
use Rattle.std.proofs.lemmas.List.Splits.{slice_split_none}
use Rattle.std.specs.Int.{is_in_range}
use Rattle.std.specs.List.{flat_map, list_any, onto_first}
use Rattle.std.specs.Prelude.{if◌then◌else◌}
use Rattle.comfy_parts.proofs.CallerLemmas.{All-none, clear_lines, measure-printable}
use Rattle.comfy_parts.specs.CellValue.{CellValue, plain_cell}
use Rattle.comfy_parts.specs.Text.{Text, greatest, is_printable_ascii, measure, spaces}
use Rattle.comfy_parts.specs.VisibleText.{has_escape, visible_text}
use Rattle.comfy_parts.specs.Wrapping.{lines_of_text}
use Rattle.comfy_table.specs.Lines.{cell_lines}
use Rattle.comfy_table.specs.LongestLine.{text_longest_line}
use Rattle.comfy_table.specs.TableValue.{TableValue, measured_cell}

-- ---- texts of one line

spaces-printable : (n : ℕ) → is_printable_ascii (spaces n) ≡ true
spaces-printable zero = refl
spaces-printable (suc n) = spaces-printable n

spaced-printable : (text : Text) (n : ℕ) → is_printable_ascii text ≡ true → is_printable_ascii (text ++ spaces n) ≡ true
spaced-printable text n printable = list_all-append _ text (spaces n) ∙ ap₂ (λ a b. a && b) printable (spaces-printable n)

feedless : (text : Text) → is_printable_ascii text ≡ true → list_any (λ b. b == 0x0A) text ≡ false
feedless [] printable = refl
feedless (b ∷ bs) printable =
    let parts = and_parts (is_in_range 0x20 0x7E b) (is_printable_ascii bs) printable in
    let own : (b == 0x0A) ≡ false = grind (arith, nat_tests, parts.0) in
    ap₂ (λ x y. x || y) own (feedless bs parts.1)

pub one_line : (text : Text) → list_any (λ b. b == 0x0A) text ≡ false → (plain_cell text).text_lines ≡ text ∷ []
one_line text none = slice_split_none (λ b. b == 0x0A) text (All-none (λ b. b == 0x0A) text none)

pub printable_line : (text : Text) (n : ℕ) → is_printable_ascii text ≡ true → (plain_cell (text ++ spaces n)).text_lines ≡ (text ++ spaces n) ∷ []
printable_line text n printable = one_line (text ++ spaces n) (feedless (text ++ spaces n) (spaced-printable text n printable))

pub printable_columns : (text : Text) (n : ℕ) → is_printable_ascii text ≡ true → length text + n ≡ measure (text ++ spaces n)
printable_columns text n printable =
    let whole = measure-printable (text ++ spaces n) (spaced-printable text n printable) in
    let long = length-append text (spaces n) in
    let count = length-replicate {A = ℕ} n 0x20 in
    omega (arith, whole, long, count)

escapeless : (text : Text) → is_printable_ascii text ≡ true → has_escape text ≡ false
escapeless [] printable = refl
escapeless (b ∷ bs) printable =
    let parts = and_parts (is_in_range 0x20 0x7E b) (is_printable_ascii bs) printable in
    let own : (b == 0x1B) ≡ false = grind (arith, nat_tests, parts.0) in
    ap₂ (λ x y. x || y) own (escapeless bs parts.1)

pub printable_clear : (text : Text) (n : ℕ) → is_printable_ascii text ≡ true → has_escape (text ++ spaces n) ≡ false
printable_clear text n printable = escapeless (text ++ spaces n) (spaced-printable text n printable)

-- ---- lines of texts without escape sequences

onto_first-clear : (b : ℕ) (lines : List Text) → (b == 0x1B) ≡ false → list_any has_escape lines ≡ false → list_any has_escape (onto_first b lines) ≡ false
onto_first-clear b [] own clear = rw own refl
onto_first-clear b (line ∷ lines) own clear = rw own clear

-- no text line of a text without ESC has ESC
pub lines_clear : (text : Text) → has_escape text ≡ false → list_any has_escape (plain_cell text).text_lines ≡ false
lines_clear [] clear = refl
lines_clear (b ∷ bs) clear =
    let each = or_parts (b == 0x1B) (has_escape bs) clear in
    let others = lines_clear bs each.1 in
    cond_both (b == 0x0A) _ _ (λ lines. list_any has_escape lines ≡ false) (λ _. others) (λ _. onto_first-clear b (plain_cell bs).text_lines each.0 others)

-- ---- cells without escape sequences

-- a cell without ESC is measured as it is
pub clear_measured : (table : TableValue) (cell : CellValue) → list_any has_escape cell.text_lines ≡ false → measured_cell table cell ≡ cell
clear_measured table cell none = ap (λ (lines : List Text). record cell { text_lines = lines }) (by_styling table.custom_styling)
  where
    by_styling : (custom : Bool) → (if custom then map visible_text cell.text_lines else cell.text_lines) ≡ cell.text_lines
    by_styling true = sym (clear_lines cell.text_lines none)
    by_styling false = refl

-- the lines of a cell of one text line are the lines of this text line
pub lines_of_one : (w d : ℕ) (cell : CellValue) (text : Text) → cell.text_lines ≡ text ∷ [] → cell_lines w d cell ≡ lines_of_text w d text
lines_of_one w d cell text single = ap (flat_map (lines_of_text w d)) single ∙ append-nil (lines_of_text w d text)

-- no line of a cell without ESC needs custom styling
pub unescaped : (custom : Bool) (cell : CellValue) → list_any has_escape cell.text_lines ≡ false → (custom && list_any has_escape cell.text_lines) ≡ false
unescaped true cell none = none
unescaped false cell none = refl

-- the longest line of one text line that fits is this text line
pub fitting_longest : (w d columns : ℕ) (lines : List Text) → map measure lines ≡ columns ∷ [] → columns ≤ w → greatest (map (text_longest_line w d) lines) ≡ columns
fitting_longest w d columns [] are fits = absurd (omega (arith, ap length are))
fitting_longest w d columns (text ∷ []) are fits =
    let wide : measure text ≡ columns = ap (λ (ns : List ℕ). slice_index_or ns 0 0) are in
    let one : lines_of_text w d text ≡ text ∷ [] = grind (arith, nat_tests, wide, fits) in
    ap (λ (ts : List Text). greatest (greatest (map measure ts) ∷ [])) one ∙ omega (arith, wide)
fitting_longest w d columns (text ∷ (other ∷ lines)) are fits = absurd (omega (arith, ap length are))

-- the longest line of one text line
pub longest_of_one : (w d : ℕ) (lines : List Text) (text : Text) → lines ≡ text ∷ [] → greatest (map (text_longest_line w d) lines) ≡ text_longest_line w d text
longest_of_one w d lines text single = ap (λ (ts : List Text). greatest (map (text_longest_line w d) ts)) single ∙ omega arith
