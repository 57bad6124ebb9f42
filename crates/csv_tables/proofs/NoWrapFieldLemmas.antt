-- The visible text of fields that aren't broken.
use Rattle.std.proofs.Common.{◌≡◌, ◌&&◌, ◌||◌, Bool, true, false, refl, ◌≤◌, ◌+◌, ◌-◌, ◌*◌, ℕ, zero, suc, List, [], ◌∷◌, ap, arith, length, map, max, nat_le}
use Rattle.std.proofs.lemmas.Bool.{and_parts}
use Rattle.std.proofs.lemmas.Bool.Decides.{nat_tests}
use Rattle.std.specs.List.{list_any}
use Rattle.std.specs.Str.{chars, chars_after, continuation_len, lead_bits}
use Rattle.comfy_parts.specs.CellValue.{CellValue}
use Rattle.std.specs.Prelude.{if◌then◌else◌}
use Rattle.comfy_parts.specs.Text.{Text, greatest, measure}
use Rattle.comfy_parts.specs.VisibleText.{has_escape}
use Rattle.comfy_table.proofs.RowCellLemmas.{clear_measured}
use Rattle.comfy_table.specs.TableValue.{TableValue, cell_content_width, column_cells, column_content_width, measured_cell}
use Rattle.csv_tables.specs.NoWrap.{cell_nowrap_width, cell_word_width, field_width, is_nowrap, nowrap_width, word_width}

-- a text has at most as many characters as bytes
few_after : (n c : ℕ) (bs : Text) → length (chars_after n c bs) ≤ 1 + length bs
few_after zero c [] = omega arith
few_after zero c (b ∷ bs) = let more = few_after (continuation_len b) (lead_bits b) bs in omega (arith, more)
few_after (suc n) c [] = omega arith
few_after (suc n) c (b ∷ bs) = let more = few_after n (c * 64 + (b - 128)) bs in omega (arith, more)

pub few-chars : (text : Text) → length (chars text) ≤ length text
unfolding chars
few-chars [] = omega arith
few-chars (b ∷ bs) = let more = few_after (continuation_len b) (lead_bits b) bs in omega (arith, more)

-- three tests in one
pub first-two : (a b c : Bool) → a ≡ true → b ≡ true → true ≡ a && (b || c)
first-two a b c one other = rw (one, other) refl

pub last : (a b c : Bool) → a ≡ true → b ≡ false → c ≡ a && (b || c)
last a b c one none = rw (one, none) refl

pub none : (a b c : Bool) → a ≡ false → false ≡ a && (b || c)
none a b c is = rw is refl

-- the width of a number or date in a cell of one text line without escape sequences is that of the text
pub of_one_line : (table : TableValue) (room : ℕ) (cell : CellValue) (text : Text) → cell.text_lines ≡ text ∷ [] → list_any has_escape cell.text_lines ≡ false
    → nowrap_width room text ≡ cell_nowrap_width room (measured_cell table cell)
of_one_line table room cell text one clear =
    let measured = ap (cell_nowrap_width room) (clear_measured table cell clear) in
    let lines = ap (λ (ls : List Text). greatest (map (nowrap_width room) ls)) one in
    omega (arith, measured, lines)

-- the widest word of such a cell is that of the text
pub words_of_one_line : (table : TableValue) (cell : CellValue) (text : Text) → cell.text_lines ≡ text ∷ [] → list_any has_escape cell.text_lines ≡ false → word_width text ≡ cell_word_width (measured_cell table cell)
words_of_one_line table cell text one clear =
    let measured = ap cell_word_width (clear_measured table cell clear) in
    let lines = ap (λ (ls : List Text). greatest (map word_width ls)) one in
    omega (arith, measured, lines)

-- ---- contents are no narrower than what isn't broken of them

narrow_lines : (room : ℕ) (lines : List Text) → (greatest (map (nowrap_width room) lines) ≤ room) × (greatest (map (nowrap_width room) lines) ≤ greatest (map measure lines))
narrow_lines room [] = (omega arith, omega arith)
narrow_lines room (line ∷ lines) = by_test (is_nowrap line && nat_le (measure line) room) refl (narrow_lines room lines)
  where
    by_test : (b : Bool) → (is_nowrap line && nat_le (measure line) room) ≡ b → (greatest (map (nowrap_width room) lines) ≤ room) × (greatest (map (nowrap_width room) lines) ≤ greatest (map measure lines))
        → (max (if b then measure line else 0) (greatest (map (nowrap_width room) lines)) ≤ room) × (max (if b then measure line else 0) (greatest (map (nowrap_width room) lines)) ≤ max (measure line) (greatest (map measure lines)))
    by_test true is rest =
        let fits = and_parts (is_nowrap line) (nat_le (measure line) room) is in
        (grind (arith, nat_tests, fits.1, rest.0), omega (arith, rest.1))
    by_test false is rest = (omega (arith, rest.0), omega (arith, rest.1))

narrow_cells : (room : ℕ) → room ≤ 65535 → (cells : List CellValue) → greatest (map (cell_nowrap_width room) cells) ≤ greatest (map cell_content_width cells)
narrow_cells room small [] = omega arith
narrow_cells room small (cell ∷ cells) =
    let own = narrow_lines room cell.text_lines in
    omega (arith, small, own.0, own.1, narrow_cells room small cells)

pub narrow_field : (room : ℕ) (table : TableValue) → room ≤ 65535 → field_width room table ≤ column_content_width table 1
narrow_field room table small = narrow_cells room small (column_cells table 1)
