-- Spaces that are written in runs, and the pieces that they make.
use Rattle.std.proofs.Common.{◌≡◌, ℕ, ◌+◌, ◌-◌, ◌<◌, ◌≤◌, [], ◌++◌, None, length, take, ap, sym, ◌∙◌, arith, append-nil, append_assoc, slice_index_or}
use Rattle.std.proofs.lemmas.List.{get_or-replicate, length-replicate, replicate-append-replicate, take-replicate}
use Rattle.std.proofs.lemmas.List.Elements.{All-replicate}
use Rattle.std.proofs.lemmas.Str.{IsUtf8-from_ascii}
use Rattle.std.proofs.lemmas.Str.Ascii.{IsAscii-from_all}
use Rattle.std.specs.Prelude.{Result, Ok, Err, OnOk, IsUtf8}
use Rattle.comfy_parts.specs.CellValue.{CellValue, ColumnInfo}
use Rattle.comfy_parts.specs.Text.{Text, spaces}
use Rattle.comfy_parts.specs.declared.style.cell.CellAlignment.{CellAlignment}
use Rattle.comfy_parts.specs.declared.style.cell.CellAlignment.TheVariants.{Left, Right, Center}
use Rattle.comfy_table.specs.DrawnCells.{piece_with}
use Rattle.comfy_table.specs.Pieces.{cell_alignment, free_before, free_places, padded}
use Rattle.comfy_table.specs.Styling.{styled}
use Rattle.comfy_table.specs.declared.utils.formatting.piece.Styles.{Styles}
use Rattle.comfy_table.specs.declared.utils.formatting.piece.Styles.TheVariants.{Nowhere, RoundTexts, RoundPieces}

-- two runs one after the other
pub spaces-append : (m n : ℕ) → spaces m ++ spaces n ≡ spaces (m + n)
spaces-append m n = replicate-append-replicate m n 0x20

-- a run of n, and the rest of more than n spaces
pub spaces-taken : (text run : Text) (n left : ℕ) → run ≡ spaces n → n < left → (text ++ run) ++ spaces (left - length run) ≡ text ++ spaces left
spaces-taken text run n left is more = grind (arith, length-replicate, append_assoc, spaces-append)

-- the front of a run
pub spaces-front : (run : Text) (n left : ℕ) → run ≡ spaces n → left ≤ length run → take left run ≡ spaces left
spaces-front run n left is within = grind (arith, length-replicate, take-replicate)

-- each byte of a run is a space
pub space-at : (run : Text) (n i d : ℕ) → run ≡ spaces n → i < length run → slice_index_or run i d ≡ 0x20
space-at run n i d is below = grind (arith, length-replicate, get_or-replicate)

-- the spaces before a line are at most the free terminal columns
pub free_before-le : (alignment : CellAlignment) (free : ℕ) → free_before alignment free ≤ free
free_before-le Left free = omega arith
free_before-le Right free = omega arith
free_before-le Center free = omega arith

-- a line that fits, the spaces beside it and the paddings take the whole width
pub whole_width : (alignment : CellAlignment) (left m right w : ℕ) → m ≤ w → left + (free_before alignment (w - m) + (m + ((w - m - free_before alignment (w - m)) + right))) ≡ left + w + right
whole_width alignment left m right w fits = let among = free_before-le alignment (w - m) in omega (arith, among, fits)

-- a cell without colours and attributes leaves a text as it is
pub no_styles : (cell : CellValue) (text : Text) → cell.background ≡ None → cell.foreground ≡ None → cell.attributes ≡ [] → styled cell text ≡ text
no_styles cell text background foreground attributes = grind (arith, background, foreground, attributes, append-nil)

module _ (cell : CellValue) (info : ColumnInfo) (columns left right : ℕ)
    (is_left : left ≡ info.padding.0 + free_before (cell_alignment cell info) (free_places info columns))
    (is_right : right ≡ free_places info columns - free_before (cell_alignment cell info) (free_places info columns) + info.padding.1) where
  -- a text between the paddings and the spaces that its line leaves
  pub padded-is : (text : Text) → spaces left ++ (text ++ spaces right) ≡ padded cell info columns text
  padded-is text =
      let before = free_before (cell_alignment cell info) (free_places info columns) in
      ap (λ n. spaces n ++ (text ++ spaces right)) is_left
      ∙ ap (λ n. spaces (info.padding.0 + before) ++ (text ++ spaces n)) is_right
      ∙ ap (λ (t : Text). t ++ (text ++ spaces (free_places info columns - before + info.padding.1))) (sym (spaces-append info.padding.0 before))
      ∙ append_assoc (spaces info.padding.0) (spaces before) (text ++ spaces (free_places info columns - before + info.padding.1))
      ∙ ap (λ (t : Text). spaces info.padding.0 ++ (spaces before ++ (text ++ t))) (sym (spaces-append (free_places info columns - before) info.padding.1))

  -- the piece of a line without styles is the same in each place for styles
  pub bare-is : (styles : Styles) (text : Text) → ((t : Text) → styled cell t ≡ t) → spaces left ++ (text ++ spaces right) ≡ piece_with styles cell info (record { columns = columns; written = text })
  bare-is Nowhere text bare = padded-is text
  bare-is RoundTexts text bare = padded-is text ∙ sym (ap (padded cell info columns) (bare text))
  bare-is RoundPieces text bare = padded-is text ∙ sym (bare (padded cell info columns text))

  pub line-styled : (text : Text) → spaces left ++ (styled cell (text ++ []) ++ spaces right) ≡ padded cell info columns (styled cell text)
  line-styled text = ap (λ (t : Text). spaces left ++ (styled cell t ++ spaces right)) (append-nil text) ∙ padded-is (styled cell text)

  pub all-styled : (text : Text) → styled cell (spaces left ++ (text ++ spaces right)) ++ [] ≡ styled cell (padded cell info columns text)
  all-styled text = append-nil (styled cell (spaces left ++ (text ++ spaces right))) ∙ ap (styled cell) (padded-is text)

-- after the last text is appended, the whole text is as wanted
pub last-pushed : {T E : Type 0} (r : Result T E) (new before c : Text) (wanted : Text) → (new ≡ before ++ c → new ≡ wanted) → OnOk r (new ≡ before ++ c) → OnOk r (new ≡ wanted)
last-pushed (Ok x) new before c wanted gives pushed = gives pushed
last-pushed (Err e) new before c wanted gives pushed = pushed

-- spaces are UTF-8
pub spaces-utf8 : (n : ℕ) → IsUtf8 (spaces n)
spaces-utf8 n = IsUtf8-from_ascii (spaces n) (IsAscii-from_all (spaces n) (All-replicate (λ (b : ℕ). b < 128) n 0x20 (omega arith)))
