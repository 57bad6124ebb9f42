-- Lines of a table whose cells may be in bold.
use Rattle.std.proofs.Common.{◌≡◌, ◌⊎◌, inl, inr, ℕ, Bool, true, false, List, [], ◌∷◌, ◌++◌, None, append_assoc, append-nil, codes, sym, ap, ap₂, ◌∙◌, subst}
use Rattle.std.specs.List.{All, AllZip}
use Rattle.std.specs.Prelude.{if◌then◌else◌}
use Rattle.comfy_parts.specs.CellValue.{CellValue, ColumnInfo, RowValue}
use Rattle.comfy_parts.specs.Text.{Text, measure}
use Rattle.comfy_parts.specs.VisibleLines.{CellLine}
use Rattle.comfy_parts.specs.declared.style.attribute.Attribute.{Attribute}
use Rattle.comfy_parts.specs.declared.style.attribute.Attribute.TheVariants.{Bold}
use Rattle.comfy_table.proofs.StyledLemmas.{KeptByJoining}
use Rattle.comfy_table.specs.Drawing.{drawing, infos_of}
use Rattle.comfy_table.specs.Pieces.{padded, piece}
use Rattle.comfy_table.specs.Styling.{styled}
use Rattle.comfy_table.specs.TableValue.{TableValue, header_and_rows, should_style}
use Rattle.promises.proofs.PieceLemmas.{AnyText, drawing_by_pieces, plainly}
use Rattle.csv_promises.specs.Harmless.{IsInBold}
use Rattle.csv_promises.specs.Harmless.IsInBold.{nothing, plain, bold}

pub bold_same : (text : Text) → IsInBold text text
bold_same text = subst (λ (t : Text). IsInBold t t) (append-nil text) (plain text [] [] nothing)

pub bold_both : {line text : Text} (other ys : Text) → IsInBold line text → IsInBold other ys → IsInBold (line ++ other) (text ++ ys)
bold_both other ys nothing back = back
bold_both other ys (plain part line text front) back =
    subst (λ (t : Text). IsInBold t ((part ++ text) ++ ys)) (sym (append_assoc part line other)) (subst (IsInBold (part ++ (line ++ other))) (sym (append_assoc part text ys)) (plain part (line ++ other) (text ++ ys) (bold_both other ys front back)))
bold_both other ys (bold part line text front) back =
    let whole = codes "\u{1b}[1m" ++ (part ++ codes "\u{1b}[0m") in
    subst (λ (t : Text). IsInBold t ((whole ++ text) ++ ys)) (sym (append_assoc part line other)) (subst (IsInBold (part ++ (line ++ other))) (sym (append_assoc whole text ys)) (bold part (line ++ other) (text ++ ys) (bold_both other ys front back)))

joins : KeptByJoining AnyText IsInBold
joins =
    record {
      kind = record { nothing = tt; space = tt; joined = λ xs ys front back. tt; parts = λ xs ys utf8 both. (tt, tt) };
      of_kind = λ text any. bold_same text;
      of_both = λ shown others xs ys front back. bold_both others ys front back;
    }

-- a cell without colours, and without attributes other than bold
pub record IsWeighted (cell : CellValue) : Type 0 where
  pub no_foreground : cell.foreground ≡ None
  pub no_background : cell.background ≡ None
  pub attributes : (cell.attributes ≡ []) ⊎ (cell.attributes ≡ Bold ∷ [])

-- the styled text of the cell
weighted_text : (cell : CellValue) → IsWeighted cell → (text : Text) → IsInBold text (styled cell text)
weighted_text cell is text = by_attributes is.attributes
  where
    made : (attributes : List Attribute) → cell.attributes ≡ attributes → styled cell text ≡ styled (record cell { foreground = None; background = None; attributes = attributes }) text
    made attributes same = ap (λ (c : CellValue). styled c text) (ap₂ (λ f b. record cell { foreground = f; background = b }) is.no_foreground is.no_background) ∙ ap (λ (own : List Attribute). styled (record cell { foreground = None; background = None; attributes = own }) text) same

    by_attributes : (cell.attributes ≡ []) ⊎ (cell.attributes ≡ Bold ∷ []) → IsInBold text (styled cell text)
    by_attributes (inl none) = subst (IsInBold text) (sym (made [] none ∙ append-nil text)) (bold_same text)
    by_attributes (inr own) =
        let is = bold text [] [] nothing in
        subst (IsInBold text) (sym (made (Bold ∷ []) own))
        (subst (λ (t : Text). IsInBold t (codes "\u{1b}[1m" ++ (text ++ codes "\u{1b}[0m"))) (append-nil text) (subst (IsInBold (text ++ [])) (append-nil (codes "\u{1b}[1m" ++ (text ++ codes "\u{1b}[0m"))) is))

-- the lines of such cells, whose whole pieces are styled
pub weighted_lines : (table : TableValue) → table.style_text_only ≡ false → (widths : List ℕ) → All (λ (row : RowValue). All IsWeighted row.cells) (header_and_rows table) → AllZip IsInBold (drawing (plainly table) widths) (drawing table widths)
weighted_lines table wholes widths each = drawing_by_pieces IsInBold joins IsWeighted table (infos_of table widths) pieces each
  where
    pieces : (cell : CellValue) → IsWeighted cell → (info : ColumnInfo) (line : CellLine) → IsInBold (piece (plainly table) cell info line) (piece table cell info line)
    pieces cell is info line = by_tests (should_style table) table.style_text_only wholes
      where
        text : Text
        text = padded cell info (measure line.measured) line.written

        by_tests : (styles text_only : Bool) → text_only ≡ false → IsInBold text (if styles then (if text_only then padded cell info (measure line.measured) (styled cell line.written) else styled cell text) else text)
        by_tests true true own = absurd (cc own)
        by_tests true false own = weighted_text cell is text
        by_tests false text_only own = bold_same text
