use Rattle.std.proofs.Common.{ap, ◌+◌, ◌-◌, ◌++◌, ◌∙◌, ℕ, Option, refl, sym, unwrap_or}
use Rattle.comfy_parts.specs.CellValue.{ColumnInfo}
use Rattle.comfy_parts.specs.declared.style.cell.CellAlignment.{CellAlignment}
use Rattle.comfy_parts.specs.declared.style.cell.CellAlignment.TheVariants.{Left}
use Rattle.comfy_table.proofs.SpaceLemmas.{all-styled, bare-is, line-styled, no_styles, padded-is}
use Rattle.comfy_table.specs.DrawnCells.{piece_with}
use Rattle.comfy_table.specs.Pieces.{free_before}
use Rattle.comfy_table.specs.RowCells.{cell_in}
use Rattle.comfy_table.specs.declared.utils.formatting.piece.Styles.{Styles}
use Rattle.comfy_table.proofs.utils.formatting.piece.Piece.new.Goals.{in_default-via-in-RoundTexts+else-has_style, in_default-via-in-RoundPieces+else-has_style-2, in_default-via-in_default}
use Rattle.comfy_table.proofs.utils.formatting.piece.Piece.new.Goals as goal

-- the spaces before a line with this alignment, and those after it
abbrev before : ColumnInfo → ℕ → Option CellAlignment → ℕ
before info columns own = info.padding.0 + free_before (unwrap_or own (unwrap_or info.alignment Left)) (info.content_width - columns)

abbrev after : ColumnInfo → ℕ → Option CellAlignment → ℕ
after info columns own =
    info.content_width - columns - free_before (unwrap_or own (unwrap_or info.alignment Left)) (info.content_width - columns) + info.padding.1

pub returns-in-RoundTexts : goal.returns-in-RoundTexts
returns-in-RoundTexts c =
    let cell = cell_in c.args.cell in
    let info = c.args.info.now in
    let left = c.spaces_around-left.ensures.left ∙ ap (before info c.args.columns) c.alignment.ensures in
    let right = c.spaces_around-left.ensures.right ∙ ap (after info c.args.columns) c.alignment.ensures in
    line-styled cell info c.args.columns _ _ left right (c.args.text.now ++ c.args.end.now)
    ∙ ap (λ (styles : Styles). piece_with styles cell info (record { columns = c.args.columns; written = c.args.text.now ++ c.args.end.now })) (sym c.in-RoundTexts.is)

pub returns-in-RoundPieces : goal.returns-in-RoundPieces
returns-in-RoundPieces c =
    let cell = cell_in c.args.cell in
    let info = c.args.info.now in
    let left = c.spaces_around-left.ensures.left ∙ ap (before info c.args.columns) c.alignment.ensures in
    let right = c.spaces_around-left.ensures.right ∙ ap (after info c.args.columns) c.alignment.ensures in
    all-styled cell info c.args.columns _ _ left right (c.args.text.now ++ c.args.end.now)
    ∙ ap (λ (styles : Styles). piece_with styles cell info (record { columns = c.args.columns; written = c.args.text.now ++ c.args.end.now })) (sym c.in-RoundPieces.is)

pub returns-in_default : goal.returns-in_default
returns-in_default c =
    let cell = cell_in c.args.cell in
    let info = c.args.info.now in
    let columns = c.args.columns in
    let text = c.args.text.now ++ c.args.end.now in
    let left = c.spaces_around-left.ensures.left ∙ ap (before info columns) c.alignment.ensures in
    let right = c.spaces_around-left.ensures.right ∙ ap (after info columns) c.alignment.ensures in
    let bare = bare-is cell info columns _ _ left right c.args.styles text in
    elim c.in_default.branch [
      | in_default-via-in-RoundTexts+else-has_style w ↦
          let none = w.if-has_style.false in
          bare (λ t. no_styles cell t (w.has_style.ensures.background none) (w.has_style.ensures.foreground none) (w.has_style.ensures.attributes none))
      | in_default-via-in-RoundPieces+else-has_style-2 w ↦
          bare (λ t. no_styles cell t (w.if-has_style-2.ensures.background refl) (w.if-has_style-2.ensures.foreground refl) (w.if-has_style-2.ensures.attributes refl))
      | in_default-via-in_default w ↦
          padded-is cell info columns _ _ left right text ∙ ap (λ (styles : Styles). piece_with styles cell info (record { columns = columns; written = text })) (sym w.in_default.is)
    ]
