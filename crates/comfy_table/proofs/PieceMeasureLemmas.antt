-- The pieces of lines that fit are as wide as their columns.
use Rattle.std.proofs.Common.{◌≡◌, ◌≤◌, ℕ, zero, suc, ◌+◌, ◌-◌, Bool, true, false, List, [], ◌∷◌, ◌++◌, Option, length, map, sum, refl, sym, ap, ◌∙◌, subst, arith, append_assoc}
use Rattle.std.specs.List.{repeat, AllZip}
use Rattle.std.specs.Prelude.{if◌then◌else◌, encode_utf8, unwrap_or}
use Rattle.comfy_parts.specs.CellValue.{CellValue, ColumnInfo, info_width}
use Rattle.comfy_parts.specs.Text.{Text, measure, spaces}
use Rattle.comfy_parts.specs.declared.style.table_style.LineStyle.{LineStyle}
use Rattle.comfy_parts.specs.declared.style.table_style.TableStyle.{TableStyle}
use Rattle.comfy_table.specs.Frame.{border_count, character, between_borders, frame_line, draws_left_border, draws_right_border, draws_vertical_lines}
use Rattle.comfy_table.specs.Pieces.{cell_alignment, free_before, free_places, spaces_after}
use Rattle.comfy_table.proofs.CutLemmas.{unstyled_piece}
use Rattle.comfy_table.proofs.SpaceLemmas.{whole_width}
use Rattle.comfy_table.proofs.MeasureLemmas.{IsAny, IsFollowing, apart_follows, HasMeasure, Fronts, HasMeasure-same, HasMeasure-any, HasMeasure-append, HasMeasure-after, HasMeasure-spaces, HasMeasure-text, HasMeasure-repeat, HasMeasure-character, HasMeasure-when, HasMeasure-between, Fronts-when, IsPiece, any_follows}
use Rattle.comfy_parts.proofs.CallerLemmas.{IsFittingLine}
use Rattle.comfy_parts.specs.Columns.{AddsOneColumn, IsApart, IsOneColumn}

-- ---- framed lines

-- pieces of these widths between borders have the border characters and the sum of the widths
pub HasMeasure-joined : (Follows : Text → Type 0) (style : TableStyle) (left junction right : Option ℕ) (widths : List ℕ) (pieces : List Text) → IsFollowing Follows
    → IsOneColumn left → IsOneColumn junction → IsOneColumn right → AllZip (IsPiece Follows (if draws_vertical_lines style then character junction else [])) widths pieces
    → HasMeasure Follows (border_count style (length widths) + sum widths) (between_borders style left junction right pieces)
HasMeasure-joined Follows style left junction right widths pieces follows first middle last each =
    let order : (l r j s : ℕ) → l + ((j + s) + r) ≡ ((l + r) + j) + s = λ l r j s. omega arith in
    HasMeasure-same Follows _ _ _ (order (if draws_left_border style then 1 else 0) (if draws_right_border style then 1 else 0) (if draws_vertical_lines style then length widths - 1 else 0) (sum widths))
    (HasMeasure-after Follows _ _ _ _ (HasMeasure-when (draws_left_border style) (character left) (HasMeasure-character _ first))
    (HasMeasure-append Follows _ _ _ _ (HasMeasure-between Follows (draws_vertical_lines style) (character junction) (HasMeasure-character _ middle) widths pieces each)
    (Fronts-when Follows (draws_right_border style) (unwrap_or right 0x20) follows last)
    (HasMeasure-any Follows _ _ (HasMeasure-when (draws_right_border style) (character right) (HasMeasure-character _ last)))))

-- the fills of a frame line have the whole widths of the columns
fills : (between : Text) (fill : Option ℕ) (widths : List ℕ) → IsOneColumn fill → AllZip (IsPiece IsAny between) widths (map (λ (width : ℕ). repeat width (character fill)) widths)
fills between fill [] one = tt
fills between fill (w ∷ widths) one =
    (record { has = HasMeasure-repeat w (character fill) (HasMeasure-character _ one); fronts = λ rest may. tt }, fills between fill widths one)

-- a frame line over these widths has the border characters and the sum of the widths
pub HasMeasure-frame_line : (style : TableStyle) (line : LineStyle) (widths : List ℕ) → IsOneColumn line.left → IsOneColumn line.fill → IsOneColumn line.junction → IsOneColumn line.right
    → HasMeasure IsAny (border_count style (length widths) + sum widths) (frame_line style line widths)
HasMeasure-frame_line style line widths left fill junction right =
    HasMeasure-joined IsAny style line.left line.junction line.right widths (map (λ (width : ℕ). repeat width (character line.fill)) widths) any_follows left junction right
    (fills (if draws_vertical_lines style then character line.junction else []) line.fill widths fill)

-- ---- pieces

-- spaces may follow, if the text after them may
Fronts-spaces : (Follows : Text → Type 0) (n : ℕ) → IsFollowing Follows → Fronts Follows (spaces n)
Fronts-spaces Follows zero follows rest may = may
Fronts-spaces Follows (suc n) follows rest may = follows.spaced (spaces n ++ rest)

-- a text that begins with at least one space may follow
pub spaced-blank : (Follows : Text → Type 0) (n : ℕ) (rest : Text) → IsFollowing Follows → 1 ≤ n → Follows (spaces n ++ rest)
spaced-blank Follows zero rest follows some = absurd (omega (arith, some))
spaced-blank Follows (suc n) rest follows some = follows.spaced (spaces n ++ rest)

pub spaced-front : (Follows : Text → Type 0) (n : ℕ) (more rest : Text) → IsFollowing Follows → 1 ≤ n → Follows ((spaces n ++ more) ++ rest)
spaced-front Follows zero more rest follows some = absurd (omega (arith, some))
spaced-front Follows (suc n) more rest follows some = follows.spaced ((spaces n ++ more) ++ rest)

-- a text that begins with at least one space can't join a text before it
spaced-end : (a n : ℕ) (rest : Text) → 1 ≤ n → IsApart ((spaces a ++ spaces n) ++ rest)
spaced-end zero zero rest some = absurd (omega (arith, some))
spaced-end zero (suc n) rest some = apart_follows.spaced (spaces n ++ rest)
spaced-end (suc a) n rest some = apart_follows.spaced ((spaces a ++ spaces n) ++ rest)

-- the text after a line in its column: spaces and the right padding
abbrev after : CellValue → ColumnInfo → Text → Text
after cell info line = spaces_after cell info (measure line) ++ spaces info.padding.1

HasMeasure-after_line : (cell : CellValue) (info : ColumnInfo) (line : Text) → HasMeasure IsAny ((free_places info (measure line) - free_before (cell_alignment cell info) (free_places info (measure line))) + info.padding.1) (after cell info line)
HasMeasure-after_line cell info line = HasMeasure-after IsAny _ _ _ _ (HasMeasure-spaces _) (HasMeasure-spaces info.padding.1)

-- a piece is as wide as its column, if its line and the text after it are as wide as they should be together
HasMeasure-padded : (Follows : Text → Type 0) (cell : CellValue) (info : ColumnInfo) (line : Text) → IsFittingLine info.content_width line
    → HasMeasure Follows (measure line + ((free_places info (measure line) - free_before (cell_alignment cell info) (free_places info (measure line))) + info.padding.1)) (line ++ after cell info line)
    → HasMeasure Follows (info_width info) (unstyled_piece cell info line)
HasMeasure-padded Follows cell info line fitting last =
    HasMeasure-same Follows _ _ _ (whole_width (cell_alignment cell info) info.padding.0 (measure line) info.padding.1 info.content_width fitting.fits)
    (HasMeasure-after Follows info.padding.0 _ _ _ (HasMeasure-spaces info.padding.0) (HasMeasure-after Follows _ _ _ _ (HasMeasure-spaces _) last))

-- before a text that can't join it, the piece of a line that fits is as wide as its column
pub piece-apart : (cell : CellValue) (info : ColumnInfo) (line : Text) → IsFittingLine info.content_width line → HasMeasure IsApart (info_width info) (unstyled_piece cell info line)
piece-apart cell info line fitting =
    HasMeasure-padded IsApart cell info line fitting
    (HasMeasure-append IsApart (measure line) _ line (after cell info line) (HasMeasure-text line fitting.whole)
    (λ rest may. subst IsApart (sym (append_assoc (spaces_after cell info (measure line)) (spaces info.padding.1) rest)) (Fronts-spaces IsApart _ apart_follows (spaces info.padding.1 ++ rest) (Fronts-spaces IsApart info.padding.1 apart_follows rest may)))
    (HasMeasure-any IsApart _ _ (HasMeasure-after_line cell info line)))

-- with a padding at its right, the piece is as wide before every text
pub piece-any : (cell : CellValue) (info : ColumnInfo) (line : Text) → 1 ≤ info.padding.1 → IsFittingLine info.content_width line → HasMeasure IsAny (info_width info) (unstyled_piece cell info line)
piece-any cell info line some fitting = HasMeasure-padded IsAny cell info line fitting (record { measures = λ rest _. all rest })
  where
    all : (rest : Text) → measure ((line ++ after cell info line) ++ rest) ≡ (measure line + ((free_places info (measure line) - free_before (cell_alignment cell info) (free_places info (measure line))) + info.padding.1)) + measure rest
    all rest =
        let first = spaced-end (free_places info (measure line) - free_before (cell_alignment cell info) (free_places info (measure line))) info.padding.1 rest some line fitting.whole in
        let second = (HasMeasure-after_line cell info line).measures rest tt in
        ap measure (append_assoc line (after cell info line) rest) ∙ first ∙ omega (arith, second)

-- ---- pieces side by side

-- a piece that is as wide as its column, and may follow another piece with any junction
pub record IsGoodPiece (Follows : Text → Type 0) (v : Bool) (width : ℕ) (piece : Text) : Type 0 where
  pub has : HasMeasure Follows width piece
  pub fronts : (c : ℕ) → AddsOneColumn c → Fronts Follows ((if v then encode_utf8 c else []) ++ piece)

-- a piece of this kind after a junction
pub good-junction : (v : Bool) (width : ℕ) (piece : Text) → v ≡ true → HasMeasure IsApart width piece → IsGoodPiece IsApart v width piece
good-junction true width piece drawn has =
    record { has = has; fronts = λ c adds rest may. subst IsApart (sym (append_assoc (encode_utf8 c) piece rest)) (apart_follows.seals c adds (piece ++ rest)) }
good-junction false width piece drawn has = absurd (cc drawn)

-- a piece of this kind with a space at its beginning
pub good-front : (v : Bool) (width : ℕ) (piece : Text) → ((rest : Text) → IsApart (piece ++ rest)) → HasMeasure IsApart width piece → IsGoodPiece IsApart v width piece
good-front true width piece front has = good-junction true width piece refl has
good-front false width piece front has = record { has = has; fronts = λ c adds rest may. front rest }

-- a piece of this kind that measures its width before every text
pub good-any : (v : Bool) (width : ℕ) (piece : Text) → HasMeasure IsAny width piece → IsGoodPiece IsAny v width piece
good-any v width piece has = record { has = has; fronts = λ c adds rest may. tt }
