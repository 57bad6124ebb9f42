-- Properties that texts keep as they are drawn: as styled texts, and as pieces.
use Rattle.std.proofs.Common.{◌≡◌, length, is_some, ℕ, zero, suc, ◌/◌, ◌%◌, Bool, true, false, ◌&&◌, ◌==◌, List, [], ◌∷◌, ◌++◌, Option, Some, None, refl, ap₂, ◌∙◌, subst, arith, append-nil}
use Rattle.std.specs.List.{list_all, flat_map, filter}
use Rattle.std.specs.Fmt.{digits, digits_onto, digit_glyph, decimal}
use Rattle.std.specs.Prelude.{if◌then◌else◌, codes}
use Rattle.std.proofs.lemmas.Bool.{and_parts, cond_both}
use Rattle.std.proofs.lemmas.List.Folds.{list_all-append}
use Rattle.comfy_parts.specs.CellValue.{CellValue, ColumnInfo}
use Rattle.comfy_parts.specs.Text.{Text, measure, spaces}
use Rattle.comfy_parts.specs.VisibleLines.{CellLine}
use Rattle.comfy_table.proofs.CutLemmas.{unstyled_piece}
use Rattle.comfy_table.proofs.TextKindLemmas.{IsKind}
use Rattle.comfy_parts.specs.VisibleText.{closed, is_parameter, visible_text}
use Rattle.comfy_parts.specs.declared.style.attribute.Attribute.{Attribute}
use Rattle.comfy_parts.specs.declared.style.color.Color.{Color}
use Rattle.comfy_parts.specs.declared.style.color.Color.TheVariants as colors
use Rattle.comfy_table.specs.Pieces.{padded, piece}
use Rattle.comfy_table.specs.Styling.{sequence, color_code, foreground_code, background_code, attribute_code, all_attributes, has_attribute, attribute_sequences, optional_sequence, style_begin, style_end, styled}
use Rattle.comfy_table.specs.TableValue.{TableValue, should_style}

-- ---- properties that drawing keeps

-- a relation between a text and its visible part: it holds of texts of the kind C, and texts keep it as they are joined
pub record KeptByJoining (C : Text → Type 0) (R : Text → Text → Type 0) : Type 0 where
  pub kind : IsKind C
  pub of_kind : (text : Text) → C text → R text text
  pub of_both : (shown others xs ys : Text) → R shown xs → R others ys → R (shown ++ others) (xs ++ ys)

-- texts also keep it as they are drawn, if their visible parts are of the kind C
pub record KeptByDrawing (C : Text → Type 0) (R : Text → Text → Type 0) : Type 0 where
  pub joins : KeptByJoining C R
  pub of_sequence : (code : Text) → list_all is_parameter code ≡ true → R [] (sequence code)
  pub of_measured : (text : Text) → C (visible_text text) → R (visible_text text) text
  pub of_closed : (text : Text) → C text → R text (closed text)

-- ---- codes are parameters

-- a digit is a parameter
parameter-glyph : (n : ℕ) → is_parameter (digit_glyph false (n % 10)) ≡ true
parameter-glyph n = grind arith

-- digits before parameters are parameters
digits_onto-parameters : (k n : ℕ) (acc : Text) → list_all is_parameter acc ≡ true → list_all is_parameter (digits_onto k 10 false n acc) ≡ true
digits_onto-parameters zero n acc all = all
digits_onto-parameters (suc k) n acc all =
    by_test (n / 10 == 0) (digits_onto-parameters k (n / 10) (digit_glyph false (n % 10) ∷ acc) longer)
  where
    longer : list_all is_parameter (digit_glyph false (n % 10) ∷ acc) ≡ true
    longer = ap₂ (λ a b. a && b) (parameter-glyph n) all

    by_test : (b : Bool) → list_all is_parameter (digits_onto k 10 false (n / 10) (digit_glyph false (n % 10) ∷ acc)) ≡ true
        → list_all is_parameter (if b then digit_glyph false (n % 10) ∷ acc else digits_onto k 10 false (n / 10) (digit_glyph false (n % 10) ∷ acc)) ≡ true
    by_test true rest = longer
    by_test false rest = rest

-- a number in decimal consists of parameters
pub decimal-parameters : (n : ℕ) → list_all is_parameter (decimal n) ≡ true
unfolding digits
decimal-parameters n = digits_onto-parameters 64 n [] refl

-- two texts of parameters make a text of parameters
both_parameters : (xs ys : Text) → list_all is_parameter xs ≡ true → list_all is_parameter ys ≡ true → list_all is_parameter (xs ++ ys) ≡ true
both_parameters xs ys front back = list_all-append is_parameter xs ys ∙ ap₂ (λ a b. a && b) front back

-- the code of a colour consists of parameters
color_code-parameters : (color : Color) → list_all is_parameter (color_code color) ≡ true
color_code-parameters (colors.AnsiValue v) = both_parameters (codes "5;") (decimal v) refl (decimal-parameters v)
color_code-parameters (colors.Rgb r g b) = grind (arith, both_parameters, decimal-parameters)
color_code-parameters _ = refl

-- the code of a foreground consists of parameters
foreground-parameters : (color : Color) → list_all is_parameter (foreground_code color) ≡ true
foreground-parameters colors.Reset = refl
foreground-parameters color = color_code-parameters color

-- the code of a background consists of parameters
background-parameters : (color : Color) → list_all is_parameter (background_code color) ≡ true
background-parameters colors.Reset = refl
background-parameters color = color_code-parameters color

-- ---- joined texts

module _ (C : Text → Type 0) (R : Text → Text → Type 0) (joins : KeptByJoining C R) where
  -- an empty text
  pub keeps_nothing : R [] []
  keeps_nothing = joins.of_kind [] joins.kind.nothing

  -- spaces
  pub keeps_spaces : (n : ℕ) → R (spaces n) (spaces n)
  keeps_spaces zero = keeps_nothing
  keeps_spaces (suc n) =
      joins.of_both (0x20 ∷ []) (spaces n) (0x20 ∷ []) (spaces n) (joins.of_kind (0x20 ∷ []) joins.kind.space) (keeps_spaces n)

module _ (C : Text → Type 0) (R : Text → Text → Type 0) (kept : KeptByDrawing C R) where
  -- ---- sequences, which have no visible part

  -- the sequence of a colour
  keeps_optional_sequence : (code : Color → Text) (color : Option Color) → ((c : Color) → list_all is_parameter (code c) ≡ true) → R [] (optional_sequence code color)
  keeps_optional_sequence code None all = keeps_nothing C R kept.joins
  keeps_optional_sequence code (Some color) all = kept.of_sequence (code color) (all color)

  -- the sequences of attributes
  keeps_attributes : (p : Attribute → Bool) (attributes : List Attribute) → list_all (λ (a : Attribute). list_all is_parameter (attribute_code a)) attributes ≡ true
      → R [] (flat_map (λ (a : Attribute). sequence (attribute_code a)) (filter p attributes))
  keeps_attributes p [] all = keeps_nothing C R kept.joins
  keeps_attributes p (a ∷ more) all =
      let both = and_parts (list_all is_parameter (attribute_code a)) (list_all (λ (b : Attribute). list_all is_parameter (attribute_code b)) more) all in
      let rest = keeps_attributes p more both.1 in
      cond_both (p a) (a ∷ filter p more) (filter p more) (λ chosen. R [] (flat_map (λ (a : Attribute). sequence (attribute_code a)) chosen))
      (λ _. kept.joins.of_both [] [] (sequence (attribute_code a)) _ (kept.of_sequence (attribute_code a) both.0) rest) (λ _. rest)

  -- the sequences before a styled text
  pub keeps_style_begin : (cell : CellValue) → R [] (style_begin cell)
  keeps_style_begin cell =
      kept.joins.of_both [] [] (optional_sequence background_code cell.background) (optional_sequence foreground_code cell.foreground ++ attribute_sequences cell.attributes)
      (keeps_optional_sequence background_code cell.background background-parameters)
      (kept.joins.of_both [] [] (optional_sequence foreground_code cell.foreground) (attribute_sequences cell.attributes)
      (keeps_optional_sequence foreground_code cell.foreground foreground-parameters) (keeps_attributes (has_attribute cell.attributes) all_attributes refl))

  -- the sequences after a styled text
  pub keeps_style_end : (cell : CellValue) → R [] (style_end cell)
  keeps_style_end cell =
      cond_both (length cell.attributes == 0) _ _ (R [])
      (λ _. kept.joins.of_both [] [] _ _ (cond_both (is_some cell.background) _ [] (R []) (λ _. kept.of_sequence (codes "49") refl) (λ _. keeps_nothing C R kept.joins))
      (cond_both (is_some cell.foreground) _ [] (R []) (λ _. kept.of_sequence (codes "39") refl) (λ _. keeps_nothing C R kept.joins)))
      (λ _. kept.of_sequence (codes "0") refl)

  -- a styled text
  keeps_styled : (cell : CellValue) (shown text : Text) → R shown text → R shown (styled cell text)
  keeps_styled cell shown text own =
      subst (λ s. R s (styled cell text)) (append-nil shown)
      (kept.joins.of_both [] (shown ++ []) (style_begin cell) (text ++ style_end cell) (keeps_style_begin cell) (kept.joins.of_both shown [] text (style_end cell) own (keeps_style_end cell)))

  -- ---- pieces

  -- a padded text
  keeps_padded : (cell : CellValue) (info : ColumnInfo) (columns : ℕ) (shown text : Text) → R shown text → R (padded cell info columns shown) (padded cell info columns text)
  keeps_padded cell info columns shown text own = grind (arith, kept.joins.of_both, keeps_spaces C R kept.joins)

  -- the piece of a line, and the unstyled piece of its measured text
  pub keeps_piece : (table : TableValue) (cell : CellValue) (info : ColumnInfo) (line : CellLine) → R line.measured line.written → R (unstyled_piece cell info line.measured) (piece table cell info line)
  keeps_piece table cell info line own = by_tests (should_style table) table.style_text_only
    where
      columns : ℕ
      columns = measure line.measured

      by_tests : (styles text_only : Bool)
          → R (unstyled_piece cell info line.measured) (if styles then (if text_only then padded cell info columns (styled cell line.written) else styled cell (padded cell info columns line.written)) else padded cell info columns line.written)
      by_tests true true = keeps_padded cell info columns line.measured (styled cell line.written) (keeps_styled cell line.measured line.written own)
      by_tests true false =
          keeps_styled cell (unstyled_piece cell info line.measured) (padded cell info columns line.written) (keeps_padded cell info columns line.measured line.written own)
      by_tests false text_only = keeps_padded cell info columns line.measured line.written own
