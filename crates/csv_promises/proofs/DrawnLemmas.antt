-- The drawing of a layout is straight if no character takes more than one terminal column, or if there is no width.
use Rattle.std.proofs.Common.{ap, ◌≡◌, ◌==◌, ◌&&◌, ◌||◌, inl, ℕ, Bool, true, false, not, List, [], ◌∷◌, Option, None, arith, chars, nat_le, refl, sym, ◌∙◌, subst}
use Rattle.std.specs.Char.{is_control}
use Rattle.std.specs.List.{All, list_any}
use Rattle.std.specs.Prelude.{encode_utf8, if◌then◌else◌}
use Rattle.std.specs.Str.{IsUtf8, NonePass}
use Rattle.std.proofs.lemmas.Bool.{or_parts}
use Rattle.std.proofs.lemmas.List.Elements.{All-cons, All-nil, All-weaker}
use Rattle.std.proofs.lemmas.List.Splits.{slice_split_none}
use Rattle.std.proofs.lemmas.Str.{encodes-chars}
use lib.Utf8.{encode}
use Rattle.comfy_parts.proofs.CallerLemmas.{All-none, none_by_characters}
use Rattle.comfy_parts.proofs.Computing.{wrapping}
use Rattle.comfy_parts.specs.CellValue.{plain_cell}
use Rattle.comfy_parts.specs.Columns.{CharactersFit, IsOneColumnStyle}
use Rattle.comfy_parts.specs.Text.{Text, measure}
use Rattle.comfy_table.specs.Laws.{HasNoBreak}
use Rattle.csv.specs.Records.{AllText}
use Rattle.csv_records.proofs.CleaningLemmas.{drawn_so}
use Rattle.csv_records.specs.Cleaning.{cleaned, turns_direction}
use Rattle.csv_tables.proofs.BlankLemmas.{unless_blank-keeps}
use Rattle.csv_tables.proofs.CleanCharacterLemmas.{lines_pass}
use Rattle.csv_tables.proofs.FieldControlLemmas.{text_fields}
use Rattle.csv_tables.proofs.MarkdownWidthLemmas.{whole_is_straight}
use Rattle.csv_tables.proofs.OutputControlLemmas.{unbroken_without}
use Rattle.csv_tables.proofs.StraightLemmas.{IsShort, fitting_is_straight, narrow_is_straight, empty_is_short}
use Rattle.csv_tables.proofs.TextTableLemmas.{EachLine}
use Rattle.csv_tables.specs.Cells.{field_text, marked, unless_blank}
use Rattle.csv_tables.specs.Controls.{IsHarmlessStyle}
use Rattle.csv_tables.specs.Drawn.{RendersRecords, drawn_rows}
use Rattle.csv_tables.specs.Laws.{ArePlainLines, CharactersFitEachWidth, EachText, IsStraightOutput}
use Rattle.csv_tables.specs.declared.options.Layout.{Layout}
use Rattle.csv_tables.specs.declared.options.Look.{Look}
use Rattle.promises.proofs.FittingLemmas.{text_fits}
use Rattle.promises.specs.Shown.{ShowsColumns}
use Rattle.promises.specs.Tables.{HasCharactersWithin}
use Rattle.csv_promises.proofs.LineLemmas.{straight_text}
use Rattle.csv_promises.specs.Counted.{EachLineFor}
use Rattle.csv_promises.specs.Straight.{EachField, IsPlainField}

-- a character takes at most one terminal column, and isn't U+FE01
abbrev is_narrow : ℕ → Bool
is_narrow c = nat_le (measure (encode_utf8 c)) 1 && not (c == 0xFE01)

space_is_narrow : is_narrow 0x20 ≡ true
unfolding wrapping encode
space_is_narrow = refl

replacement_is_narrow : is_narrow 0xFFFD ≡ true
unfolding wrapping encode
replacement_is_narrow = refl

module _ (look : Look) (unkept : look.has_sequences ≡ false) (none : look.is_markdown ≡ false) where
  field_fits : (field : Text) → IsUtf8 field → HasCharactersWithin 1 field → EachLine (CharactersFit 1) look field
  field_fits field utf8 own = All-weaker (HasCharactersWithin 1) (CharactersFit 1) (text_fits 1 1 (omega arith)) _ (lines_pass is_narrow space_is_narrow replacement_is_narrow look none unkept field utf8 own)

  fields_fit : (records : List (List Text)) → All AllText records → EachField (HasCharactersWithin 1) records → EachText (CharactersFit 1) look records
  fields_fit records text each k default under i other below = field_fits _ (text_fields _ (text k default under) i other below) (each k default under i other below)

  -- a plain field is drawn as it is, in one text line, or as an empty one
  plain_field_is_short : (field : Text) → IsUtf8 field → IsPlainField field → EachLine IsShort look field
  plain_field_is_short field utf8 is =
      subst (λ (text : Text). All IsShort (plain_cell text).text_lines) (sym same)
      (unless_blank-keeps (λ (text : Text). All IsShort (plain_cell text).text_lines) field (All-cons IsShort [] [] empty_is_short (All-nil IsShort))
      (subst (All IsShort) (sym (slice_split_none (λ b. b == 0x0A) field (All-none (λ b. b == 0x0A) field unbroken))) (All-cons IsShort field [] is.short (All-nil IsShort))))
    where
      no_controls : (cs : List ℕ) → list_any (λ c. is_control c || turns_direction c) cs ≡ false → NonePass is_control cs
      no_controls [] none = tt
      no_controls (c ∷ cs) none =
          let each = or_parts (is_control c || turns_direction c) (list_any (λ d. is_control d || turns_direction d) cs) none in
          ((or_parts (is_control c) (turns_direction c) each.0).0, no_controls cs each.1)

      unbroken : HasNoBreak field
      unbroken = none_by_characters is_control 0x0A (omega arith) refl field (chars field, encodes-chars field utf8, no_controls (chars field) is.plain)

      same : field_text look field ≡ unless_blank field
      same =
          ap (λ (m : Bool). if m then marked (cleaned false field) else unless_blank (cleaned look.has_sequences field)) none
          ∙ ap unless_blank (sym (drawn_so look.has_sequences field utf8 is.plain))

  plain_fields_are_short : (records : List (List Text)) → All AllText records → EachField IsPlainField records → EachText IsShort look records
  plain_fields_are_short records text each k default under i other below = plain_field_is_short _ (text_fields _ (text k default under) i other below) (each k default under i other below)

-- ---- outputs

-- a layout that isn't for Markdown and keeps no sequences draws UTF-8 texts, in a style of harmless characters of one
-- terminal column
pub record IsPlainOutput (known : Option ℕ) (layout : Layout) (rs : List (List Text)) (output : Text) : Type 0 where
  pub kind : layout.look.is_markdown ≡ false
  pub unkept : layout.look.has_sequences ≡ false
  pub one_column : IsOneColumnStyle layout.look.style
  pub clear : IsHarmlessStyle layout.look.style
  pub text : All AllText rs
  pub made : RendersRecords known layout rs output

module _ (known : Option ℕ) (layout : Layout) (rs : List (List Text)) (output : Text) (is : IsPlainOutput known layout rs output) where
  pub plain : ArePlainLines true layout.look rs
  plain = record { seen = (is.clear, is.text); unbroken = unbroken_without layout.look.style is.clear; no_sequences = is.unkept }

  pub own_fit : EachField (HasCharactersWithin 1) rs → EachText (CharactersFit 1) layout.look rs
  own_fit each = fields_fit layout.look is.unkept is.kind rs is.text each

  -- the same records are drawn of others, and perhaps counted
  module _ (MayCount : Option ℕ → Type 0) (records : List (List Text)) (counted : MayCount known) (same : drawn_rows layout.selection rs ≡ drawn_rows layout.selection records) where
    abbrev Straight : Type 0
    Straight = (columns : ℕ) × EachLineFor (ShowsColumns columns) MayCount layout records output

    straight : IsStraightOutput true known layout rs output → Straight
    straight = straight_text layout MayCount records rs known output is.kind counted same

    pub narrow_law : EachField (HasCharactersWithin 1) rs → Straight
    narrow_law each = straight (narrow_is_straight true known layout rs output is.kind is.one_column plain (own_fit each) is.made)

    pub whole_law : layout.look.width ≡ None → layout.look.max_height ≡ None → EachField IsPlainField rs → Straight
    whole_law no_width uncut each =
        straight
        (whole_is_straight true known layout rs output is.one_column plain no_width (inl uncut) (plain_fields_are_short layout.look is.unkept is.kind rs is.text each) is.made)

    pub fitting_law : CharactersFitEachWidth known layout rs → Straight
    fitting_law fit = straight (fitting_is_straight true known layout rs output is.kind is.one_column plain fit is.made)
