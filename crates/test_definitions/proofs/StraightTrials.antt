-- Terminal columns of every script, computed: characters that add one terminal column and some that don't, texts that
-- add up, texts whose characters fit, and a table that is shown whole.
use Rattle.std.proofs.Common.{◌≡◌, ◌≤◌, ℕ, List, true, false, inl, inr, [], ◌∷◌, ◌++◌, Some, None, map, refl, sum_by, arith}
use Rattle.std.specs.List.{All}
use Rattle.std.specs.Prelude.{encode_utf8_all}
use Rattle.std.proofs.lemmas.List.Elements.{All-cons, All-nil}
use Rattle.std.proofs.lemmas.Str.{IsUtf8-nil}
use Rattle.std.specs.Str.{IsUtf8}
use Rattle.comfy_parts.proofs.Computing.{wrapping}
use Rattle.comfy_parts.proofs.CallerLemmas.{frame_apart, one_character, one_column_characters}
use Rattle.comfy_parts.specs.CellValue.{CellValue, ColumnValue, RowValue, new_column, plain_cell, plain_row}
use Rattle.comfy_parts.specs.Columns.{AddsOneColumn, IsApart, WordFits, characters_fit, has_frame_characters}
use Rattle.comfy_parts.specs.Presets.{nothing, utf8_full}
use Rattle.comfy_parts.specs.Text.{Text, measure, head, clusters}
use Rattle.comfy_parts.specs.Wrapping.{lines_of_text}
use Rattle.comfy_parts.specs.declared.style.table_style.TableStyle.{TableStyle}
use Rattle.comfy_table.specs.DisabledWidths.{widths_by_content}
use Rattle.comfy_table.specs.Drawing.{drawing}
use Rattle.comfy_table.specs.Laws.{line_total, unstyled}
use Rattle.comfy_table.specs.Straight.{IsShownWhole, IsStraightTable}
use Rattle.comfy_table.specs.TableValue.{TableValue, new_table, with_row}
use Rattle.test_definitions.proofs.TrialTables.{utf8, with_paddings}

-- ---- characters

selector_measures_nothing : measure (encode_utf8_all (0xFE0F ∷ [])) ≡ 0
unfolding wrapping
selector_measures_nothing = refl

-- a variation selector makes the number sign before it wide
wide_number_sign_measures_two : measure (encode_utf8_all (0x23 ∷ 0xFE0F ∷ [])) ≡ 2
unfolding wrapping
wide_number_sign_measures_two = refl

nothing_measures_nothing : measure [] ≡ 0
unfolding wrapping
nothing_measures_nothing = refl

-- so the number sign adds two terminal columns there
-- false: comfy_parts::laws::spaces_and_borders_add_one_column
pub number_sign_adds_two : ¬ (AddsOneColumn 0x23)
number_sign_adds_two adds =
    let one = adds [] (encode_utf8_all (0xFE0F ∷ [])) IsUtf8-nil in
    omega (arith, one, wide_number_sign_measures_two, nothing_measures_nothing, selector_measures_nothing)

number_sign_measures_one : measure (utf8 "#") ≡ 1
unfolding wrapping
number_sign_measures_one = refl

number_sign_is_text : IsUtf8 (utf8 "#")
unfolding wrapping
number_sign_is_text = (one_character 0x23 refl).0

with_selector_measures_two : measure (utf8 "#" ++ encode_utf8_all (0xFE0F ∷ [])) ≡ 2
unfolding wrapping
with_selector_measures_two = refl

-- a variation selector isn't apart either
-- false: promises::laws::the_ellipsis_is_apart
pub selector_joins : ¬ (IsApart (encode_utf8_all (0xFE0F ∷ [])))
selector_joins apart =
    let two = apart (utf8 "#") number_sign_is_text in
    omega (arith, two, with_selector_measures_two, number_sign_measures_one, selector_measures_nothing)

-- no text joins the indicator of a new table
pub ellipsis_is_apart : IsApart (utf8 "…")
ellipsis_is_apart = frame_apart 0x2026 [] refl

-- ---- styles

preset_has_frame_characters : has_frame_characters utf8_full ≡ true
unfolding wrapping
preset_has_frame_characters = refl

-- the preset with another left border
abbrev bordered_by : ℕ → TableStyle
bordered_by border = record utf8_full { content_lines = record utf8_full.content_lines { left = Some border } }

number_sign_is_no_frame_character : has_frame_characters (bordered_by 0x23) ≡ false
unfolding wrapping
number_sign_is_no_frame_character = refl

wide_character_is_no_frame_character : has_frame_characters (bordered_by 0x5E74) ≡ false
unfolding wrapping
wide_character_is_no_frame_character = refl

-- ---- characters that fit

ideograph_fits_two : characters_fit 2 (utf8 "年") ≡ true
unfolding wrapping
ideograph_fits_two = refl

ideograph_needs_two : characters_fit 1 (utf8 "年") ≡ false
unfolding wrapping
ideograph_needs_two = refl

-- a family of three is as wide as each of its members, and joiners take nothing
family_fits_two : characters_fit 2 (encode_utf8_all (0x1F468 ∷ 0x200D ∷ 0x1F469 ∷ 0x200D ∷ 0x1F467 ∷ [])) ≡ true
unfolding wrapping
family_fits_two = refl

-- U+17D8, the only character that needs three terminal columns
-- false: comfy_parts::laws::one_character_takes_three_columns
khmer_sign_needs_three : map (λ w. characters_fit w (encode_utf8_all (0x17D8 ∷ []))) (2 ∷ 3 ∷ []) ≡ false ∷ true ∷ []
unfolding wrapping
khmer_sign_needs_three = refl

-- the measure of a text, and the sum of its clusters' measures
abbrev two_measures : List ℕ → List ℕ
two_measures cs = measure (encode_utf8_all cs) ∷ sum_by measure (clusters (encode_utf8_all cs)) ∷ []

-- the four pairs of selectors: with each of them some text is wider than its clusters
-- false: cluster_width::clusters_bound_the_measure
text_selector_before : two_measures (0x2018 ∷ 0xFE0E ∷ 0xFE01 ∷ 0x5DC ∷ []) ≡ 3 ∷ 2 ∷ []
unfolding wrapping
text_selector_before = refl

emoji_selector_before : two_measures (0x2018 ∷ 0xFE0F ∷ 0xFE01 ∷ 0x5DC ∷ []) ≡ 3 ∷ 2 ∷ []
unfolding wrapping
emoji_selector_before = refl

text_selector_after : two_measures (0x231A ∷ 0x200D ∷ 0x231A ∷ 0xFE01 ∷ 0xFE0E ∷ 0x5DC ∷ []) ≡ 4 ∷ 3 ∷ []
unfolding wrapping
text_selector_after = refl

emoji_selector_after : two_measures (0x231A ∷ 0x200D ∷ 0x231A ∷ 0xFE01 ∷ 0xFE0F ∷ 0xFE0E ∷ 0x5DC ∷ []) ≡ 4 ∷ 3 ∷ []
unfolding wrapping
emoji_selector_after = refl

-- so the characters of such a text never fit, however wide the column is
pairs_never_fit : map (characters_fit 9) (encode_utf8_all (0x2018 ∷ 0xFE0E ∷ 0xFE01 ∷ 0x5DC ∷ []) ∷ encode_utf8_all (0xFE01 ∷ 0xFE0F ∷ []) ∷ []) ≡ false ∷ false ∷ []
unfolding wrapping
pairs_never_fit = refl

-- a prefix of a cluster, and the cluster: the prefix is wider by two, and no prefix by more
front_of_a_cluster : two_measures (0x231A ∷ 0x200D ∷ 0x3030 ∷ []) ≡ 4 ∷ 4 ∷ []
unfolding wrapping
front_of_a_cluster = refl

whole_cluster : two_measures (0x231A ∷ 0x200D ∷ 0x3030 ∷ 0xFE0F ∷ []) ≡ 2 ∷ 2 ∷ []
unfolding wrapping
whole_cluster = refl

-- four terminal columns, at most two on each line
word_fits_by_characters : WordFits 2 (utf8 "年度")
unfolding wrapping
word_fits_by_characters = inr refl

-- a word of letters that join fits a column of one terminal column
joining_word_fits : WordFits 1 (encode_utf8_all (0x644 ∷ 0x627 ∷ 0x644 ∷ 0x627 ∷ []))
unfolding wrapping
joining_word_fits = inr refl

its_lines_measure_two : map measure (lines_of_text 2 0x20 (utf8 "年度")) ≡ 2 ∷ 2 ∷ []
unfolding wrapping
its_lines_measure_two = refl

-- ---- lines that are wider than their column

wide_character_in_a_column_of_one : map measure (lines_of_text 1 0x20 (utf8 "年")) ≡ 2 ∷ []
unfolding wrapping
wide_character_in_a_column_of_one = refl

-- the line takes the delimiter with its two terminal columns, though only one was reserved for it
wide_delimiter_in_a_line : map measure (lines_of_text 3 0x5E74 (utf8 "a年b")) ≡ 4 ∷ []
unfolding wrapping
wide_delimiter_in_a_line = refl

-- a quotation mark, two variation selectors and an alef
abbrev quoted : Text
quoted = encode_utf8_all (0x201C ∷ 0xFE0F ∷ 0xFE01 ∷ 0x627 ∷ [])

its_clusters_measure_one : map measure (clusters quoted) ≡ 1 ∷ 1 ∷ []
unfolding wrapping
its_clusters_measure_one = refl

-- two clusters of one terminal column each measure three together
its_head_measures_three : measure (head 2 quoted) ≡ 3
unfolding wrapping
its_head_measures_three = refl

its_line_measures_three : map measure (lines_of_text 2 0x20 quoted) ≡ 3 ∷ []
unfolding wrapping
its_line_measures_three = refl

-- ---- texts that touch

-- no vertical lines and no paddings, and the second text begins with a joiner
abbrev touching : TableValue
touching = with_paddings ((0, 0) ∷ (0, 0) ∷ []) (with_row (plain_row (plain_cell (encode_utf8_all (0x1F468 ∷ [])) ∷ plain_cell (encode_utf8_all (0x200D ∷ 0x1F469 ∷ [])) ∷ [])) (new_table nothing))

touching_texts_take_four : line_total touching (widths_by_content touching) ≡ 4
unfolding wrapping
touching_texts_take_four = refl

-- the two texts are drawn as one emoji
touching_line_measures_two : map measure (drawing (unstyled touching) (widths_by_content touching)) ≡ 2 ∷ []
unfolding wrapping
touching_line_measures_two = refl

-- ---- a table of Japanese and a family of emoji

abbrev family : CellValue
family = plain_cell (encode_utf8_all (0x5E74 ∷ 0x1F468 ∷ 0x200D ∷ 0x1F469 ∷ []))

abbrev letter : CellValue
letter = plain_cell (utf8 "a")

abbrev row : RowValue
row = plain_row (family ∷ letter ∷ [])

abbrev table : TableValue
table = with_row row (new_table utf8_full)

-- borders and paddings take seven terminal columns, and the texts four and one
total_is_twelve : line_total table (widths_by_content table) ≡ 12
unfolding wrapping
total_is_twelve = refl

lines_measure_twelve : map measure (drawing (unstyled table) (widths_by_content table)) ≡ 12 ∷ 12 ∷ 12 ∷ []
unfolding wrapping
lines_measure_twelve = refl

abbrev IsUncut : RowValue → Type 0
IsUncut row = row.max_height ≡ None

abbrev IsFree : ℕ × ColumnValue → Type 0
IsFree p = p.1.constraint ≡ None

abbrev IsShortLine : Text → Type 0
IsShortLine line = measure line ≤ 65535

abbrev IsShortCell : CellValue → Type 0
IsShortCell cell = All IsShortLine cell.text_lines

abbrev HasShortCells : RowValue → Type 0
HasShortCells row = All IsShortCell row.cells

family_is_short : IsShortCell family
unfolding wrapping
family_is_short = All-cons IsShortLine _ [] (omega arith) (All-nil IsShortLine)

letter_is_short : IsShortCell letter
unfolding wrapping
letter_is_short = All-cons IsShortLine _ [] (omega arith) (All-nil IsShortLine)

table_is_shown_whole : IsShownWhole table
unfolding wrapping
table_is_shown_whole =
    record {
      no_width = refl;
      no_constraints = All-cons IsFree (0, new_column 0) ((1, new_column 1) ∷ []) refl (All-cons IsFree (1, new_column 1) [] refl (All-nil IsFree));
      uncut = All-cons IsUncut row [] refl (All-nil IsUncut);
      short = All-cons HasShortCells row [] (All-cons IsShortCell family (letter ∷ []) family_is_short (All-cons IsShortCell letter [] letter_is_short (All-nil IsShortCell))) (All-nil HasShortCells);
    }

table_is_straight : IsStraightTable table (widths_by_content table)
unfolding wrapping
table_is_straight =
    record { characters = one_column_characters utf8_full preset_has_frame_characters; apart = inl refl; fits = inr (inr table_is_shown_whole) }
