-- Counterexamples to the conclusions of laws: a law has no body that a mutation could change.
use Rattle.std.proofs.Common.{◌≡◌, ◌≤◌, ◌<◌, ◌⊎◌, ◌+◌, ◌*◌, ◌/◌, ◌==◌, ℕ, zero, suc, true, false, List, inl, inr, [], ◌∷◌, ◌++◌, Some, None, refl, ap, sym, ◌∙◌, arith, length, map, max, min, sum_by, take}
use Rattle.std.specs.Prelude.{codes, encode_utf8_all, replicate, slice_index_or}
use Rattle.std.specs.Str.{chars}
use Rattle.std.specs.List.{All, AllAdjacentBelow, AllZip, slice_split}
use Rattle.std.proofs.lemmas.List.Elements.{All-cons, All-head, All-nil}
use Rattle.std.proofs.lemmas.List.Sums.{sum_by-cons}
use Rattle.comfy_parts.proofs.Computing.{wrapping}
use Rattle.comfy_parts.specs.CellValue.{CellValue, new_column, plain_cell}
use Rattle.comfy_parts.specs.Columns.{IsOneColumnPreset, IsOneColumnStyle}
use Rattle.comfy_parts.specs.Comparisons.{EqIsSame}
use Rattle.comfy_parts.specs.Laws.{EndsAtFirst, EndsBetweenElements, IsCutOutsideNarrow, IsLongestHead, IsResumedLine, SameButOneDelimiter, bytes_to, characters_without, columns_to, element_around, ends_after}
use Rattle.comfy_parts.specs.Presets.{ascii_full}
use Rattle.comfy_parts.specs.Text.{AddsOneColumnEach, Text, begins_with, measure}
use Rattle.comfy_parts.specs.VisibleLines.{CellLine}
use Rattle.comfy_parts.specs.VisibleText.{visible_text}
use Rattle.comfy_parts.specs.Wrapping.{IsSliceOf, IsSlicesWhere, lines_of_text, part_taken, wrapped}
use Rattle.comfy_parts.specs.declared.style.table_style.TableStyle.{TableStyle}
use Rattle.comfy_table.specs.Drawing.{text_of}
use Rattle.comfy_table.specs.Dynamic.{Steps}
use Rattle.comfy_table.specs.Headline.{LineWidthsSatisfy}
use Rattle.comfy_table.specs.Laws.{IsFreeOfEscapes, count, least_total, line_total}
use Rattle.comfy_table.specs.Levels.{IsLevelled}
use Rattle.comfy_table.specs.NewTables.{AreEquallyWide}
use Rattle.comfy_table.specs.Straight.{IsStraightTable}
use Rattle.comfy_table.specs.TableLaws.{wider_total}
use Rattle.comfy_table.specs.TableValue.{TableValue}
use Rattle.comfy_table.specs.Widths.{ColumnNeeds}
use Rattle.test_definitions.proofs.StraightTrials.{number_sign_adds_two}
use Rattle.test_definitions.proofs.TrialTables.{rows_of, texts, utf8}

-- ---- lines of a text

-- false: comfy_parts::laws::wrapped_lines_are_one_list
two_words_in_one_line : ¬ (codes "a b" ∷ [] ≡ wrapped 1 0x20 (codes "a b"))
unfolding wrapping
two_words_in_one_line is = let same : codes "a b" ∷ [] ≡ codes "a" ∷ codes "b" ∷ [] = is in cc same

abbrev FitsTwo : Text → Type 0
FitsTwo line = measure line ≤ 2

-- false: comfy_parts::laws::lines_fit
wide_line : ¬ (All FitsTwo (codes "abc" ∷ []))
unfolding wrapping
wide_line fit = let first : 3 ≤ 2 = All-head FitsTwo (codes "abc") [] fit in omega (arith, first)

-- false: comfy_parts::laws::lines_of_fitting_texts_fit
wide_character : ¬ (All (λ line. measure line ≤ 1) (lines_of_text 1 0x20 (utf8 "年")))
unfolding wrapping
wide_character fit =
    let first : 2 ≤ 1 = All-head (λ line. measure line ≤ 1) (utf8 "年") [] fit in
    omega (arith, first)

-- two lines of one letter
abbrev ab : List Text
ab = codes "a" ∷ codes "b" ∷ []

-- false: comfy_parts::laws::neighbours_fill_a_line
short_neighbours : ¬ (AllAdjacentBelow (λ line next. 3 ≤ measure line + measure next) ab 2)
unfolding wrapping
short_neighbours fill = let both : 3 ≤ 2 = fill 0 [] (omega arith) in omega (arith, both)

-- false: comfy_parts::laws::lines_are_few
many_lines : ¬ (length (ab ++ ab) ≤ 2 * (length (codes "a") / 1) + 1)
many_lines few = let is : 4 ≤ 3 = few in omega (arith, is)

-- the whole text is one line
whole_is_a_slice : IsSlicesWhere (EndsBetweenElements 0x20) 0x20 (codes "ab") (codes "ab" ∷ [])
unfolding wrapping
whole_is_a_slice = (
  [],
  record {
    gap = [];
    splits = refl;
    gap_is_delimiters = (0, refl);
    whole_characters = (codes "ab", (refl, refl));
    not_empty = omega arith;
    begins_otherwise = refl;
  },
  inl refl,
  (0, refl),
)

-- false: comfy_parts::laws::lines_are_fewest
more_lines :
    ¬ ((others : List Text) → IsSlicesWhere (EndsBetweenElements 0x20) 0x20 (codes "ab") others
    → All FitsTwo others → length ab ≤ length others)
unfolding wrapping
more_lines fewest =
    let none = All-nil FitsTwo in
    let all : All FitsTwo (codes "ab" ∷ []) = All-cons FitsTwo (codes "ab") [] (omega arith) none in
    let is : 2 ≤ 1 = fewest (codes "ab" ∷ []) whole_is_a_slice all in
    omega (arith, is)

-- no gap precedes the first of two letters, and the second one follows it
second_follows : (tail : Text) (slice : IsSliceOf 0x20 (codes "ab") (codes "a") tail)
    → (slice.gap ≡ []) × (tail ≡ codes "b")
unfolding wrapping
second_follows tail slice =
    let (n, spaces) = slice.gap_is_delimiters in
    at n slice.gap spaces slice.splits
  where
    before : Text → Text
    before gap = gap ++ (codes "a" ++ tail)

    at : (n : ℕ) (gap : Text) → gap ≡ encode_utf8_all (replicate n 0x20)
        → codes "ab" ≡ gap ++ (codes "a" ++ tail) → (gap ≡ []) × (tail ≡ codes "b")
    at zero gap none splits =
        let here : codes "ab" ≡ codes "a" ++ tail = splits ∙ ap before none in
        (none, cc here)
    at (suc n) gap some splits =
        let more = encode_utf8_all (replicate n 0x20) ++ (codes "a" ++ tail) in
        let here : codes "ab" ≡ 0x20 ∷ more = splits ∙ ap before some in
        let letter : ◌≡◌ {A = ℕ} 0x61 0x20 = cc here in
        absurd (omega (arith, letter))

-- so the text doesn't end after the first one, and no space follows it
inside_a_word : {P : Type 0} (tail : Text) → IsSliceOf 0x20 (codes "ab") (codes "a") tail
    → (tail ≡ []) ⊎ ((begins_with 0x20 tail ≡ true) ⊎ P) → P
unfolding wrapping
inside_a_word tail slice (inl none) = absurd (cc ((second_follows tail slice).1, none))
inside_a_word tail slice (inr (inl begins)) =
    let no : false ≡ true = ap (begins_with 0x20) (sym (second_follows tail slice).1) ∙ begins in
    absurd (cc no)
inside_a_word tail slice (inr (inr is)) = is

-- false: comfy_parts::laws::cut_lines_are_full
short_cut_line :
    ¬ (IsSlicesWhere
    (λ line tail. (tail ≡ []) ⊎ ((begins_with 0x20 tail ≡ true) ⊎ (measure line ≡ 2)))
    0x20 (codes "ab") ab)
unfolding wrapping
short_cut_line (tail, slice, ends, rest) =
    let full : ◌≡◌ {A = ℕ} 1 2 = inside_a_word tail slice ends in
    omega (arith, full)

-- the element around the end of the first line has two letters
abbrev around : Text → Text → ℕ
around gap tail = measure (element_around 0x20 ([] ++ (gap ++ codes "a")) tail)

-- false: comfy_parts::laws::narrow_elements_stay_whole
cut_narrow_word : ¬ (IsCutOutsideNarrow 2 0x20 [] (codes "ab") ab)
unfolding wrapping
cut_narrow_word (tail, slice, ends, rest) =
    let wide : 2 < around slice.gap tail = inside_a_word tail slice ends in
    let (no_gap, second) = second_follows tail slice in
    let two : around slice.gap tail ≡ 2 =
    ap (λ gap. around gap tail) no_gap ∙ ap (around []) second in
    omega (arith, wide, two)

-- false: comfy_parts::laws::head_is_longest
short_head : ¬ (IsLongestHead 2 (codes "ab") (codes "a"))
unfolding wrapping
short_head head =
    let fits : 2 ≤ 2 = omega arith in
    let is : 2 ≤ 1 = head.longest 2 fits in
    omega (arith, is)

-- the elements of a text of two words with two spaces between them
abbrev apart : List Text
apart = codes "abcd" ∷ [] ∷ codes "efghi" ∷ []

-- in ten terminal columns its first line ends with the empty one: the next one would need eleven
ends_with_the_gap : EndsAtFirst 10 0x20 apart 5
unfolding wrapping
ends_with_the_gap =
    record { last = 1; is_first = record { holds = refl; before = before }; takes = refl }
  where
    before : (i : ℕ) → i < 1 → ends_after 10 0x20 apart i ≡ false
    before zero below = refl
    before (suc i) below = absurd (omega (arith, below))

-- two words that fit a line together
abbrev beside : List Text
beside = codes "ab" ∷ codes "cd" ∷ []

-- so the line doesn't end after the first one
-- false: comfy_parts::laws::lines_end_at_the_first_full_element
ends_too_early : ¬ (EndsAtFirst 5 0x20 beside 2)
unfolding wrapping
ends_too_early ends = at ends.last ends.is_first.holds ends.takes
  where
    -- the part that is taken of the element after the last one
    taken : ℕ → ℕ
    taken last =
        part_taken 5 0x20 (columns_to 0x20 beside last) (slice_index_or beside (suc last) [])

    at : (last : ℕ) → ends_after 5 0x20 beside last ≡ true
        → 2 ≡ bytes_to 0x20 beside last + taken last → ⊥
    at zero holds takes = let no : false ≡ true = holds in absurd (cc no)
    at (suc k) holds takes =
        let first : sum_by length (take (suc (suc k)) beside)
        ≡ 2 + sum_by length (take (suc k) (codes "cd" ∷ [])) =
        sum_by-cons length (codes "ab") (take (suc k) (codes "cd" ∷ [])) in
        let second : sum_by length (take (suc k) (codes "cd" ∷ []))
        ≡ 2 + sum_by length (take k []) =
        sum_by-cons length (codes "cd") (take k []) in
        omega (arith, first, second, takes)

-- false: comfy_parts::laws::lines_keep_the_text, comfy_table::laws::cells_keep_their_text
lost_letter : ¬ (characters_without 0x20 (codes "a") ≡ characters_without 0x20 (codes "a b"))
unfolding chars
lost_letter same = let is : 0x61 ∷ [] ≡ 0x61 ∷ 0x62 ∷ [] = same in cc is

-- ---- terminal columns

-- a style with a character that a selector makes wide
abbrev numbered : TableStyle
numbered = record ascii_full { top_border = record ascii_full.top_border { left = Some 0x23 } }

-- false: comfy_parts::laws::preset_characters_take_one_column
number_sign_as_border : ¬ (All IsOneColumnPreset (numbered ∷ []))
number_sign_as_border all =
    let style : IsOneColumnStyle numbered = (All-head IsOneColumnPreset numbered [] all).0 in
    number_sign_adds_two (style 0 (Some 0x23) (omega arith))

-- false: comfy_parts::laws::printable_measures_its_length
accent_takes_two_bytes : ¬ (measure (utf8 "é") ≡ length (utf8 "é"))
unfolding wrapping
accent_takes_two_bytes same = let is : ◌≡◌ {A = ℕ} 1 2 = same in omega (arith, is)

-- false: comfy_parts::laws::printable_adds_one_column_each, comfy_table::laws::the_ellipsis_adds_one_column
wide_indicator : ¬ (AddsOneColumnEach (utf8 "年"))
unfolding wrapping
wide_indicator adds = let is : ◌≡◌ {A = ℕ} 2 1 = adds [] refl in omega (arith, is)

-- ---- SGR sequences

-- false: comfy_parts::laws::sequences_are_taken_out_in_one_pass
space_in_a_sequence : ¬ (visible_text (codes "\u{1b}[ ma") ≡ visible_text (codes "a"))
space_in_a_sequence same = let is : codes "\u{1b}[ ma" ≡ codes "a" = same in cc is

abbrev IsMeasuredWithout : CellLine → Type 0
IsMeasuredWithout line = visible_text line.written ≡ line.measured

-- a line whose measure includes its sequence
abbrev bold : CellLine
bold = record { measured = codes "\u{1b}[1ma"; written = codes "\u{1b}[1ma" }

-- false: comfy_parts::laws::sequences_take_no_columns
sequence_is_measured : ¬ (All IsMeasuredWithout (bold ∷ []))
sequence_is_measured all =
    let is : codes "a" ≡ codes "\u{1b}[1ma" = All-head IsMeasuredWithout bold [] all in
    cc is

-- false: comfy_parts::laws::active_sequences_are_resumed
bold_is_lost :
    ¬ (IsResumedLine (record { earlier = []; text = codes "\u{1b}[1mab"; at = 1 })
    (record { measured = codes "b"; written = codes "b" }))
bold_is_lost line = let is : [] ≡ codes "\u{1b}[1m" ∷ [] = line.resumed 0 (omega arith) in cc is

-- ---- values

-- false: comfy_parts::laws::cells_are_equal_by_their_values
all_are_equal : ¬ (EqIsSame {K = ℕ} (λ a b. true))
all_are_equal same = let is : ◌≡◌ {A = ℕ} 0 1 = (same 0 1).0 refl in omega (arith, is)

-- ---- widths of a table

-- one column of two terminal columns, which takes six with borders and paddings
abbrev table : TableValue
table = rows_of ascii_full (("ab" ∷ []) ∷ [])

-- false: comfy_table::laws::columns_only_grow
column_is_missing : ¬ (length (new_column 0 ∷ []) ≡ max 2 (length (new_column 0 ∷ [])))
column_is_missing same = let is : ◌≡◌ {A = ℕ} 1 2 = same in omega (arith, is)

-- false: comfy_table::laws::frame_lines_have_one_count
short_frame_line : ¬ (count (codes "+---+") ≡ line_total table (2 ∷ []))
unfolding wrapping
short_frame_line same = let is : ◌≡◌ {A = ℕ} 5 6 = same in omega (arith, is)

-- false: comfy_table::laws::frame_lines_keep_to_the_width
long_frame_line : ¬ (count (codes "+----+") ≤ max 5 (least_total table))
unfolding wrapping
long_frame_line fits = let is : 6 ≤ 5 = fits in omega (arith, is)

-- a drawing over that width doesn't keep to 5, as `known_width` of `IsTableDrawing` promises
wide_drawing : ¬ (LineWidthsSatisfy (λ n. n ≤ max 5 (least_total table)) table (2 ∷ []))
unfolding wrapping
wide_drawing counts = let is : 6 ≤ 5 = counts.frame_lines ascii_full.top_border in omega (arith, is)

-- false: comfy_table::laws::widths_keep_to_the_width
wide_column : ¬ (line_total table (2 ∷ []) ≤ max 5 (least_total table))
unfolding wrapping
wide_column fits = let is : 6 ≤ 5 = fits in omega (arith, is)

abbrev level_of_one : Steps
level_of_one = record { lower = []; level = Some 1; shrunk = [] }

-- false: comfy_table::laws::widths_keep_to_the_wider_total
wide_column_after_steps : ¬ (line_total table (2 ∷ []) ≤ max 5 (wider_total table level_of_one))
unfolding wrapping
wide_column_after_steps fits = let is : 6 ≤ 5 = fits in omega (arith, is)

-- a column of this content
abbrev needs : ℕ → ColumnNeeds
needs content =
    record {
      content = content;
      padding = 2;
      fixed = None;
      lower = None;
      upper = None;
      longest = λ w. w;
    }

-- false: comfy_table::laws::dynamic_widths_are_one_list
other_widths : ¬ (◌≡◌ {A = List ℕ} (1 ∷ 2 ∷ []) (2 ∷ 1 ∷ []))
other_widths same = let is : ◌≡◌ {A = ℕ} 1 2 = cc same in omega (arith, is)

-- false: comfy_table::laws::dynamic_widths_are_levelled
wide_without_room : ¬ (IsLevelled 5 (needs 3 ∷ needs 3 ∷ []) (1 ∷ 2 ∷ []))
wide_without_room levelled =
    let is : ◌≡◌ {A = List ℕ} (1 ∷ 2 ∷ []) (1 ∷ 1 ∷ []) = levelled in
    let last : ◌≡◌ {A = ℕ} 2 1 = cc is in
    omega (arith, last)

-- false: comfy_table::laws::the_level_is_the_best
more_than_the_level :
    ¬ (¬ (AllZip (λ (column : ColumnNeeds) content. min (max 1 column.content) 2 ≤ content)
    (needs 3 ∷ []) (2 ∷ [])))
more_than_the_level none = let is : 2 ≤ 2 = omega arith in none (is, tt)

-- false: comfy_table::laws::contents_that_fit_are_kept
narrow_column : ¬ (1 ∷ [] ≡ map (λ (column : ColumnNeeds). max 1 column.content) (needs 2 ∷ []))
narrow_column same =
    let is : ◌≡◌ {A = List ℕ} (1 ∷ []) (2 ∷ []) = same in
    let first : ◌≡◌ {A = ℕ} 1 2 = cc is in
    omega (arith, first)

-- false: comfy_table::laws::columns_are_at_most_three_wider
four_wider :
    ¬ (AllZip (λ (column : ColumnNeeds) width. width ≤ column.content + 3) (needs 1 ∷ []) (5 ∷ []))
four_wider all = let is : 5 ≤ 4 = all.0 in omega (arith, is)

-- false: comfy_table::laws::shrinking_keeps_the_lines
longer_line : ¬ (AllZip (SameButOneDelimiter 0x20) (codes "a" ∷ []) (codes "ab" ∷ []))
unfolding wrapping
longer_line (inl same, rest) = let is : codes "ab" ≡ codes "a" = same in cc is
longer_line (inr same, rest) =
    let is : codes "ab" ≡ codes "a " = same in
    let last : ◌≡◌ {A = ℕ} 0x62 0x20 = cc is in
    omega (arith, last)

-- ---- lines of a table

-- false: comfy_table::laws::lines_are_found_in_their_texts
line_with_a_line_feed :
    ¬ (slice_split (λ b. b == 0x0A) (text_of (codes "a\nb" ∷ [])) ≡ codes "a\nb" ∷ [])
line_with_a_line_feed found = let is : ab ≡ codes "a\nb" ∷ [] = found in cc is

-- false: comfy_table::laws::new_tables_are_straight
pub shorter_line : ¬ (AreEquallyWide (codes "ab" ∷ codes "a" ∷ []))
unfolding wrapping
shorter_line (n, all) =
    let first : 2 ≡ n = all 0 (codes "ab") (omega arith) in
    let second : 1 ≡ n = all 1 (codes "a") (omega arith) in
    omega (arith, first, second)

-- false: comfy_table::laws::tables_of_fitting_characters_are_straight
number_sign_in_a_table : ¬ (IsStraightTable (rows_of numbered (("ab" ∷ []) ∷ [])) (2 ∷ []))
number_sign_in_a_table straight =
    number_sign_adds_two (straight.characters 0 (Some 0x23) (omega arith))

-- the visible line is as wide as the table
abbrev IsVisiblyStraight : Text → Type 0
IsVisiblyStraight line = measure (visible_text line) ≡ line_total table (2 ∷ [])

-- as `sequences` of `IsTableDrawing` promises for a straight table
short_line_in_bold : ¬ (All IsVisiblyStraight (codes "\u{1b}[1m+---+" ∷ []))
unfolding wrapping
short_line_in_bold all =
    let is : ◌≡◌ {A = ℕ} 5 6 = All-head IsVisiblyStraight (codes "\u{1b}[1m+---+") [] all in
    omega (arith, is)

-- false: comfy_table::laws::tables_without_controls_have_no_escape
escape_in_a_cell : ¬ (IsFreeOfEscapes (rows_of ascii_full (("\u{1b}" ∷ []) ∷ [])))
unfolding wrapping
escape_in_a_cell free =
    let cell : CellValue = plain_cell (codes "\u{1b}") in
    let column = free.text_lines 0 (0, new_column 0) (omega arith) in
    let is : true ≡ false = column 0 cell (omega arith) 0 [] (omega arith) in
    cc is

-- false: comfy_table::laws::drawings_are_one, comfy_table::laws::hidden_columns_change_nothing
other_lines : ¬ (texts ("a" ∷ []) ≡ texts ("b" ∷ []))
unfolding wrapping
other_lines same = let is : ◌≡◌ {A = ℕ} 0x61 0x62 = cc same in omega (arith, is)

-- false: cluster_width::fronts_of_clusters_are_bounded
front_of_three : ¬ (measure (codes "abc") ≤ measure [] + 2)
unfolding wrapping
front_of_three bounded = let is : 3 ≤ 2 = bounded in omega (arith, is)
