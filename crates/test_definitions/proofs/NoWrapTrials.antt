-- Fields that aren't broken over lines, and the room that their columns need.
use Rattle.std.proofs.Common.{◌≡◌, ℕ, Bool, true, false, List, [], ◌∷◌, Option, Some, None, codes, map, refl}
use Prim.Native.String.{String}
use Rattle.std.specs.List.{list_all, list_any}
use Rattle.std.specs.Str.{chars}
use Rattle.csv.specs.Records.{field_at}
use Rattle.ucd_category.proofs.Computing.{ucd_category}
use Rattle.comfy_parts.proofs.Computing.{wrapping}
use Rattle.comfy_parts.specs.CellValue.{ColumnValue, plain_cell, plain_row}
use Rattle.comfy_parts.specs.Presets.{ascii_full}
use Rattle.comfy_parts.specs.Text.{Text}
use Rattle.comfy_parts.specs.declared.style.column.ColumnConstraint.{ColumnConstraint}
use Rattle.comfy_parts.specs.declared.style.column.ColumnConstraint.TheVariants.{Absolute, LowerBoundary}
use Rattle.comfy_parts.specs.declared.style.column.Width.TheVariants.{Fixed}
use Rattle.csv_tables.specs.Summaries.{column_fields}
use Rattle.csv_records.specs.Number.{has_indian_groups, is_neutral, is_number}
use Rattle.comfy_table.specs.TableValue.{TableValue, new_table, with_header, with_rows}
use Rattle.csv_tables.specs.Drawn.{is_expanded_in, least_words}
use Rattle.csv_tables.specs.NoWrap.{Wanted, kept_word, most_wanted, by_columns, framed_width, given_in, has_room, is_nowrap, min_width, with_min_widths, with_min_field_width, least_width, fair_level, may_break, room_beside, room_for_two, width_at_level, shared_content, nowrap_width}
use Rattle.csv_tables.specs.declared.options.Expansion.TheVariants.{Always, Auto, Never}

abbrev texts : List String → List Text
texts words = map (λ (word : String). codes word) words

-- numbers, neutral fields, dates and times; the longest has 25 characters
unbroken : list_all is_nowrap (texts ("" ∷ "2026-05-02" ∷ "02.05.2026" ∷ "5/2/26" ∷ "12:30" ∷ "2026-05-02 12:30" ∷ "2026-05-02T12:30:00Z" ∷ "2026-05-02T12:30:00+01:00" ∷ "-1,234.50" ∷ "12 %" ∷ "n/a" ∷ "-" ∷ [])) ≡ true
unfolding chars lib.Utf8.encode ucd_category is_neutral is_number has_indian_groups
unbroken = refl

-- time stamps; the longest has 35 characters
stamps : list_all is_nowrap (texts ("2026-05-02T12:30:00.123456789+01:00" ∷ "2026-05-02 12:30:00.123456 UTC" ∷ "12/31/2026 12:30:00.000 PM" ∷ [])) ≡ true
unfolding chars lib.Utf8.encode ucd_category is_neutral is_number has_indian_groups
stamps = refl

-- words, 26 digits, and a time stamp of 36 characters
broken : list_any is_nowrap (texts ("word" ∷ "2026-W18" ∷ "2 May" ∷ "12345678901234567890123456" ∷ "2026-05-02T12:30:00.1234567890+01:00" ∷ [])) ≡ false
unfolding chars lib.Utf8.encode ucd_category is_neutral is_number has_indian_groups
broken = refl

-- the second of two rows has one field
columns : map (λ position. list_all is_nowrap (column_fields (texts ("1" ∷ "a" ∷ []) ∷ texts ("2" ∷ []) ∷ []) position)) (0 ∷ 1 ∷ 2 ∷ []) ≡ true ∷ false ∷ true ∷ []
unfolding chars lib.Utf8.encode ucd_category field_at is_neutral is_number has_indian_groups
columns = refl

-- columns of numbers and dates, and other columns, which keep the words of their names
abbrev whole : List Bool → Wanted
whole nowrap = record { nowrap = nowrap; words = least_words None }

-- names, each above a long text
abbrev names : List Text
names = texts ("id" ∷ "id" ∷ "shipping address" ∷ "fulfillment status" ∷ "internationalization_and_more" ∷ [])

abbrev named : TableValue
named =
    with_rows (plain_row (map (λ (name : Text). plain_cell (codes "letters and letters and letters")) names) ∷ [])
    (with_header (plain_row (map plain_cell names)) (new_table ascii_full))

-- the first field is kept whole; the other columns keep a wide word of their name, up to 20 terminal columns
kept : by_columns (min_width (whole (true ∷ false ∷ [])) named) named ≡ 31 ∷ 0 ∷ 0 ∷ 11 ∷ 20 ∷ []
unfolding wrapping
kept = refl

-- at least eight terminal columns are needed
needed : by_columns (width_at_level 8 (whole (true ∷ false ∷ [])) named) named ≡ 31 ∷ 8 ∷ 8 ∷ 11 ∷ 20 ∷ []
unfolding wrapping
needed = refl

-- but at most the content, and at least one
needed_of_contents : map (shared_content 8 0) (0 ∷ 3 ∷ 14 ∷ []) ≡ 1 ∷ 3 ∷ 8 ∷ []
needed_of_contents = refl

-- a name of three words above a number, and a text of long words
abbrev indicators : TableValue
indicators =
    with_rows (plain_row (map plain_cell (texts ("0.3" ∷ "paid to DE89370400440532013000 in May" ∷ []))) ∷ [])
    (with_header (plain_row (map plain_cell (texts ("growth of populations" ∷ "note" ∷ [])))) (new_table ascii_full))

-- the number keeps eight terminal columns of its content, or the longest word of its name
keeping : map (λ height. by_columns (min_width (record { nowrap = true ∷ false ∷ []; words = least_words height }) indicators) indicators) (Some 1 ∷ Some 2 ∷ None ∷ []) ≡ (8 ∷ 0 ∷ []) ∷ (11 ∷ 0 ∷ []) ∷ (11 ∷ 0 ∷ []) ∷ []
unfolding wrapping
keeping = refl

-- a word of eight counts as 0, one of 40 is kept, and one of 41 counts as 20
word_limits : map kept_word (8 ∷ 9 ∷ 40 ∷ 41 ∷ []) ≡ 0 ∷ 9 ∷ 40 ∷ 20 ∷ []
word_limits = refl

-- with three borders and four paddings, the word of a field is kept if it has room, and no word is if all contents have
words_kept : map (λ width. by_columns (min_width (most_wanted width (whole (true ∷ false ∷ [])) indicators) indicators) indicators) (39 ∷ 40 ∷ 64 ∷ 65 ∷ []) ≡ (11 ∷ 0 ∷ []) ∷ (11 ∷ 22 ∷ []) ∷ (11 ∷ 22 ∷ []) ∷ (11 ∷ 0 ∷ []) ∷ []
unfolding wrapping
words_kept = refl

-- a number and two texts; the name of the first text has a wide word
abbrev sharing : TableValue
sharing =
    with_rows (plain_row (map plain_cell (texts ("12" ∷ "aaa bbb ccc ddd" ∷ "eee fff ggg hhh" ∷ []))) ∷ [])
    (with_header (plain_row (map plain_cell (texts ("id" ∷ "responsible" ∷ "x" ∷ [])))) (new_table ascii_full))

-- the texts share the room beside borders, paddings, the number and that word
levels : map (λ width. fair_level width (whole (true ∷ false ∷ false ∷ [])) sharing) (31 ∷ 33 ∷ 36 ∷ []) ≡ 8 ∷ 10 ∷ 12 ∷ []
unfolding wrapping
levels = refl

-- the word is reserved if it is wider than its share
given : map (λ width. given_in width (whole (true ∷ false ∷ false ∷ [])) sharing) (33 ∷ 36 ∷ []) ≡ (2 ∷ 11 ∷ 0 ∷ []) ∷ (2 ∷ 0 ∷ 0 ∷ []) ∷ []
unfolding wrapping
given = refl

-- four borders, and two paddings each
framed : framed_width ascii_full (10 ∷ 9 ∷ 8 ∷ []) ≡ 37
framed = refl

-- a column of nineteen letters without a name, with two borders and two paddings
abbrev text : TableValue
text = with_rows (plain_row (plain_cell (codes "letters and letters") ∷ []) ∷ []) (new_table ascii_full)

-- it needs its whole content, or eight terminal columns
least : map (λ unbroken. least_width (whole (unbroken ∷ [])) text) (true ∷ false ∷ []) ≡ 23 ∷ 12 ∷ []
unfolding wrapping
least = refl

abbrev constraints : Option ℕ → List (Option ColumnConstraint)
constraints width = map (λ (column : ColumnValue). column.constraint) (with_min_widths width (whole (true ∷ [])) text).columns

room : constraints (Some 23) ≡ Some (LowerBoundary (Fixed 21)) ∷ []
unfolding wrapping
room = refl

no_room : constraints (Some 22) ≡ None ∷ []
unfolding wrapping
no_room = refl

no_width : constraints None ≡ None ∷ []
no_width = refl

-- records are expanded below that width, for a column that isn't broken, and for one that may be
narrow : map (λ width. is_expanded_in Auto (has_room width (whole (true ∷ [])) text)) (Some 22 ∷ Some 23 ∷ None ∷ []) ≡ true ∷ false ∷ false ∷ []
unfolding wrapping
narrow = refl

narrower : map (λ width. is_expanded_in Auto (has_room width (whole (false ∷ [])) text)) (Some 11 ∷ Some 12 ∷ None ∷ []) ≡ true ∷ false ∷ false ∷ []
unfolding wrapping
narrower = refl

by_word : map (λ expansion. map (is_expanded_in expansion) (true ∷ false ∷ [])) (Always ∷ Never ∷ Auto ∷ []) ≡ (true ∷ true ∷ []) ∷ (false ∷ false ∷ []) ∷ (false ∷ true ∷ []) ∷ []
by_word = refl

-- ---- fields of expanded records

-- three borders and four paddings leave 23 of 30; names take four of them, or all of a shorter name
rooms : room_for_two 30 ascii_full ≡ 23
rooms = refl

beside : map (λ names. room_beside names 23) (30 ∷ 2 ∷ 0 ∷ []) ≡ 19 ∷ 21 ∷ 22 ∷ []
beside = refl

-- a date that has room counts, and no word does
counted : map (nowrap_width 10) (texts ("2026-05-02" ∷ "2026-05-02 12:30" ∷ "letters" ∷ [])) ≡ 10 ∷ 0 ∷ 0 ∷ []
unfolding wrapping chars lib.Utf8.encode ucd_category is_number is_neutral has_indian_groups
counted = refl

-- it might be broken beside a long name, but not if the name fits, or if half of the room is enough
shared : map (may_break 23 30) (19 ∷ 11 ∷ []) ≡ true ∷ false ∷ []
shared = refl

short_names : may_break 23 4 19 ≡ false
short_names = refl

-- a record with a date below a number; the date has room from a width of 21 on
abbrev record_of_two : TableValue
record_of_two =
    with_rows (plain_row (plain_cell (codes "letters") ∷ plain_cell (codes "12") ∷ []) ∷ plain_row (plain_cell (codes "seven") ∷ plain_cell (codes "2026-05-02") ∷ []) ∷ [])
    (new_table ascii_full)

abbrev pair_constraints : Option ℕ → List (Option ColumnConstraint)
pair_constraints width = map (λ (column : ColumnValue). column.constraint) (with_min_field_width width record_of_two).columns

held : pair_constraints (Some 22) ≡ None ∷ Some (Absolute (Fixed 12)) ∷ []
unfolding wrapping chars lib.Utf8.encode ucd_category is_number is_neutral has_indian_groups
held = refl

-- with less room for it, or with room for the names too, no width is fixed
free : map pair_constraints (Some 20 ∷ Some 24 ∷ None ∷ []) ≡ (None ∷ None ∷ []) ∷ (None ∷ None ∷ []) ∷ (None ∷ None ∷ []) ∷ []
unfolding wrapping chars lib.Utf8.encode ucd_category is_number is_neutral has_indian_groups
free = refl
