-- Columns by words: ranges, and dropped columns.
use Rattle.std.proofs.Common.{◌≡◌, List, [], ◌∷◌, Some, Ok, Err, codes, false, map, refl, true}
use Prim.Native.String.{String}
use Rattle.std.specs.Fmt.{digits}
use Rattle.std.specs.Prelude.{String as Word, string_bytes}
use Rattle.comfy_parts.specs.Text.{Text}
use Rattle.csv.specs.Records.{field_at}
use Rattle.ucd_category.proofs.Computing.{ucd_category}
use Rattle.std.specs.Str.{chars}
use Rattle.csv_records.specs.Number.{has_indian_groups, is_neutral, is_number}
use Rattle.csv_records.specs.declared.decimals.DecimalMark.TheVariants.{Point}
use Rattle.csv_tables.specs.declared.options.Look.{Look}
use Rattle.csv_tables.specs.declared.options.ColumnPlan.{ColumnPlan}
use Rattle.csv_tables.specs.Columns.{filled_count}
use Rattle.csv_tables.specs.Cells.{counted_from, shown_in, shown_names}
use Rattle.csv_command.specs.Columns.{less, positions_of, positions_of_word}
use Rattle.csv_command.specs.Columns.ColumnFault.{missing, none_left}
use Rattle.comfy_parts.specs.declared.style.cell.CellAlignment.TheVariants.{Right}
use Rattle.csv_command.specs.Hints.{hint_for}
use Rattle.test_definitions.proofs.PlainLook.{plain_look}

abbrev texts : List String → List Text
texts words = map (λ (word : String). codes word) words

abbrev header : List Text
header = texts ("a" ∷ "e" ∷ "e-mail" ∷ "phone" ∷ [])

-- a name before a range, ranges by numbers and by names, and an open range
by_range :
    map (positions_of_word header 5) (texts ("e-mail" ∷ "2-3" ∷ "a-e" ∷ "1-phone" ∷ "e-5" ∷ "4-" ∷ "phone-" ∷ "5-" ∷ "phone-phone" ∷ []))
    ≡ Ok (2 ∷ []) ∷ Ok (1 ∷ 2 ∷ []) ∷ Ok (0 ∷ 1 ∷ []) ∷ Ok (0 ∷ 1 ∷ 2 ∷ 3 ∷ []) ∷ Ok (1 ∷ 2 ∷ 3 ∷ 4 ∷ []) ∷ Ok (3 ∷ 4 ∷ []) ∷ Ok (3 ∷ 4 ∷ []) ∷ Ok (4 ∷ []) ∷ Ok (3 ∷ []) ∷ []
by_range = refl

-- columns at the end without a name and a field aren't drawn; with a name, or a field of any row, they are; one column is
-- drawn in any case, if there is one
filled_columns :
    map (λ (rows : List (List Text)). filled_count (texts ("a" ∷ "b" ∷ "" ∷ [])) rows)
    (
    (texts ("1" ∷ "" ∷ "" ∷ "" ∷ []) ∷ [])
    ∷ (texts ("1" ∷ "2" ∷ "" ∷ "" ∷ []) ∷ texts ("1" ∷ "" ∷ "3" ∷ "" ∷ []) ∷ [])
    ∷ []
    ) ≡ 2 ∷ 3 ∷ []
filled_columns = refl

blank_columns : map (filled_count []) ((texts ("" ∷ "" ∷ []) ∷ []) ∷ [] ∷ []) ≡ 1 ∷ 0 ∷ []
blank_columns = refl

-- the first hyphen with existing columns on both sides
by_hyphens :
    map (positions_of_word header 4) (texts ("e-mail-phone" ∷ "a-e-mail" ∷ "e-mail-e-mail" ∷ "e-mail-" ∷ "e-e-mail" ∷ []))
    ≡ Ok (2 ∷ 3 ∷ []) ∷ Ok (0 ∷ 1 ∷ 2 ∷ []) ∷ Ok (2 ∷ []) ∷ Ok (2 ∷ 3 ∷ []) ∷ Ok (1 ∷ 2 ∷ []) ∷ []
by_hyphens = refl

-- in order: if the columns at the first hyphen fall, a later hyphen counts
in_order : positions_of_word (texts ("b-a" ∷ "a" ∷ "a-b" ∷ "b" ∷ [])) 4 (codes "b-a-b") ≡ Ok (0 ∷ 1 ∷ 2 ∷ 3 ∷ [])
in_order = refl

no_ranges :
    map (positions_of_word header 4) (texts ("phone-a" ∷ "3-2" ∷ "4-5" ∷ "5-" ∷ "0-" ∷ "-2" ∷ "-" ∷ "mail-" ∷ "a-b" ∷ []))
    ≡ map (λ word. Err (missing word (codes "there are 'a', 'e', 'e-mail' and 'phone'"))) (texts ("phone-a" ∷ "3-2" ∷ "4-5" ∷ "5-" ∷ "0-" ∷ "-2" ∷ "-" ∷ "mail-" ∷ "a-b" ∷ []))
unfolding field_at
no_ranges = refl

-- a number without a column is a name
numbers_as_names :
    map (positions_of_word (texts ("2" ∷ "2024" ∷ "2025" ∷ [])) 3) (texts ("2" ∷ "2024" ∷ "2024-2025" ∷ "2-2025" ∷ "2024-3" ∷ "1-2024" ∷ []))
    ≡ Ok (1 ∷ []) ∷ Ok (1 ∷ []) ∷ Ok (1 ∷ 2 ∷ []) ∷ Ok (1 ∷ 2 ∷ []) ∷ Ok (1 ∷ 2 ∷ []) ∷ Ok (0 ∷ 1 ∷ []) ∷ []
numbers_as_names = refl

-- hints: a similar name, in another case or without spaces at its ends, or else the columns that exist
hints :
    map (hint_for (texts ("a" ∷ "Ab" ∷ "AB" ∷ "" ∷ " c d " ∷ [])) 6) (texts ("ab" ∷ " a" ∷ "C d" ∷ "cd" ∷ []))
    ≡ texts ("did you mean 'Ab'?" ∷ "did you mean 'a'?" ∷ "did you mean ' c d '?" ∷ "there are 'a', 'Ab', 'AB', 4, ' c d ' and 6" ∷ [])
unfolding field_at digits
hints = refl

-- several words that are a name when they are joined by commas, and the same words in another order
whole : {A : Type 0} (b a : Word A) → string_bytes b ≡ codes "b" → string_bytes a ≡ codes "a" → positions_of (texts ("b" ∷ "a" ∷ "b,a" ∷ [])) 3 (b ∷ a ∷ []) ≡ Ok (2 ∷ [])
whole b a is_b is_a = rw (is_b, is_a) refl

in_parts : {A : Type 0} (b a : Word A) → string_bytes b ≡ codes "b" → string_bytes a ≡ codes "a" → positions_of (texts ("b" ∷ "a" ∷ "b,a" ∷ [])) 3 (a ∷ b ∷ []) ≡ Ok (1 ∷ 0 ∷ [])
in_parts b a is_b is_a = rw (is_b, is_a) refl

-- a single word is tried as a number before it is tried as a name
single : {A : Type 0} (word : Word A) → string_bytes word ≡ codes "1" → positions_of (texts ("2" ∷ "1" ∷ [])) 2 (word ∷ []) ≡ Ok (0 ∷ [])
single word is = rw is refl

columns_are_listed :
    map (λ count. hint_for (codes "a" ∷ []) count (codes "b")) (1 ∷ 2 ∷ 8 ∷ 9 ∷ 1000 ∷ [])
    ≡ texts ("there is 'a'" ∷ "there are 'a' and 2" ∷ "there are 'a', 2, 3, 4, 5, 6, 7 and 8" ∷ "there are 'a', 2, 3, 4, 5, 6, 7, 8 and 1 more" ∷ "there are 'a', 2, 3, 4, 5, 6, 7, 8 and 992 more" ∷ [])
unfolding field_at digits
columns_are_listed = refl

columns_are_counted : map (λ count. hint_for [] count (codes "b")) (0 ∷ 1 ∷ 2 ∷ []) ≡ texts ("there are 0 columns" ∷ "there is 1 column" ∷ "there are 2 columns" ∷ [])
unfolding digits
columns_are_counted = refl

-- dropped columns, at any place; the first fault
left_out : map (less (Ok (0 ∷ 1 ∷ 2 ∷ 1 ∷ []))) (Ok (1 ∷ 5 ∷ []) ∷ Ok [] ∷ Err (missing (codes "x") []) ∷ []) ≡ Ok (0 ∷ 2 ∷ []) ∷ Ok (0 ∷ 1 ∷ 2 ∷ 1 ∷ []) ∷ Err (missing (codes "x") []) ∷ []
left_out = refl

-- at least one column must be left
none_are_left : map (less (Ok (0 ∷ 2 ∷ []))) (Ok (2 ∷ 0 ∷ []) ∷ Ok (0 ∷ []) ∷ []) ≡ Err none_left ∷ Ok (2 ∷ []) ∷ []
none_are_left = refl

chosen_before_left_out : less (Err (missing (codes "a") [])) (Err (missing (codes "b") [])) ≡ Err (missing (codes "a") [])
chosen_before_left_out = refl

-- ---- what rows show

-- the look of a table with unchanged fields
abbrev look : Look
look = plain_look

-- the second field of each record, which has a decimal mark
abbrev prices : List ColumnPlan
prices = record { position = 1; alignment = Some Right; points = Some (record { mark = Point; longest = 3 }); is_nowrap = true } ∷ []

-- after the record's number or without it, with aligned decimal marks or without
numbered : map (λ is_numbered. shown_in look false is_numbered prices (7, texts ("oats" ∷ "3.5" ∷ []))) (true ∷ false ∷ [])
    ≡ (record { alignment = Some Right; text = codes "7" } ∷ record { alignment = Some Right; text = codes "3.5" } ∷ []) ∷ (record { alignment = Some Right; text = codes "3.5" } ∷ []) ∷ []
unfolding digits field_at
numbered = refl

aligned : map (λ is_aligned. shown_in look is_aligned false prices (7, texts ("oats" ∷ "3.5" ∷ []))) (true ∷ false ∷ [])
    ≡ (record { alignment = Some Right; text = codes "3.5 " } ∷ []) ∷ (record { alignment = Some Right; text = codes "3.5" } ∷ []) ∷ []
unfolding chars lib.Utf8.encode ucd_category field_at is_neutral is_number has_indian_groups
aligned = refl

-- the header, with the name above the numbers
names : map (λ is_numbered. shown_names look is_numbered prices (texts ("name" ∷ "price" ∷ []))) (true ∷ false ∷ [])
    ≡ (record { alignment = Some Right; text = codes "#" } ∷ record { alignment = Some Right; text = codes "price" } ∷ []) ∷ (record { alignment = Some Right; text = codes "price" } ∷ []) ∷ []
unfolding field_at
names = refl

-- records are counted from 1
counted : counted_from 1 (texts ("a" ∷ []) ∷ [] ∷ []) ≡ (1, texts ("a" ∷ [])) ∷ (2, []) ∷ []
counted = refl
