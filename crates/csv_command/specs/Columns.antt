-- The columns that words choose.
-- Source: this library's own.
use Rattle.std.specs.Prelude.{ℕ, ◌≡◌, ◌+◌, ◌-◌, ◌==◌, ◌&&◌, nat_le, nat_lt, not, List, [], ◌∷◌, ◌++◌, Option, Some, None, Result, Ok, Err, String, bytes_eq, codes, drop, find, fold, get_or, length, ok_or, option_map, string_bytes, take, if◌then◌else◌}
use Rattle.std.specs.Option.{option_map_or, option_or}
use Rattle.std.specs.List.{filter, join_by, list_any, position_from, range_with_len}
use Rattle.comfy_parts.specs.Text.{Text}
use Rattle.csv_records.specs.Numerals.{number_for}
use Rattle.csv_command.specs.Hints.{hint_for}
use Rattle.csv_command.specs.declared.arguments.Options.{Options}
use Rattle.csv_command.specs.declared.columns.ColumnWords.{ColumnWords}
use Rattle.csv_command.specs.declared.columns.Counts.{Counts}
use Rattle.csv_command.specs.declared.error.ColumnsError.{ColumnsError}
use Rattle.csv_command.specs.declared.error.ColumnsError.TheVariants.{NoColumn, NoneLeft, OutOfMemory, TwoSides}
use Rattle.csv_tables.specs.Columns.{ColumnsValue, name_at}
use Rattle.csv_tables.specs.Drawn.{column_count, filled_columns, names_or_none}

-- the position of the first field that is equal to this text
abbrev pub position_named : Text → List Text → Option ℕ
position_named name names = position_from (λ field. bytes_eq field name) 0 names

-- the faults of a choice of columns: a word chooses no existing column, with a hint; no column is
-- left; or a column has two alignments
pub data ColumnFault : Type 0 where
  missing : (word hint : Text) → ColumnFault
  none_left : ColumnFault
  two_sided : (name : Text) → ColumnFault

-- the position of the column with a number, counted from 1, if it exists
abbrev pub column_numbered : ℕ → ℕ → Option ℕ
column_numbered count number =
    if nat_lt 0 number && nat_le number count then Some (number - 1) else None

-- the position of the column with this number, if it exists; otherwise that of the first column
-- with this name
abbrev pub column_by : List Text → ℕ → Text → Option ℕ → Option ℕ
column_by names count word (Some number) =
    option_or (column_numbered count number) (position_named word names)
column_by names count word None = position_named word names

abbrev pub column_of : List Text → ℕ → Text → Option ℕ
column_of names count word = column_by names count word (number_for 64 word)

-- the position after the last column of a range, given the text after its hyphen; without text, the
-- range goes up to the last column
abbrev pub end_of : List Text → ℕ → Text → Option ℕ
end_of names count word =
    if length word == 0
    then Some count
    else option_map (λ (position : ℕ). position + 1) (column_of names count word)

-- the range from one position up to another, if both positions exist and are in order
abbrev pub rising : Option ℕ → Option ℕ → Option (ℕ × ℕ)
rising (Some start) (Some end) = if nat_lt start end then Some (start, end) else None
rising (Some start) None = None
rising None end = None

-- the range at a hyphen at this place of a word, if its ends exist and are in order
abbrev pub range_at : List Text → ℕ → Text → ℕ → Option (ℕ × ℕ)
range_at names count word at =
    if get_or word at 0 == 0x2D
    then rising (column_of names count (take at word)) (end_of names count (drop (at + 1) word))
    else None

-- the first result of `f` that isn't `None`, for these numbers in order
abbrev pub first_answer : {A : Type 0} → (ℕ → Option A) → List ℕ → Option A
first_answer f [] = None
first_answer f (n ∷ ns) = option_or (f n) (first_answer f ns)

-- the range at the first hyphen that has a range
abbrev pub range_of : List Text → ℕ → Text → Option (ℕ × ℕ)
range_of names count word =
    first_answer (range_at names count word) (range_with_len 0 (length word))

-- a single column, or else a range, given as the position of the first one, and the position after
-- the last one
abbrev pub single_or : Option ℕ → Option (ℕ × ℕ) → Option (ℕ × ℕ)
single_or (Some position) range = Some (position, position + 1)
single_or None range = range

-- the columns that a word chooses
abbrev pub columns_chosen : List Text → ℕ → Text → Option (ℕ × ℕ)
columns_chosen names count word = single_or (column_of names count word) (range_of names count word)

-- the positions from the first end on, before the second one
abbrev pub positions_between : ℕ × ℕ → List ℕ
positions_between ends = range_with_len ends.0 (ends.1 - ends.0)

-- the positions that a word chooses
abbrev pub positions_of_word : List Text → ℕ → Text → Result (List ℕ) ColumnFault
positions_of_word names count word =
    ok_or (option_map positions_between (columns_chosen names count word))
    (missing word (hint_for names count word))

-- the second list after the first one, or the first fault
abbrev pub joined : Result (List ℕ) ColumnFault → Result (List ℕ) ColumnFault
    → Result (List ℕ) ColumnFault
joined (Ok xs) (Ok ys) = Ok (xs ++ ys)
joined (Ok xs) (Err fault) = Err fault
joined (Err fault) ys = Err fault

-- the positions that each word chooses, in the order of the words
abbrev pub positions_of_each : {A : Type 0} → List Text → ℕ → List (String A)
    → Result (List ℕ) ColumnFault
positions_of_each {A} names count words =
    fold (λ (found : Result (List ℕ) ColumnFault) (word : String A).
    joined found (positions_of_word names count (string_bytes word))) (Ok []) words

-- the position of the first name that is equal to the words joined by commas
abbrev pub whole_name : {A : Type 0} → List Text → List (String A) → Option ℕ
whole_name names words =
    if nat_lt (length words) 2
    then None
    else position_named (join_by string_bytes (codes ",") words) names

-- the positions that words choose: that of the column whose name is all words joined by commas, or
-- else those of each word
abbrev pub positions_of : {A : Type 0} → List Text → ℕ → List (String A)
    → Result (List ℕ) ColumnFault
positions_of names count words =
    option_map_or (λ position. Ok (positions_between (position, position + 1)))
    (whole_name names words) (positions_of_each names count words)

-- the positions of the chosen columns, or of the first `counts.filled` columns if none is chosen
abbrev pub chosen_columns : {A : Type 0} → List Text → Counts → List (String A)
    → Result (List ℕ) ColumnFault
chosen_columns names counts words =
    if length words == 0
    then Ok (range_with_len 0 counts.filled)
    else positions_of names counts.all words

-- the positions of one list that aren't in another
abbrev pub without : List ℕ → List ℕ → List ℕ
without positions dropped =
    filter (λ position. not (list_any (λ other. other == position) dropped)) positions

-- the positions, or the fault `none_left` if there are none
abbrev pub some_left : List ℕ → Result (List ℕ) ColumnFault
some_left positions = if length positions == 0 then Err none_left else Ok positions

-- the first positions without the second ones, or the first fault
abbrev pub less : Result (List ℕ) ColumnFault → Result (List ℕ) ColumnFault
    → Result (List ℕ) ColumnFault
less (Ok positions) (Ok dropped) = some_left (without positions dropped)
less (Ok positions) (Err fault) = Err fault
less (Err fault) dropped = Err fault

-- the positions of the columns that are drawn: the chosen ones without the dropped ones; at least
-- one must be left
abbrev pub kept_columns : {A : Type 0} → List Text → Counts → List (String A) → List (String A)
    → Result (List ℕ) ColumnFault
kept_columns names counts words dropped =
    less (chosen_columns names counts words) (positions_of names counts.all dropped)

-- the first right-aligned column that is left-aligned too
abbrev pub at_two_sides : List ℕ → List ℕ → Option ℕ
at_two_sides right left = find (λ p. list_any (λ q. q == p) left) right

-- the columns, unless one has two alignments
abbrev pub placed_columns : List Text → ColumnsValue → Option ℕ → Result ColumnsValue ColumnFault
placed_columns names columns (Some position) = Err (two_sided (name_at names position))
placed_columns names columns None = Ok columns

-- the columns that are drawn, or the first fault. The lists of chosen and dropped columns are tried
-- first, then the right-aligned and the left-aligned ones, and then these two together.
abbrev pub columns_with : List Text → Result (List ℕ) ColumnFault → Result (List ℕ) ColumnFault
    → Result (List ℕ) ColumnFault → Result ColumnsValue ColumnFault
columns_with names (Ok positions) (Ok right) (Ok left) =
    placed_columns names (record { drawn = positions; right = right; left = left })
    (at_two_sides right left)
columns_with names (Ok positions) (Ok right) (Err fault) = Err fault
columns_with names (Ok positions) (Err fault) left = Err fault
columns_with names (Err fault) right left = Err fault

-- the columns that words choose of a header and rows with these numbers of columns
abbrev pub columns_by : ColumnWords → List Text → Counts → Result ColumnsValue ColumnFault
columns_by words names counts =
    columns_with names (kept_columns names counts words.chosen.items words.dropped.items)
    (positions_of names counts.all words.right.items)
    (positions_of names counts.all words.left.items)

-- the columns that are drawn of some records
abbrev pub columns_for : Options → List (List Text) → Result ColumnsValue ColumnFault
columns_for options records =
    columns_by options.columns (names_or_none options.selection records)
    (record {
      all = column_count options.selection records;
      filled = filled_columns options.selection records;
    })

-- the error for a missing choice of columns: a fault of the lists, or there is no memory
abbrev pub IsColumnsRefusal : {A : Type 0} → ColumnsError → Result A ColumnFault → Type 0
IsColumnsRefusal (NoColumn word hint) columns =
    columns ≡ Err (missing (string_bytes word) (string_bytes hint))
IsColumnsRefusal NoneLeft columns = columns ≡ Err none_left
IsColumnsRefusal (TwoSides name) columns = columns ≡ Err (two_sided (string_bytes name))
IsColumnsRefusal OutOfMemory columns = Unit {0}
