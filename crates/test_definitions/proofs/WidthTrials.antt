-- Widths, computed and checked on small tables.
use Rattle.std.proofs.Common.{◌≡◌, ◌<◌, [], ◌∷◌, refl, Some, None, map, lit<, lit≤, arith, true, false, is_some, length}
use Rattle.comfy_parts.proofs.Computing.{wrapping}
use Rattle.comfy_parts.specs.CellValue.{plain_row, new_column, info_width}
use Rattle.comfy_parts.specs.Presets.{ascii_full, utf8_full}
use Rattle.comfy_parts.specs.declared.style.cell.CellAlignment.TheVariants.{Left, Right, Center}
use Rattle.comfy_parts.specs.declared.style.column.ColumnConstraint.TheVariants.{Hidden, Absolute, LowerBoundary, UpperBoundary}
use Rattle.comfy_parts.specs.declared.style.column.Width.TheVariants.{Fixed, Percentage}
use Rattle.comfy_parts.specs.declared.style.table.ContentArrangement.TheVariants.{Disabled, Dynamic, DynamicFullWidth}
use Rattle.test_definitions.proofs.TrialTables.{table_of, rows_of, row_of, texts, with_constraints, arranged, with_heights, with_paddings, with_alignments, with_indicator, with_delimiter, aligned_cell, cells_of, rounded_utf8, at_widths, by_steps}
use Rattle.comfy_table.specs.Arrangement.{IsArranged, IsDrawingOf}
use Rattle.comfy_table.specs.TableValue.{TableValue, max_content_widths, new_table, with_row, with_header, discovered, cells_with_header, is_tty, table_width, should_style}
use Rattle.comfy_table.specs.Lines.{longest_line_at}
use Rattle.comfy_table.specs.Widths.{even_spread, without_padding, resolved_width}
use Rattle.comfy_table.specs.Frame.{border_count}
use Rattle.comfy_table.specs.Drawing.{infos_of}

-- nothing is below 0
absurd_below : {A : Type 0} → 0 < 0 → A
absurd_below below = absurd (omega arith)

-- standard output is a terminal of 12 terminal columns, and standard error isn't one
abbrev on_terminal : TableValue
on_terminal = record (new_table ascii_full) { terminal = record { stdout_is_tty = true; stderr_is_tty = false; width = Some 12 } }

abbrev on_error : TableValue
on_error = record on_terminal { use_stderr = true }

seven_over_three : even_spread 7 3 ≡ 3 ∷ 2 ∷ 2 ∷ []
seven_over_three = refl

-- ---- without a known width, or under `Disabled`

-- an absolute width without the paddings, and a text of delimiters alone: no content line
five_spaces : IsDrawingOf (with_constraints (Some (Absolute (Fixed 5)) ∷ []) (rows_of ascii_full (("     " ∷ []) ∷ []))) (texts ("+-----+" ∷ "+-----+" ∷ []))
unfolding wrapping
five_spaces = (3 ∷ [], at_widths refl refl refl, refl)

-- an upper boundary is compared with the content without its padding
boundary_above_content : IsDrawingOf (with_constraints (Some (UpperBoundary (Fixed 6)) ∷ []) (rows_of ascii_full (("abcde" ∷ []) ∷ []))) (texts ("+-------+" ∷ "| abcde |" ∷ "+-------+" ∷ []))
unfolding wrapping
boundary_above_content = (5 ∷ [], at_widths refl refl refl, refl)

boundary_below_content : IsDrawingOf (with_constraints (Some (UpperBoundary (Fixed 4)) ∷ []) (rows_of ascii_full (("abcde" ∷ []) ∷ []))) (texts ("+----+" ∷ "| ab |" ∷ "| cd |" ∷ "| e  |" ∷ "+----+" ∷ []))
unfolding wrapping
boundary_below_content = (2 ∷ [], at_widths refl refl refl, refl)

-- half of 20, without the paddings
half_of_the_width : IsDrawingOf (with_constraints (Some (Absolute (Percentage 50)) ∷ []) (arranged Disabled 22 (rows_of ascii_full (("a" ∷ []) ∷ [])))) (texts ("+----------+" ∷ "| a        |" ∷ "+----------+" ∷ []))
unfolding wrapping
half_of_the_width = (8 ∷ [], at_widths refl refl refl, refl)

half_of_nothing_known : IsDrawingOf (with_constraints (Some (Absolute (Percentage 50)) ∷ []) (rows_of ascii_full (("a" ∷ []) ∷ []))) (texts ("+---+" ∷ "| a |" ∷ "+---+" ∷ []))
unfolding wrapping
half_of_nothing_known = (1 ∷ [], at_widths refl refl refl, refl)

half_of_one : IsDrawingOf (with_constraints (Some (Absolute (Percentage 50)) ∷ []) (arranged Disabled 1 (rows_of ascii_full (("a" ∷ []) ∷ [])))) (texts ("+---+" ∷ "| a |" ∷ "+---+" ∷ []))
unfolding wrapping
half_of_one = (1 ∷ [], at_widths refl refl refl, refl)

lower_boundary_kept : IsDrawingOf (with_constraints (Some (LowerBoundary (Fixed 10)) ∷ []) (rows_of ascii_full (("abc" ∷ []) ∷ []))) (texts ("+----------+" ∷ "| abc      |" ∷ "+----------+" ∷ []))
unfolding wrapping
lower_boundary_kept = (8 ∷ [], at_widths refl refl refl, refl)

contents_of_a_header : max_content_widths (table_of ascii_full ("thr" ∷ "four" ∷ "fivef" ∷ []) []) ≡ 3 ∷ 4 ∷ 5 ∷ []
unfolding wrapping
contents_of_a_header = refl

contents_with_empty_cells : max_content_widths (table_of ascii_full ("thr" ∷ "four" ∷ "fivef" ∷ []) (("four" ∷ "fivef" ∷ "very long text with 23" ∷ []) ∷ ("" ∷ "" ∷ "shorter" ∷ []) ∷ [])) ≡ 4 ∷ 5 ∷ 22 ∷ []
unfolding wrapping
contents_with_empty_cells = refl

-- a row without the cell has none, and neither has a missing header
missing_cells_by_row : map is_some (cells_with_header (table_of ascii_full ("A" ∷ "B" ∷ []) (("First" ∷ "Second" ∷ []) ∷ ("Third" ∷ []) ∷ ("Fourth" ∷ "Fifth" ∷ []) ∷ [])) 1) ≡ true ∷ true ∷ false ∷ true ∷ []
missing_cells_by_row = refl

missing_header : map is_some (cells_with_header (rows_of ascii_full (("First" ∷ "Second" ∷ []) ∷ ("Third" ∷ []) ∷ ("Fourth" ∷ "Fifth" ∷ []) ∷ [])) 1) ≡ false ∷ true ∷ false ∷ true ∷ []
missing_header = refl

terminal_facts : (is_tty on_terminal ≡ true) × (table_width on_terminal ≡ Some 12) × (should_style on_terminal ≡ true) × (is_tty on_error ≡ false) × (table_width on_error ≡ None) × (should_style on_error ≡ false)
    × (should_style (record on_error { enforce_styling = true }) ≡ true) × (table_width (record on_error { set_width = Some 5 }) ≡ Some 5)
terminal_facts = (refl, refl, refl, refl, refl, refl, refl, refl)

-- paddings never take the last terminal column
less_paddings : (without_padding 2 8 ≡ 6) × (without_padding 131070 10 ≡ 1)
less_paddings = (refl, refl)

borders : (border_count ascii_full 3 ≡ 4) × (border_count ascii_full 0 ≡ 2)
borders = (refl, refl)

-- at most 100 percent
percentages : (resolved_width (arranged Disabled 22 (new_table ascii_full)) 1 (Percentage 150) ≡ Some 20) × (resolved_width (new_table ascii_full) 1 (Percentage 150) ≡ None)
percentages = (refl, refl)

-- a header of fewer cells removes no column
columns_only_grow : length (with_header (row_of ("a" ∷ "b" ∷ [])) (with_header (row_of ("a" ∷ "b" ∷ "c" ∷ "d" ∷ [])) (with_header (row_of ("a" ∷ "b" ∷ "c" ∷ [])) (new_table ascii_full)))).columns ≡ 4
columns_only_grow = refl

-- a cell that was added to a row after the columns is not drawn
late_cell : IsDrawingOf (record (rows_of ascii_full (("one" ∷ "two" ∷ []) ∷ [])) { rows = row_of ("one" ∷ "two" ∷ "three" ∷ []) ∷ [] }) (texts ("+-----+-----+" ∷ "| one | two |" ∷ "+-----+-----+" ∷ []))
unfolding wrapping
late_cell = (3 ∷ 3 ∷ [], at_widths refl refl refl, refl)

widest_paddings : map info_width (infos_of (with_paddings ((65535, 65535) ∷ []) (rows_of ascii_full (("a" ∷ []) ∷ []))) (1 ∷ [])) ≡ 131071 ∷ []
widest_paddings = refl

-- a width of 0 counts as 1, and there is no second column
longest_lines : (longest_line_at (rows_of ascii_full (("abcd  efghi" ∷ []) ∷ [])) 0 10 ≡ 5) × (longest_line_at (rows_of ascii_full (("abcd  efghi" ∷ []) ∷ [])) 0 5 ≡ 5)
    × (longest_line_at (rows_of ascii_full (("abcd  efghi" ∷ []) ∷ [])) 0 11 ≡ 11) × (longest_line_at (rows_of ascii_full (("abcd  efghi" ∷ []) ∷ [])) 1 10 ≡ 0)
    × (longest_line_at (rows_of ascii_full (("abcd  efghi" ∷ []) ∷ [])) 0 0 ≡ 1)
unfolding wrapping
longest_lines = (refl, refl, refl, refl, refl)

-- ---- dynamic widths, and drawings over them

-- three columns that claim evenly; the first row's first cell is centred
three_even_columns : IsDrawingOf
    (with_alignments (Left ∷ Left ∷ Right ∷ []) (arranged Dynamic 40 (with_row (row_of ("This is another text" ∷ "Now\nadd some\nmulti line stuff" ∷ "This is awesome" ∷ [])) (with_row (plain_row (aligned_cell Center "This is a text" ∷ cells_of ("This is another text" ∷ "This is the third text" ∷ []))) (with_header (row_of ("Header1" ∷ "Header2" ∷ "Header3" ∷ [])) (new_table rounded_utf8)))))) (texts
    ("╭────────────┬────────────┬────────────╮"
    ∷ "│ Header1    ┆ Header2    ┆    Header3 │"
    ∷ "╞════════════╪════════════╪════════════╡"
    ∷ "│  This is a ┆ This is    ┆    This is │"
    ∷ "│    text    ┆ another    ┆  the third │"
    ∷ "│            ┆ text       ┆       text │"
    ∷ "├╌╌╌╌╌╌╌╌╌╌╌╌┼╌╌╌╌╌╌╌╌╌╌╌╌┼╌╌╌╌╌╌╌╌╌╌╌╌┤"
    ∷ "│ This is    ┆ Now        ┆    This is │"
    ∷ "│ another    ┆ add some   ┆    awesome │"
    ∷ "│ text       ┆ multi line ┆            │"
    ∷ "│            ┆ stuff      ┆            │"
    ∷ "╰────────────┴────────────┴────────────╯" ∷ []))
unfolding wrapping
three_even_columns = (10 ∷ 10 ∷ 10 ∷ [], at_widths refl refl (by_steps (record { lower = []; level = Some 10; shrunk = [] }) refl (lit≤ tt, lit≤ tt, lit≤ tt, λ some. refl) refl refl), refl)

-- at 10 the first column's longest line is 7, and the others take 23
first_column_shrinks : IsDrawingOf
    (with_alignments (Left ∷ Left ∷ Right ∷ []) (arranged Dynamic 40 (with_row (row_of ("This is another text" ∷ "Now\nadd some\nmulti line stuff" ∷ "This is awesome" ∷ [])) (with_row (plain_row (aligned_cell Center "Center aligned" ∷ cells_of ("This is another text" ∷ "This is the third text" ∷ []))) (with_header (row_of ("Header1" ∷ "Header2" ∷ "Header3" ∷ [])) (new_table rounded_utf8)))))) (texts
    ("╭─────────┬──────────────┬─────────────╮"
    ∷ "│ Header1 ┆ Header2      ┆     Header3 │"
    ∷ "╞═════════╪══════════════╪═════════════╡"
    ∷ "│  Center ┆ This is      ┆ This is the │"
    ∷ "│ aligned ┆ another text ┆  third text │"
    ∷ "├╌╌╌╌╌╌╌╌╌┼╌╌╌╌╌╌╌╌╌╌╌╌╌╌┼╌╌╌╌╌╌╌╌╌╌╌╌╌┤"
    ∷ "│ This is ┆ Now          ┆     This is │"
    ∷ "│ another ┆ add some     ┆     awesome │"
    ∷ "│ text    ┆ multi line   ┆             │"
    ∷ "│         ┆ stuff        ┆             │"
    ∷ "╰─────────┴──────────────┴─────────────╯" ∷ []))
unfolding wrapping
first_column_shrinks = (7 ∷ 12 ∷ 11 ∷ [], at_widths refl refl (by_steps (record { lower = []; level = Some 10; shrunk = (0, 7) ∷ [] }) refl (lit≤ tt, lit≤ tt, lit≤ tt, λ some. refl) (refl, refl) refl), refl)

-- hidden columns keep the cells of their positions
hidden_columns_are_left_out : IsDrawingOf
    (arranged Dynamic 25 (with_constraints (Some Hidden ∷ None ∷ Some Hidden ∷ Some Hidden ∷ None ∷ None ∷ Some Hidden ∷ []) (table_of utf8_full ("hidden_header" ∷ "smol" ∷ "hidden_header" ∷ "Two_hidden_headers_in_a_row" ∷ "Header2" ∷ "Header3" ∷ "hidden_header" ∷ []) (("start_hidden" ∷ "smol" ∷ "middle_hidden" ∷ "two_hidden_headers_in_a_row" ∷ "This is another text" ∷ "This is the third text" ∷ "end_hidden" ∷ []) ∷ ("asdf" ∷ "smol" ∷ "asdf" ∷ "asdf" ∷ "Now\nadd some\nmulti line stuff" ∷ "This is awesome" ∷ "asdf" ∷ []) ∷ [])))) (texts
    ("┌──────┬────────┬───────┐"
    ∷ "│ smol ┆ Header ┆ Heade │"
    ∷ "│      ┆ 2      ┆ r3    │"
    ∷ "╞══════╪════════╪═══════╡"
    ∷ "│ smol ┆ This   ┆ This  │"
    ∷ "│      ┆ is ano ┆ is    │"
    ∷ "│      ┆ ther   ┆ the   │"
    ∷ "│      ┆ text   ┆ third │"
    ∷ "│      ┆        ┆ text  │"
    ∷ "├╌╌╌╌╌╌┼╌╌╌╌╌╌╌╌┼╌╌╌╌╌╌╌┤"
    ∷ "│ smol ┆ Now    ┆ This  │"
    ∷ "│      ┆ add    ┆ is    │"
    ∷ "│      ┆ some   ┆ aweso │"
    ∷ "│      ┆ multi  ┆ me    │"
    ∷ "│      ┆ line   ┆       │"
    ∷ "│      ┆ stuff  ┆       │"
    ∷ "└──────┴────────┴───────┘" ∷ []))
unfolding wrapping
hidden_columns_are_left_out = (13 ∷ 4 ∷ 13 ∷ 27 ∷ 6 ∷ 5 ∷ 13 ∷ [], at_widths refl refl (by_steps (record { lower = []; level = Some 5; shrunk = [] }) refl (lit≤ tt, lit≤ tt, lit≤ tt, λ some. refl) refl refl), refl)

every_column_hidden : IsDrawingOf
    (with_constraints (Some Hidden ∷ Some Hidden ∷ Some Hidden ∷ Some Hidden ∷ Some Hidden ∷ Some Hidden ∷ Some Hidden ∷ []) (table_of utf8_full ("hidden_header" ∷ "smol" ∷ "hidden_header" ∷ "Two_hidden_headers_in_a_row" ∷ "Header2" ∷ "Header3" ∷ "hidden_header" ∷ []) (("start_hidden" ∷ "smol" ∷ "middle_hidden" ∷ "two_hidden_headers_in_a_row" ∷ "This is another text" ∷ "This is the third text" ∷ "end_hidden" ∷ []) ∷ ("asdf" ∷ "smol" ∷ "asdf" ∷ "asdf" ∷ "Now\nadd some\nmulti line stuff" ∷ "This is awesome" ∷ "asdf" ∷ []) ∷ []))) (texts
    ("┌┐"
    ∷ "╞╡"
    ∷ "├┤"
    ∷ "└┘" ∷ []))
unfolding wrapping
every_column_hidden = (13 ∷ 4 ∷ 13 ∷ 27 ∷ 20 ∷ 22 ∷ 13 ∷ [], at_widths refl refl refl, refl)

-- two absolute widths, and rows cut at four lines
absolute_widths_and_cuts : IsDrawingOf
    (arranged Dynamic 35 (with_constraints (None ∷ Some (Absolute (Fixed 8)) ∷ Some (Absolute (Fixed 7)) ∷ []) (with_heights 4 (table_of ascii_full ("Header1" ∷ "Header2" ∷ "Head" ∷ []) (("This is a very long line with a lot of text" ∷ "This is anotherverylongtextwithlongwords text" ∷ "smol" ∷ []) ∷ ("Now let's\nadd a really long line in the middle of the cell \n and add more multi line stuff" ∷ "This is another text" ∷ "smol" ∷ []) ∷ []))))) (texts
    ("+----------------+--------+-------+"
    ∷ "| Header1        | Header | Head  |"
    ∷ "|                | 2      |       |"
    ∷ "+=================================+"
    ∷ "| This is a very | This   | smol  |"
    ∷ "| long line with | is ano |       |"
    ∷ "| a lot of text  | therve |       |"
    ∷ "|                | rylon… |       |"
    ∷ "|----------------+--------+-------|"
    ∷ "| Now let's      | This   | smol  |"
    ∷ "| add a really   | is ano |       |"
    ∷ "| long line in   | ther   |       |"
    ∷ "| the middle of… | text   |       |"
    ∷ "+----------------+--------+-------+" ∷ []))
unfolding wrapping
absolute_widths_and_cuts = (14 ∷ 6 ∷ 5 ∷ [], at_widths refl refl (by_steps (record { lower = []; level = Some 14; shrunk = [] }) refl (lit≤ tt, lit≤ tt, lit≤ tt, λ some. refl) refl refl), refl)

-- the same with an indicator of three terminal columns
cuts_with_three_points : IsDrawingOf
    (with_indicator "..." (arranged Dynamic 35 (with_constraints (None ∷ Some (Absolute (Fixed 8)) ∷ Some (Absolute (Fixed 7)) ∷ []) (with_heights 4 (table_of ascii_full ("Header1" ∷ "Header2" ∷ "Head" ∷ []) (("This is a very long line with a lot of text" ∷ "This is anotherverylongtextwithlongwords text" ∷ "smol" ∷ []) ∷ ("Now let's\nadd a really long line in the middle of the cell \n and add more multi line stuff" ∷ "This is another text" ∷ "smol" ∷ []) ∷ [])))))) (texts
    ("+----------------+--------+-------+"
    ∷ "| Header1        | Header | Head  |"
    ∷ "|                | 2      |       |"
    ∷ "+=================================+"
    ∷ "| This is a very | This   | smol  |"
    ∷ "| long line with | is ano |       |"
    ∷ "| a lot of text  | therve |       |"
    ∷ "|                | ryl... |       |"
    ∷ "|----------------+--------+-------|"
    ∷ "| Now let's      | This   | smol  |"
    ∷ "| add a really   | is ano |       |"
    ∷ "| long line in   | ther   |       |"
    ∷ "| the middle ... | text   |       |"
    ∷ "+----------------+--------+-------+" ∷ []))
unfolding wrapping
cuts_with_three_points = (14 ∷ 6 ∷ 5 ∷ [], at_widths refl refl (by_steps (record { lower = []; level = Some 14; shrunk = [] }) refl (lit≤ tt, lit≤ tt, lit≤ tt, λ some. refl) refl refl), refl)

cut_at_one_line : IsDrawingOf
    (arranged Dynamic 40 (with_heights 0 (table_of ascii_full ("Header1" ∷ "Header2" ∷ []) (("some multiline\ncontent" ∷ "single line" ∷ []) ∷ [])))) (texts
    ("+----------------+-------------+"
    ∷ "| Header1        | Header2     |"
    ∷ "+==============================+"
    ∷ "| some multilin… | single line |"
    ∷ "+----------------+-------------+" ∷ []))
unfolding wrapping
cut_at_one_line = (14 ∷ 11 ∷ [], at_widths refl refl (by_steps (record { lower = []; level = Some 17; shrunk = [] }) refl (lit≤ tt, lit≤ tt, lit≤ tt, λ none. absurd_below none) refl refl), refl)

indicator_wider_than_the_column : IsDrawingOf
    (with_indicator "..." (arranged Dynamic 30 (with_constraints (Some (Absolute (Fixed 3)) ∷ []) (with_heights 1 (rows_of ascii_full (("multi\nline" ∷ "some longer content" ∷ []) ∷ [])))))) (texts
    ("+---+---------------------+"
    ∷ "| m | some longer content |"
    ∷ "+---+---------------------+" ∷ []))
unfolding wrapping
indicator_wider_than_the_column = (1 ∷ 19 ∷ [], at_widths refl refl (by_steps (record { lower = []; level = Some 22; shrunk = [] }) refl (lit≤ tt, lit≤ tt, lit≤ tt, λ none. absurd_below none) refl refl), refl)

-- without room each column has one terminal column
no_room : IsDrawingOf
    (arranged Dynamic 0 (rows_of ascii_full (("ab" ∷ "cd" ∷ []) ∷ []))) (texts
    ("+---+---+"
    ∷ "| a | c |"
    ∷ "| b | d |"
    ∷ "+---+---+" ∷ []))
unfolding wrapping
no_room = (1 ∷ 1 ∷ [], at_widths refl refl (by_steps (record { lower = []; level = None; shrunk = [] }) refl (lit< tt) refl refl), refl)

-- a column without a cell has the width 1
empty_columns_take_a_place : IsDrawingOf
    (arranged DynamicFullWidth 13 (with_header (row_of ("x" ∷ [])) (with_header (row_of ("a" ∷ "b" ∷ "c" ∷ [])) (new_table ascii_full)))) (texts
    ("+---+---+---+"
    ∷ "| x |   |   |"
    ∷ "+===========+"
    ∷ "+---+---+---+" ∷ []))
unfolding wrapping
empty_columns_take_a_place = (1 ∷ 1 ∷ 1 ∷ [], at_widths refl refl (by_steps (record { lower = []; level = Some 1; shrunk = [] }) refl (lit≤ tt, lit≤ tt, lit≤ tt, λ none. absurd_below none) refl refl), refl)

-- three columns fit with 1 each, and 7 are spread as 3, 2, 2
full_width_adds_the_rest : IsDrawingOf
    (arranged DynamicFullWidth 20 (table_of ascii_full ("a" ∷ "b" ∷ "c" ∷ []) (("1" ∷ "2" ∷ "3" ∷ []) ∷ []))) (texts
    ("+------+-----+-----+"
    ∷ "| a    | b   | c   |"
    ∷ "+==================+"
    ∷ "| 1    | 2   | 3   |"
    ∷ "+------+-----+-----+" ∷ []))
unfolding wrapping
full_width_adds_the_rest = (4 ∷ 3 ∷ 3 ∷ [], at_widths refl refl (by_steps (record { lower = []; level = Some 3; shrunk = [] }) refl (lit≤ tt, lit≤ tt, lit≤ tt, λ none. absurd_below none) refl refl), refl)

-- at 10 the lines are `abcd ` and `efghi`
shrinks_to_five : IsDrawingOf
    (arranged Dynamic 14 (rows_of ascii_full (("abcd  efghi" ∷ []) ∷ []))) (texts
    ("+-------+"
    ∷ "| abcd  |"
    ∷ "| efghi |"
    ∷ "+-------+" ∷ []))
unfolding wrapping
shrinks_to_five = (5 ∷ [], at_widths refl refl (by_steps (record { lower = []; level = Some 10; shrunk = (0, 5) ∷ [] }) refl (lit≤ tt, lit≤ tt, lit≤ tt, λ some. refl) (refl, refl) refl), refl)

check_mark_in_the_middle : IsDrawingOf
    (arranged Dynamic 8 (table_of ascii_full ("test" ∷ []) (("abc✅def" ∷ []) ∷ []))) (texts
    ("+------+"
    ∷ "| test |"
    ∷ "+======+"
    ∷ "| abc  |"
    ∷ "| ✅de |"
    ∷ "| f    |"
    ∷ "+------+" ∷ []))
unfolding wrapping
check_mark_in_the_middle = (4 ∷ [], at_widths refl refl (by_steps (record { lower = []; level = Some 4; shrunk = [] }) refl (lit≤ tt, lit≤ tt, lit≤ tt, λ some. refl) refl refl), refl)

wide_characters : IsDrawingOf
    (arranged Dynamic 8 (table_of ascii_full ("test" ∷ []) (("abc新年快乐edf" ∷ []) ∷ []))) (texts
    ("+------+"
    ∷ "| test |"
    ∷ "+======+"
    ∷ "| abc  |"
    ∷ "| 新年 |"
    ∷ "| 快乐 |"
    ∷ "| edf  |"
    ∷ "+------+" ∷ []))
unfolding wrapping
wide_characters = (4 ∷ [], at_widths refl refl (by_steps (record { lower = []; level = Some 4; shrunk = [] }) refl (lit≤ tt, lit≤ tt, lit≤ tt, λ some. refl) refl refl), refl)

-- the content line is one terminal column wider than the frame
wide_character_in_one_place : IsDrawingOf
    (arranged Dynamic 0 (rows_of ascii_full (("✅" ∷ []) ∷ []))) (texts
    ("+---+"
    ∷ "| ✅ |"
    ∷ "+---+" ∷ []))
unfolding wrapping
wide_character_in_one_place = (1 ∷ [], at_widths refl refl (by_steps (record { lower = []; level = None; shrunk = [] }) refl (lit< tt) refl refl), refl)

full_width_widens_early_columns : IsDrawingOf
    (arranged DynamicFullWidth 12 (with_constraints (Some (Absolute (Fixed 5)) ∷ []) (rows_of ascii_full (("a" ∷ []) ∷ [])))) (texts
    ("+----------+"
    ∷ "| a        |"
    ∷ "+----------+" ∷ []))
unfolding wrapping
full_width_widens_early_columns = (8 ∷ [], at_widths refl refl (by_steps (record { lower = []; level = Some 1; shrunk = [] }) refl (lit≤ tt, lit≤ tt, lit≤ tt, λ none. absurd_below none) refl refl), refl)

-- the average is 8, and the lower boundary gets 10 without the paddings
lower_boundary_above_the_average : IsDrawingOf
    (arranged Dynamic 24 (with_constraints (Some (LowerBoundary (Fixed 10)) ∷ []) (rows_of ascii_full (("aaaaaaaaaaaaaaaaaaaa" ∷ "b" ∷ []) ∷ [])))) (texts
    ("+----------+---+"
    ∷ "| aaaaaaaa | b |"
    ∷ "| aaaaaaaa |   |"
    ∷ "| aaaa     |   |"
    ∷ "+----------+---+" ∷ []))
unfolding wrapping
lower_boundary_above_the_average = (8 ∷ 1 ∷ [], at_widths refl refl (by_steps (record { lower = (0, 8) ∷ []; level = Some 9; shrunk = [] }) (refl, refl) (lit≤ tt, lit≤ tt, lit≤ tt, λ none. absurd_below none) refl refl), refl)

-- the average is 26, so the lower boundary isn't taken
lower_boundary_below_the_average : IsDrawingOf
    (arranged Dynamic 60 (with_constraints (Some (LowerBoundary (Fixed 10)) ∷ []) (rows_of ascii_full (("aaaaaaaaaaaaaaaaaaaa" ∷ "b" ∷ []) ∷ [])))) (texts
    ("+----------------------+---+"
    ∷ "| aaaaaaaaaaaaaaaaaaaa | b |"
    ∷ "+----------------------+---+" ∷ []))
unfolding wrapping
lower_boundary_below_the_average = (20 ∷ 1 ∷ [], at_widths refl refl (by_steps (record { lower = []; level = Some 26; shrunk = [] }) refl (lit≤ tt, lit≤ tt, lit≤ tt, λ none. absurd_below none) refl refl), refl)

-- the average is 5, the upper boundary allows 4, and 6 are left
upper_boundary_below_the_average : IsDrawingOf
    (arranged Dynamic 17 (with_constraints (Some (UpperBoundary (Fixed 6)) ∷ []) (rows_of ascii_full (("aaaaaaaaaa" ∷ "bbbbbbbbbb" ∷ []) ∷ [])))) (texts
    ("+------+--------+"
    ∷ "| aaaa | bbbbbb |"
    ∷ "| aaaa | bbbb   |"
    ∷ "| aa   |        |"
    ∷ "+------+--------+" ∷ []))
unfolding wrapping
upper_boundary_below_the_average = (4 ∷ 6 ∷ [], at_widths refl refl (by_steps (record { lower = []; level = Some 6; shrunk = [] }) refl (lit≤ tt, lit≤ tt, lit≤ tt, λ some. refl) refl refl), refl)

everything_fits : IsDrawingOf
    (arranged Dynamic 72 (table_of ascii_full ("Header1" ∷ "Header2" ∷ "Header3" ∷ []) (("This is a text" ∷ "This is another text" ∷ "This is the third text" ∷ []) ∷ ("This is another text" ∷ "Now\nadd some\nmulti line stuff" ∷ "This is awesome" ∷ []) ∷ []))) (texts
    ("+----------------------+----------------------+------------------------+"
    ∷ "| Header1              | Header2              | Header3                |"
    ∷ "+======================================================================+"
    ∷ "| This is a text       | This is another text | This is the third text |"
    ∷ "|----------------------+----------------------+------------------------|"
    ∷ "| This is another text | Now                  | This is awesome        |"
    ∷ "|                      | add some             |                        |"
    ∷ "|                      | multi line stuff     |                        |"
    ∷ "+----------------------+----------------------+------------------------+" ∷ []))
unfolding wrapping
everything_fits = (20 ∷ 20 ∷ 22 ∷ [], at_widths refl refl (by_steps (record { lower = []; level = Some 22; shrunk = [] }) refl (lit≤ tt, lit≤ tt, lit≤ tt, λ none. absurd_below none) refl refl), refl)

-- two fit with 20 each, 21 are left, and the third shrinks to 17
third_column_shrinks : IsArranged (arranged Dynamic 71 (table_of ascii_full ("Header1" ∷ "Header2" ∷ "Header3" ∷ []) (("This is a text" ∷ "This is another text" ∷ "This is the third text" ∷ []) ∷ ("This is another text" ∷ "Now\nadd some\nmulti line stuff" ∷ "This is awesome" ∷ []) ∷ []))) (20 ∷ 20 ∷ 17 ∷ [])
unfolding wrapping
third_column_shrinks =
    at_widths refl refl (by_steps (record { lower = []; level = Some 21; shrunk = (2, 17) ∷ [] }) refl (lit≤ tt, lit≤ tt, lit≤ tt, λ some. refl) (refl, refl) refl)

-- the 4 left are spread as 2, 1, 1
third_column_shrinks_at_full_width : IsArranged (arranged DynamicFullWidth 71 (table_of ascii_full ("Header1" ∷ "Header2" ∷ "Header3" ∷ []) (("This is a text" ∷ "This is another text" ∷ "This is the third text" ∷ []) ∷ ("This is another text" ∷ "Now\nadd some\nmulti line stuff" ∷ "This is awesome" ∷ []) ∷ []))) (22 ∷ 21 ∷ 18 ∷ [])
unfolding wrapping
third_column_shrinks_at_full_width =
    at_widths refl refl (by_steps (record { lower = []; level = Some 21; shrunk = (2, 17) ∷ [] }) refl (lit≤ tt, lit≤ tt, lit≤ tt, λ some. refl) (refl, refl) refl)

-- at 10 the first column shrinks to 7; the second then has 13, and its text fits
one_shrinks_and_one_does_not : IsDrawingOf
    (arranged Dynamic 27 (rows_of ascii_full (("aaaaaaa bbbbb" ∷ "aaaaaaa bbbbb" ∷ []) ∷ []))) (texts
    ("+---------+---------------+"
    ∷ "| aaaaaaa | aaaaaaa bbbbb |"
    ∷ "| bbbbb   |               |"
    ∷ "+---------+---------------+" ∷ []))
unfolding wrapping
one_shrinks_and_one_does_not = (7 ∷ 13 ∷ [], at_widths refl refl (by_steps (record { lower = []; level = Some 10; shrunk = (0, 7) ∷ [] }) refl (lit≤ tt, lit≤ tt, lit≤ tt, λ some. refl) (refl, refl) refl), refl)

display_widths : IsArranged (table_of ascii_full ("head" ∷ "head" ∷ "head" ∷ []) (("__" ∷ "fivef" ∷ "sixsix" ∷ []) ∷ [])) (4 ∷ 5 ∷ 6 ∷ [])
unfolding wrapping
display_widths =
    at_widths refl refl refl

widest_table : IsArranged (arranged DynamicFullWidth 65535 (rows_of ascii_full (("a" ∷ []) ∷ []))) (65531 ∷ [])
unfolding wrapping
widest_table =
    at_widths refl refl (by_steps (record { lower = []; level = Some 65531; shrunk = [] }) refl (lit≤ tt, lit≤ tt, lit≤ tt, λ none. absurd_below none) refl refl)

cut_beside_the_indicator : IsDrawingOf
    (with_heights 0 (rows_of ascii_full (("some multiline\ncontent" ∷ []) ∷ []))) (texts
    ("+----------------+"
    ∷ "| some multilin… |"
    ∷ "+----------------+" ∷ []))
unfolding wrapping
cut_beside_the_indicator = (14 ∷ [], at_widths refl refl refl, refl)

cut_beside_three_points : IsDrawingOf
    (with_indicator "..." (with_heights 0 (rows_of ascii_full (("some multiline\ncontent" ∷ []) ∷ [])))) (texts
    ("+----------------+"
    ∷ "| some multil... |"
    ∷ "+----------------+" ∷ []))
unfolding wrapping
cut_beside_three_points = (14 ∷ [], at_widths refl refl refl, refl)

cut_without_an_indicator : IsDrawingOf
    (with_indicator "" (with_heights 0 (rows_of ascii_full (("some multiline\ncontent" ∷ []) ∷ [])))) (texts
    ("+----------------+"
    ∷ "| some multiline |"
    ∷ "+----------------+" ∷ []))
unfolding wrapping
cut_without_an_indicator = (14 ∷ [], at_widths refl refl refl, refl)

cut_where_the_indicator_is_too_wide : IsDrawingOf
    (with_indicator "..." (with_heights 1 (with_constraints (Some (Absolute (Fixed 3)) ∷ []) (rows_of ascii_full (("multi\nline" ∷ []) ∷ []))))) (texts
    ("+---+"
    ∷ "| m |"
    ∷ "+---+" ∷ []))
unfolding wrapping
cut_where_the_indicator_is_too_wide = (1 ∷ [], at_widths refl refl refl, refl)

cut_wide_characters_at_one_line : IsDrawingOf
    (with_heights 1 (with_constraints (Some (Absolute (Fixed 18)) ∷ []) (rows_of ascii_full (("あいうえおかきくけこさしすせそたちつてと" ∷ []) ∷ [])))) (texts
    ("+------------------+"
    ∷ "| あいうえおかき…  |"
    ∷ "+------------------+" ∷ []))
unfolding wrapping
cut_wide_characters_at_one_line = (16 ∷ [], at_widths refl refl refl, refl)

cut_wide_characters_at_two_lines : IsDrawingOf
    (with_heights 2 (with_constraints (Some (Absolute (Fixed 18)) ∷ []) (rows_of ascii_full (("あいうえおかきくけこさしすせそたちつてと" ∷ []) ∷ [])))) (texts
    ("+------------------+"
    ∷ "| あいうえおかきく |"
    ∷ "| けこさしすせそ…  |"
    ∷ "+------------------+" ∷ []))
unfolding wrapping
cut_wide_characters_at_two_lines = (16 ∷ [], at_widths refl refl refl, refl)

cut_without_paddings : IsDrawingOf
    (with_heights 1 (with_paddings ((0, 0) ∷ (0, 0) ∷ []) (rows_of ascii_full (("a\nb" ∷ "cd" ∷ []) ∷ [])))) (texts
    ("+-+--+"
    ∷ "|…|cd|"
    ∷ "+-+--+" ∷ []))
unfolding wrapping
cut_without_paddings = (1 ∷ 2 ∷ [], at_widths refl refl refl, refl)

-- the test for room counts one terminal column for the delimiter
wide_delimiter_is_one_place_wider : IsDrawingOf
    (with_delimiter 0x5E74 (with_constraints (Some (Absolute (Fixed 7)) ∷ []) (rows_of ascii_full (("ab年cd" ∷ []) ∷ [])))) (texts
    ("+-------+"
    ∷ "| ab年cd |"
    ∷ "+-------+" ∷ []))
unfolding wrapping
wide_delimiter_is_one_place_wider = (5 ∷ [], at_widths refl refl refl, refl)

-- the position in the list counts, and no label
swapped_columns : IsDrawingOf
    (record (rows_of ascii_full (("ab" ∷ "cd" ∷ []) ∷ [])) { columns = new_column 7 ∷ record (new_column 7) { padding = (0, 0) } ∷ [] }) (texts
    ("+----+--+"
    ∷ "| ab |cd|"
    ∷ "+----+--+" ∷ []))
unfolding wrapping
swapped_columns = (2 ∷ 2 ∷ [], at_widths refl refl refl, refl)

-- a cell without a column is left out
cells_past_the_columns : IsDrawingOf
    (record (new_table ascii_full) { columns = new_column 0 ∷ []; rows = row_of ("x" ∷ "y" ∷ "z" ∷ []) ∷ [] }) (texts
    ("+---+"
    ∷ "| x |"
    ∷ "+---+" ∷ []))
unfolding wrapping
cells_past_the_columns = (1 ∷ [], at_widths refl refl refl, refl)

cells_after_discovery : IsDrawingOf
    (discovered (record (rows_of ascii_full (("one" ∷ "two" ∷ []) ∷ [])) { rows = row_of ("one" ∷ "two" ∷ "three" ∷ []) ∷ [] })) (texts
    ("+-----+-----+-------+"
    ∷ "| one | two | three |"
    ∷ "+-----+-----+-------+" ∷ []))
unfolding wrapping
cells_after_discovery = (3 ∷ 3 ∷ 5 ∷ [], at_widths refl refl refl, refl)
