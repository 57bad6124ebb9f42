-- The drawings of small tables, computed.
use Rattle.std.proofs.Common.{◌≡◌, [], ◌∷◌, refl, Some}
use Rattle.comfy_parts.specs.CellValue.{plain_row}
use Rattle.comfy_parts.specs.Presets.{style_of, ascii_full, ascii_no_borders, ascii_borders_only, ascii_horizontal_only, ascii_markdown, utf8_full, nothing}
use Rattle.comfy_parts.specs.StyleModifiers.{with_solid_inner_borders}
use Rattle.comfy_parts.specs.declared.style.cell.CellAlignment.TheVariants.{Left, Right, Center}
use Rattle.comfy_parts.specs.declared.style.column.ColumnConstraint.TheVariants.{Hidden}
use Rattle.comfy_parts.specs.declared.style.table_style.TableStyle.{TableStyle}
use Rattle.test_definitions.proofs.TrialTables.{table_of, rows_of, texts, with_constraints, with_paddings, with_alignments, aligned_cell, at_widths}
use Rattle.comfy_table.specs.Arrangement.{IsDrawingOf}
use Rattle.comfy_table.specs.Drawing.{drawing, trimmed_text_of, text_of}
use Rattle.comfy_table.specs.TableValue.{TableValue, new_table, with_row}
use Rattle.std.specs.Str.{trim_end}
use Rattle.comfy_parts.proofs.Computing.{wrapping}

nothing_added : IsDrawingOf (new_table ascii_full) (texts ("++" ∷ "++" ∷ []))
unfolding wrapping trim_end
nothing_added = ([], at_widths refl refl refl, refl)

abbrev three_texts : TableValue
three_texts =
    table_of ascii_full ("Header1" ∷ "Header2" ∷ "Header3" ∷ [])
    (("This is a text" ∷ "This is another text" ∷ "This is the third text" ∷ [])
    ∷ ("This is another text" ∷ "Now\nadd some\nmulti line stuff" ∷ "This is awesome" ∷ []) ∷ [])

several_lines_in_a_cell : IsDrawingOf three_texts (texts
    ("+----------------------+----------------------+------------------------+"
    ∷ "| Header1              | Header2              | Header3                |"
    ∷ "+======================================================================+"
    ∷ "| This is a text       | This is another text | This is the third text |"
    ∷ "|----------------------+----------------------+------------------------|"
    ∷ "| This is another text | Now                  | This is awesome        |"
    ∷ "|                      | add some             |                        |"
    ∷ "|                      | multi line stuff     |                        |"
    ∷ "+----------------------+----------------------+------------------------+" ∷ []))
unfolding wrapping trim_end
several_lines_in_a_cell = (20 ∷ 20 ∷ 22 ∷ [], at_widths refl refl refl, refl)

missing_cells : IsDrawingOf
    (table_of ascii_full ("Header1" ∷ "Header2" ∷ "Header3" ∷ []) (("One One" ∷ "One Two" ∷ "One Three" ∷ []) ∷ ("Two One" ∷ "Two Two" ∷ []) ∷ ("Three One" ∷ []) ∷ [])) (texts
    ("+-----------+---------+-----------+"
    ∷ "| Header1   | Header2 | Header3   |"
    ∷ "+=================================+"
    ∷ "| One One   | One Two | One Three |"
    ∷ "|-----------+---------+-----------|"
    ∷ "| Two One   | Two Two |           |"
    ∷ "|-----------+---------+-----------|"
    ∷ "| Three One |         |           |"
    ∷ "+-----------+---------+-----------+" ∷ []))
unfolding wrapping trim_end
missing_cells = (9 ∷ 7 ∷ 9 ∷ [], at_widths refl refl refl, refl)

-- a table whose columns are all hidden: only the side borders are left
all_hidden : IsDrawingOf
    (with_constraints (Some Hidden ∷ Some Hidden ∷ [])
    (table_of utf8_full ("hidden_header" ∷ "smol" ∷ []) (("start_hidden" ∷ "smol" ∷ []) ∷ ("asdf" ∷ "smol" ∷ []) ∷ []))) (texts ("┌┐" ∷ "╞╡" ∷ "├┤" ∷ "└┘" ∷ []))
unfolding wrapping trim_end
all_hidden = (13 ∷ 4 ∷ [], at_widths refl refl refl, refl)

-- only the separator has a fill, and only the content has side borders
abbrev sides_and_a_separator : TableStyle
sides_and_a_separator = style_of "____" "|_|" "_-__" "|_|" "____" "____"

abbrev greetings : TableStyle → TableValue
greetings style =
    table_of style ("Hello" ∷ "there" ∷ "again" ∷ []) (("a" ∷ "b" ∷ "something different" ∷ []) ∷ ("omfg why though" ∷ "d" ∷ "f" ∷ []) ∷ [])

trimmed_lines : trimmed_text_of (drawing (greetings sides_and_a_separator) (15 ∷ 5 ∷ 19 ∷ [])) ≡ text_of (texts
    ("| Hello            there  again               |"
    ∷ " ---------------------------------------------"
    ∷ "| a                b      something different |"
    ∷ "| omfg why though  d      f                   |" ∷ []))
unfolding wrapping trim_end
trimmed_lines = refl

-- a top border that has only a fill has no junctions, though it has side borders
trimmed_top_border : trimmed_text_of (drawing (greetings (style_of "_=__" "|_|" "_-__" "|_|" "____" "____")) (15 ∷ 5 ∷ 19 ∷ [])) ≡ text_of (texts
    (" ============================================="
    ∷ "| Hello            there  again               |"
    ∷ " ---------------------------------------------"
    ∷ "| a                b      something different |"
    ∷ "| omfg why though  d      f                   |" ∷ []))
unfolding wrapping trim_end
trimmed_top_border = refl

-- a left character makes a line and a left border
left_character_alone : IsDrawingOf (rows_of (style_of "*___" "___" "____" "___" "____" "____") (("a" ∷ []) ∷ [])) (texts ("*   " ∷ "  a " ∷ []))
unfolding wrapping trim_end
left_character_alone = (1 ∷ [], at_widths refl refl refl, refl)

-- ---- styles

abbrev small : TableStyle → TableValue
small style = table_of style ("Hello" ∷ "there" ∷ []) (("a" ∷ "b" ∷ []) ∷ ("c" ∷ "d" ∷ []) ∷ [])

no_borders : trimmed_text_of (drawing (small ascii_no_borders) (5 ∷ 5 ∷ [])) ≡ text_of (texts
    (" Hello | there" ∷ "===============" ∷ " a     | b" ∷ "-------+-------" ∷ " c     | d" ∷ []))
unfolding wrapping trim_end
no_borders = refl

borders_only : trimmed_text_of (drawing (small ascii_borders_only) (5 ∷ 5 ∷ [])) ≡ text_of (texts
    ("+---------------+" ∷ "| Hello   there |" ∷ "+===============+" ∷ "| a       b     |" ∷ "|               |" ∷ "| c       d     |" ∷ "+---------------+" ∷ []))
unfolding wrapping trim_end
borders_only = refl

horizontal_only : trimmed_text_of (drawing (small ascii_horizontal_only) (5 ∷ 5 ∷ [])) ≡ text_of (texts
    ("---------------" ∷ " Hello   there" ∷ "===============" ∷ " a       b" ∷ "---------------" ∷ " c       d" ∷ "---------------" ∷ []))
unfolding wrapping trim_end
horizontal_only = refl

markdown : trimmed_text_of (drawing (small ascii_markdown) (5 ∷ 5 ∷ [])) ≡ text_of (texts
    ("| Hello | there |" ∷ "|-------|-------|" ∷ "| a     | b     |" ∷ "| c     | d     |" ∷ []))
unfolding wrapping trim_end
markdown = refl

full : drawing (small utf8_full) (5 ∷ 5 ∷ []) ≡ texts
    ("┌───────┬───────┐" ∷ "│ Hello ┆ there │" ∷ "╞═══════╪═══════╡" ∷ "│ a     ┆ b     │" ∷ "├╌╌╌╌╌╌╌┼╌╌╌╌╌╌╌┤" ∷ "│ c     ┆ d     │" ∷ "└───────┴───────┘" ∷ [])
unfolding wrapping trim_end
full = refl

solid_inner_borders : drawing (small (with_solid_inner_borders utf8_full)) (5 ∷ 5 ∷ []) ≡ texts
    ("┌───────┬───────┐" ∷ "│ Hello │ there │" ∷ "╞═══════╪═══════╡" ∷ "│ a     │ b     │" ∷ "├───────┼───────┤" ∷ "│ c     │ d     │" ∷ "└───────┴───────┘" ∷ [])
unfolding wrapping trim_end
solid_inner_borders = refl

no_style : trimmed_text_of (drawing (small nothing) (5 ∷ 5 ∷ [])) ≡ text_of (texts (" Hello  there" ∷ " a      b" ∷ " c      d" ∷ []))
unfolding wrapping trim_end
no_style = refl

-- ---- padding and alignment

padding_only_at_the_right : trimmed_text_of (drawing (with_paddings ((0, 1) ∷ []) (small nothing)) (5 ∷ 5 ∷ [])) ≡ text_of (texts ("Hello  there" ∷ "a      b" ∷ "c      d" ∷ []))
unfolding wrapping trim_end
padding_only_at_the_right = refl

paddings : IsDrawingOf
    (with_paddings ((5, 5) ∷ (1, 1) ∷ (0, 0) ∷ []) (table_of ascii_full ("Header1" ∷ "Header2" ∷ "Header3" ∷ [])
    (("One One" ∷ "One Two" ∷ "One Three" ∷ []) ∷ ("Two One" ∷ "Two Two" ∷ "Two Three" ∷ []) ∷ ("Three One" ∷ "Three Two" ∷ "Three Three" ∷ []) ∷ []))) (texts
    ("+-------------------+-----------+-----------+"
    ∷ "|     Header1       | Header2   |Header3    |"
    ∷ "+===========================================+"
    ∷ "|     One One       | One Two   |One Three  |"
    ∷ "|-------------------+-----------+-----------|"
    ∷ "|     Two One       | Two Two   |Two Three  |"
    ∷ "|-------------------+-----------+-----------|"
    ∷ "|     Three One     | Three Two |Three Three|"
    ∷ "+-------------------+-----------+-----------+" ∷ []))
unfolding wrapping trim_end
paddings = (9 ∷ 9 ∷ 11 ∷ [], at_widths refl refl refl, refl)

-- a cell's alignment overrides its column's
alignments : drawing
    (with_alignments (Left ∷ Center ∷ Right ∷ []) (with_row (plain_row
    (aligned_cell Right "Right" ∷ aligned_cell Left "Left" ∷ aligned_cell Center "Center" ∷ []))
    (table_of ascii_full ("Header1" ∷ "Header2" ∷ "Header3" ∷ []) (("Very long line Test" ∷ "Very long line Test" ∷ "Very long line Test" ∷ []) ∷ [])))) (19 ∷ 19 ∷ 19 ∷ []) ≡ texts
    ("+---------------------+---------------------+---------------------+"
    ∷ "| Header1             |       Header2       |             Header3 |"
    ∷ "+=================================================================+"
    ∷ "| Very long line Test | Very long line Test | Very long line Test |"
    ∷ "|---------------------+---------------------+---------------------|"
    ∷ "|               Right | Left                |        Center       |"
    ∷ "+---------------------+---------------------+---------------------+" ∷ [])
unfolding wrapping trim_end
alignments = refl
