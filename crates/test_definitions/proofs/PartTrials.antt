-- Parts of tables and heights of rows, computed.
use Rattle.std.proofs.Common.{◌≡◌, ℕ, zero, suc, List, [], ◌∷◌, Some, map, refl, arith, Contains}
use Rattle.std.specs.List.{All}
use Rattle.std.proofs.lemmas.List.Elements.{All-head}
use Rattle.comfy_parts.proofs.Computing.{wrapping}
use Rattle.comfy_parts.specs.Presets.{ascii_full}
use Rattle.comfy_parts.specs.declared.style.column.ColumnConstraint.TheVariants.{Hidden}
use Rattle.comfy_table.specs.Drawing.{infos_of}
use Rattle.comfy_table.specs.Parts.{ArrangedValue, part_lines, part_text}
use Rattle.comfy_table.specs.Pieces.{row_height}
use Rattle.comfy_table.specs.TableValue.{TableValue}
use Rattle.test_definitions.proofs.TrialTables.{table_of, texts, utf8, with_constraints}

abbrev days : TableValue
days = table_of ascii_full ("Day" ∷ []) (("ab cd" ∷ []) ∷ ("ef" ∷ []) ∷ ("gh ij kl" ∷ []) ∷ [])

-- such a table with these widths
abbrev over : TableValue → List ℕ → ArrangedValue
over table widths = record { table = table; infos = infos_of table widths }

-- two rows with the header and the row separator between them, as wide as the whole table
middle_and_last : part_lines (over days (3 ∷ [])) 1 2
    ≡ texts ("+-----+" ∷ "| Day |" ∷ "+=====+" ∷ "| ef  |" ∷ "|-----|" ∷ "| gh  |" ∷ "| ij  |" ∷ "| kl  |" ∷ "+-----+" ∷ [])
unfolding wrapping
middle_and_last = refl

-- there are no rows after the last one
beyond_the_last : part_lines (over days (3 ∷ [])) 3 1 ≡ texts ("+-----+" ∷ "| Day |" ∷ "+=====+" ∷ "+-----+" ∷ [])
unfolding wrapping
beyond_the_last = refl

-- each line is followed by a line feed
text_of_none : part_text (over (table_of ascii_full ("Day" ∷ []) []) (3 ∷ [])) 0 1 ≡ utf8 "+-----+\n| Day |\n+=====+\n+-----+\n"
unfolding wrapping
text_of_none = refl

abbrev row_heights : ArrangedValue → List ℕ
row_heights arranged = map (row_height arranged.table arranged.infos) arranged.table.rows

-- a row is as high as its highest cell, and without a shown column it has no line
heights : row_heights (over days (3 ∷ [])) ≡ 2 ∷ 1 ∷ 3 ∷ []
unfolding wrapping
heights = refl

heights_of_hidden : row_heights (over (with_constraints (Some Hidden ∷ []) days) (3 ∷ [])) ≡ 0 ∷ 0 ∷ 0 ∷ []
unfolding wrapping
heights_of_hidden = refl

-- a line that is wider than the table isn't one of its lines
-- false: comfy_table::laws::parts_have_lines_of_the_table
wider_line : ¬ (All (Contains (texts ("+-----+" ∷ []))) (texts ("+------+" ∷ [])))
unfolding wrapping
wider_line all = at (All-head (Contains (texts ("+-----+" ∷ []))) (utf8 "+------+") [] all)
  where
    at : ¬ (Contains (texts ("+-----+" ∷ [])) (utf8 "+------+"))
    at (zero, below, is) = let same : utf8 "+-----+" ≡ utf8 "+------+" = is in cc same
    at (suc k, below, is) = omega (arith, below)
