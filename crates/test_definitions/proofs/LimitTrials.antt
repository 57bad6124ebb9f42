-- Paddings and widths of single columns.
use Rattle.std.proofs.Common.{◌≡◌, ℕ, true, false, [], ◌∷◌, Option, Some, None, codes, map, refl}
use Rattle.comfy_parts.proofs.Computing.{wrapping}
use Rattle.comfy_parts.specs.CellValue.{plain_cell, plain_row}
use Rattle.comfy_parts.specs.Presets.{ascii_full}
use Rattle.comfy_parts.specs.declared.style.column.ColumnConstraint.TheVariants.{Absolute, Boundaries, LowerBoundary}
use Rattle.comfy_parts.specs.declared.style.column.Width.TheVariants.{Fixed}
use Rattle.comfy_table.specs.TableValue.{TableValue, new_table, with_rows}
use Rattle.csv_tables.specs.Limits.{bounded, bounded_width, has_room_within, hold_points, limit_for, limits_of, no_limits, reached_limits, taken}
use Rattle.csv_tables.specs.Drawn.{least_words}
use Rattle.csv_tables.specs.declared.settings.ColumnSettings.{ColumnSettings}

-- from four to ten terminal columns, with a padding of three on the right
abbrev own : ColumnSettings
own = record { padding = (0, 3); least = Some 4; greatest = Some 10; is_centered = false }

contents : map (bounded (limits_of own false)) (2 ∷ 7 ∷ 19 ∷ []) ≡ 4 ∷ 7 ∷ 10 ∷ []
contents = refl

with_paddings : map (taken (limits_of own false)) (2 ∷ 19 ∷ []) ≡ 7 ∷ 13 ∷ []
with_paddings = refl

-- the greatest width is at least 1, and at least the least width
greatest : map (λ (least : Option ℕ). (limits_of (record { padding = (1, 1); least = least; greatest = Some 0; is_centered = false }) false).greatest) (None ∷ Some 8 ∷ []) ≡ Some 1 ∷ Some 8 ∷ []
greatest = refl

-- a column that is given its greatest width has exactly that width
constraints : map (limit_for (limits_of own false)) (0 ∷ 8 ∷ 12 ∷ []) ≡ Boundaries (Fixed 7) (Fixed 13) ∷ Boundaries (Fixed 11) (Fixed 13) ∷ Absolute (Fixed 13) ∷ []
constraints = refl

-- without limits it has at least the given width
unlimited : map (limit_for no_limits) (0 ∷ 5 ∷ []) ≡ LowerBoundary (Fixed 0) ∷ LowerBoundary (Fixed 7) ∷ []
unlimited = refl

-- a column of nineteen letters
abbrev text : TableValue
text = with_rows (plain_row (plain_cell (codes "letters and letters") ∷ []) ∷ []) (new_table ascii_full)

-- the same with two borders
width : bounded_width (limits_of own false ∷ []) 8 (record { nowrap = true ∷ []; words = least_words None }) text ≡ 15
unfolding wrapping
width = refl

room : map (λ width. has_room_within (limits_of own false ∷ []) width (record { nowrap = true ∷ []; words = least_words None }) text) (Some 14 ∷ Some 15 ∷ None ∷ []) ≡ false ∷ true ∷ true ∷ []
unfolding wrapping
room = refl

-- its longest line is one word
reached : map (λ limits. limits.greatest) (reached_limits text (limits_of own false ∷ [])) ≡ Some 7 ∷ []
unfolding wrapping
reached = refl

-- numbers that are wider than the greatest width aren't aligned
points : map (λ has. hold_points (limits_of own has ∷ []) text) (false ∷ true ∷ []) ≡ true ∷ false ∷ []
unfolding wrapping
points = refl
