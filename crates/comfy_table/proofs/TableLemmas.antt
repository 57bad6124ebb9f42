-- The laws of frame lines and of widths, for whole tables.
use Rattle.std.proofs.Common.{◌≡◌, ℕ, List, length, refl, ◌∙◌, arith}
use Rattle.std.proofs.lemmas.List.{length-map}
use Rattle.std.specs.List.{All}
use Rattle.std.proofs.lemmas.List.Elements.{All-from_recursion}
use Rattle.comfy_parts.specs.declared.style.table.ContentArrangement.TheVariants.{Dynamic, DynamicFullWidth}
use Rattle.comfy_parts.specs.declared.style.table_style.LineStyle.{LineStyle}
use Rattle.comfy_table.proofs.CountLemmas.{frame_lines_count}
use Rattle.comfy_table.proofs.DrawnWidthLemmas.{keeps_to_width, fills_width, dynamic_widths, unconstrained_shown}
use Rattle.comfy_table.proofs.EqualCountLemmas.{length-infos_from}
use Rattle.comfy_table.proofs.FitLemmas.{contents_that_fit_are_kept}
use Rattle.comfy_table.proofs.LevelLemmas.{level_is_best}
use Rattle.comfy_table.proofs.LevelledLemmas.{dynamic_is_levelled, dynamic_is_full}
use Rattle.comfy_table.specs.Arrangement.{room_beside_borders}
use Rattle.comfy_table.specs.Laws.{NoConstraints}
use Rattle.comfy_table.specs.Levels.{IsUnconstrained}
use Rattle.comfy_table.specs.TableLaws.{FrameCounts, FrameKeepsToWidth, FrameFillsWidth, TableIsLevelled, TableIsFull, TableKeepsContents, TableLevelIsBest, shown_contents}
use Rattle.comfy_table.specs.TableValue.{TableValue, shown_columns}
use Rattle.comfy_table.specs.Widths.{shown_count, shown_needs, needs_of}

-- a table's frame lines have as many characters as the line's total
pub frame_counts : (table : TableValue) (widths : List ℕ) (line : LineStyle) → FrameCounts table widths line
frame_counts table widths line same = grind (arith, frame_lines_count, length-infos_from)

-- under `Dynamic` they have at most the table's width, or the least total if that is more
pub frame_keeps_to_width : (table : TableValue) (w : ℕ) (widths : List ℕ) (line : LineStyle) → FrameKeepsToWidth table w widths line
frame_keeps_to_width table w widths line none dynamic known arranged =
    omega (arith, frame_counts table widths line arranged.one_for_each, keeps_to_width table w widths none dynamic known arranged)

-- under `DynamicFullWidth` they have exactly that many
pub frame_fills_width : (table : TableValue) (w : ℕ) (widths : List ℕ) (line : LineStyle) → FrameFillsWidth table w widths line
frame_fills_width table w widths line none full known some arranged =
    frame_counts table widths line arranged.one_for_each ∙ fills_width table w widths none full known some arranged

-- a table without constraints has needs without constraints
all_unconstrained : (table : TableValue) → NoConstraints table → All IsUnconstrained (shown_needs table)
all_unconstrained table none = All-from_recursion IsUnconstrained (shown_needs table) (unconstrained_shown table none)

-- there are as many needs as shown columns
length-shown_needs : (table : TableValue) → length (shown_needs table) ≡ shown_count table
length-shown_needs table = length-map (shown_columns table) (needs_of table)

-- under `Dynamic` the shown columns keep to a level
pub table_is_levelled : (table : TableValue) (w : ℕ) (widths : List ℕ) → TableIsLevelled table w widths
table_is_levelled table w widths none dynamic known some arranged = grind (arith, dynamic_is_levelled, all_unconstrained, length-shown_needs, dynamic_widths)

-- under `DynamicFullWidth` they keep to a level, and fill the room
pub table_is_full : (table : TableValue) (w : ℕ) (widths : List ℕ) → TableIsFull table w widths
table_is_full table w widths none full known some arranged =
    dynamic_is_full (room_beside_borders table w) (shown_needs table) (shown_contents table widths) (all_unconstrained table none) (omega (arith, some, length-shown_needs table))
    (dynamic_widths table DynamicFullWidth w widths refl full known arranged)

-- contents that fit with borders and paddings are kept
pub table_keeps_contents : (table : TableValue) (w : ℕ) (widths : List ℕ) → TableKeepsContents table w widths
table_keeps_contents table w widths none dynamic known arranged fit =
    contents_that_fit_are_kept (room_beside_borders table w) (shown_needs table) (shown_contents table widths) (all_unconstrained table none) (omega (arith, fit))
    (dynamic_widths table Dynamic w widths refl dynamic known arranged)

-- the level is the best
pub table_level_is_best : (table : TableValue) (w level : ℕ) (widths : List ℕ) → TableLevelIsBest table w level widths
table_level_is_best table w level widths none dynamic known arranged room levelled wider =
    level_is_best (room_beside_borders table w) (shown_needs table) level (shown_contents table widths) (all_unconstrained table none) (omega (arith, room, length-shown_needs table)) levelled wider
