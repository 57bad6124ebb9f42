-- Private: the dynamic widths while they are decided, one column after another.
-- Source: this library's own.
use Rattle.std.specs.Prelude.{◌≡◌, ℕ, ◌+◌, ◌-◌, ◌/◌, ◌<◌, ◌≤◌, ◌==◌, ◌&&◌, All, Bool, List, [], ◌∷◌, Option, Some, None, drop, fold, filter, is_none, length, map, max, nat_lt, option_and_then, slice_get, slice_index_or, slice_set, unwrap_or, if◌then◌else◌}
use Rattle.comfy_parts.specs.CellValue.{column_padding}
use Rattle.comfy_table.specs.Dynamic.{IsLevel, IsTakenInOrder, Positioned, Claim, added, lower_of_boundary, places_of, settled_claims, shrunk_at, total, without_claims}
use Rattle.comfy_table.specs.Lines.{longest_line}
use Rattle.comfy_table.specs.TableValue.{TableValue}
use Rattle.comfy_table.specs.Widths.{ColumnNeeds, even_spread}
use Rattle.comfy_table.specs.declared.utils.arrangement.dynamic.budget.Budget.{Budget}
use Rattle.comfy_table.specs.declared.utils.arrangement.dynamic.round_robin.Rule.{Rule}
use Rattle.comfy_table.specs.declared.utils.arrangement.dynamic.round_robin.Rule.TheVariants.{Lower, Shrunk}
use Rattle.comfy_table.specs.declared.utils.arrangement.dynamic.needs.WidthNeeds.{WidthNeeds}

-- the needs of a shown column, taken from the `WidthNeeds` of the code
abbrev pub needs_in : TableValue → WidthNeeds → ColumnNeeds
needs_in table v =
    record {
      content = v.content;
      padding = column_padding v.column.now;
      fixed = v.fixed;
      lower = v.lower;
      upper = v.upper;
      longest = longest_line table v.position v.column.now.delimiter;
    }

-- the needs of all shown columns, in the order of the table's columns
abbrev pub all_needs : TableValue → List WidthNeeds → List ColumnNeeds
all_needs table columns = map (needs_in table) columns

-- the column at a position has no width yet; false after the last column
abbrev pub is_undecided : List (Option ℕ) → ℕ → Bool
is_undecided widths position = is_none (slice_index_or widths position (Some 0))

-- the columns without a width, each with its position
abbrev pub undecided_among : List ColumnNeeds → List (Option ℕ) → List Positioned
undecided_among needs widths =
    filter (λ (p : Positioned). is_undecided widths p.0) (places_of needs)

-- the number of columns without a width
abbrev pub undecided_count : List (Option ℕ) → ℕ
undecided_count widths = length (filter is_none widths)

-- the average room of a column without a width, rounded down; 0 if all have one
abbrev pub average_room : Budget → ℕ
average_room budget = budget.room / undecided_count budget.widths.items

-- the widths after these claims are taken
abbrev pub with_claims : List Claim → List (Option ℕ) → List (Option ℕ)
with_claims claims widths =
    fold (λ (ws : List (Option ℕ)) (t : Claim). slice_set ws t.0 (Some t.1)) widths claims

-- the budget after exactly these claims are taken
pub record HasTaken (claims : List Claim) (old new : Budget) : Type 0 where
  pub widths : new.widths.items ≡ with_claims claims old.widths.items
  pub room : new.room ≡ old.room - total claims

-- the width that a column takes by a rule, if undecided columns have this average room
abbrev pub width_by_rule : Rule → ℕ → ColumnNeeds → Option ℕ
width_by_rule Lower average column = lower_of_boundary average column.padding column.lower
width_by_rule Shrunk average column = shrunk_at average column

-- the width that the column at a position takes by a rule, if it is undecided
abbrev pub width_at : Rule → ℕ → List ColumnNeeds → List (Option ℕ) → ℕ → Option ℕ
width_at rule average needs widths position =
    if is_undecided widths position
    then option_and_then (width_by_rule rule average) (slice_get needs position)
    else None

-- the width that a column takes by a rule, after some claims are taken
abbrev pub offer_by_rule : Rule → ℕ → List Positioned → List Claim → Positioned → Option ℕ
offer_by_rule rule room candidates taken p =
    width_by_rule rule ((room - total taken) / length (without_claims taken candidates)) p.1

-- the position after a position of n, going round
abbrev pub position_after : ℕ → ℕ → ℕ
position_after n position = if nat_lt (position + 1) n then position + 1 else 0

-- the columns have taken their widths by a rule, in turn, until none took one
abbrev pub HasGoneRound : Rule → List ColumnNeeds → Budget → Budget → Type 0
HasGoneRound rule needs old new =
    (order : List Claim) × IsTakenInOrder (undecided_among needs old.widths.items)
    (offer_by_rule rule old.room (undecided_among needs old.widths.items)) order
    × HasTaken order old new

-- the columns to which the level gives a width have this width
abbrev pub HasSettled : List ColumnNeeds → Budget → Budget → Type 0
HasSettled needs old new =
    (level : Option ℕ) × IsLevel old.room (undecided_among needs old.widths.items) level
    × HasTaken (settled_claims level (undecided_among needs old.widths.items)) old new

-- the decided widths, with 0 for an undecided column
abbrev pub decided : List (Option ℕ) → List ℕ
decided widths = map (λ (w : Option ℕ). unwrap_or w 0) widths

-- the widths, with these parts for the undecided columns, in the order of the table's columns
abbrev pub filled : List (Option ℕ) → List ℕ → List ℕ
filled [] parts = []
filled (Some w ∷ widths) parts = w ∷ filled widths parts
filled (None ∷ widths) parts = slice_index_or parts 0 0 ∷ filled widths (drop 1 parts)

-- the widths, with the room shared evenly among the undecided columns, at least one terminal column
-- each
abbrev pub shared_evenly : Budget → List ℕ
shared_evenly budget =
    filled budget.widths.items (even_spread (max budget.room (undecided_count budget.widths.items))
    (undecided_count budget.widths.items))

-- all widths, with the room spread evenly over them
abbrev pub with_room_spread : Budget → List ℕ
with_room_spread budget =
    added (decided budget.widths.items) (even_spread budget.room (length budget.widths.items))

-- the final content widths: the undecided columns share the room. With full width, if no column is
-- undecided, all columns share it.
abbrev pub final_widths : Bool → Budget → List ℕ
final_widths full budget =
    if full && (undecided_count budget.widths.items == 0)
    then with_room_spread budget
    else shared_evenly budget

-- the room has at most sixteen bits, and so does each width with the room added
pub record HasRoomToSpread (budget : Budget) : Type 0 where
  pub room : budget.room ≤ 65535
  pub each : All (λ w. 0 < budget.room → w + budget.room ≤ 65535) (decided budget.widths.items)
