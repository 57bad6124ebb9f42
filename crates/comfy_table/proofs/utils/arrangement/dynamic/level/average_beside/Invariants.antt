use Rattle.std.proofs.Common.{◌≡◌, ◌≤◌, ◌+◌, ◌-◌, Some}
use Rattle.comfy_table.specs.Deciding.{all_needs, needs_in, undecided_among}
use Rattle.comfy_table.specs.Dynamic.{settled_claims, total}
use Rattle.comfy_table.specs.TableValue.{TableValue}
use Rattle.comfy_table.proofs.LevelSearchLemmas.{left_count}
use Rattle.comfy_table.proofs.SettlingLemmas.{undecided_past}
use Rattle.comfy_table.proofs.utils.arrangement.dynamic.level.average_beside.Given as goal

abbrev pub invariant-loop-position : goal.invariant-loop-position
invariant-loop-position l = record {
  room : (table : TableValue) → l.room - total (settled_claims (Some l.level) (undecided_past l.budget.widths.items (needs_in table) l.columns l.position))
      ≡ l.budget.room - total (settled_claims (Some l.level) (undecided_among (all_needs table l.columns) l.budget.widths.items));
  left : (table : TableValue) → l.left + left_count l.level (undecided_past l.budget.widths.items (needs_in table) l.columns l.position)
      ≡ left_count l.level (undecided_among (all_needs table l.columns) l.budget.widths.items);
  counted : l.left ≤ l.position;
  within : l.room ≤ l.budget.room;
}
