use Rattle.std.proofs.Common.{◌≡◌, ◌≤◌, ◌<◌, ◌-◌}
use Rattle.comfy_table.specs.Deciding.{all_needs, undecided_among}
use Rattle.comfy_table.specs.TableValue.{TableValue}
use Rattle.comfy_table.proofs.LevelSearchLemmas.{needed, raised_from}
use Rattle.comfy_table.proofs.utils.arrangement.dynamic.level.level_from.Given as goal

abbrev pub invariant-loop-level : goal.invariant-loop-level
invariant-loop-level l = record {
  some : 0 < l.level;
  raised : (table : TableValue) → l.raised ≡ raised_from l.budget.room (undecided_among (all_needs table l.columns) l.budget.widths.items) l.level;
  enough : (table : TableValue) → needed l.level l.level (undecided_among (all_needs table l.columns) l.budget.widths.items) ≤ l.budget.room;
  within : l.raised ≤ l.budget.room;
}

abbrev pub decreases-loop-level : goal.decreases-loop-level
decreases-loop-level l = l.budget.room - l.level
