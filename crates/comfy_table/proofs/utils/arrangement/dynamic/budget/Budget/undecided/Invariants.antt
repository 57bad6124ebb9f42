use Rattle.std.proofs.Common.{◌≡◌, ◌≤◌, ◌+◌, drop}
use Rattle.comfy_table.specs.Deciding.{undecided_count}
use Rattle.comfy_table.proofs.utils.arrangement.dynamic.budget.Budget.undecided.Given as goal

-- the undecided columns so far, and those that are left
abbrev pub invariant-loop-width : goal.invariant-loop-width
invariant-loop-width l = record {
  count : l.count + undecided_count (drop l.width-index l.width-items) ≡ undecided_count l.width-items;
  few : l.count ≤ l.width-index;
}
