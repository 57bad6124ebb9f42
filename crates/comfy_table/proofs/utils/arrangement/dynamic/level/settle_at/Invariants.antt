use Rattle.std.proofs.Common.{◌≡◌, ◌≤◌, ◌-◌, ℕ, Some}
use Rattle.comfy_table.specs.Deciding.{all_needs, is_undecided, needs_in, undecided_among, with_claims}
use Rattle.comfy_table.specs.Dynamic.{settled_claims, total}
use Rattle.comfy_table.specs.TableValue.{TableValue}
use Rattle.comfy_table.proofs.SettlingLemmas.{undecided_past}
use Rattle.comfy_table.proofs.utils.arrangement.dynamic.level.settle_at.Given as goal

abbrev pub invariant-loop-position : goal.invariant-loop-position
invariant-loop-position l = record {
  widths : (table : TableValue) → with_claims (settled_claims (Some l.level) (undecided_past l.fn.budget.widths.items (needs_in table) l.columns l.position)) l.budget.widths.items
      ≡ with_claims (settled_claims (Some l.level) (undecided_among (all_needs table l.columns) l.fn.budget.widths.items)) l.fn.budget.widths.items;
  room : (table : TableValue) → l.budget.room - total (settled_claims (Some l.level) (undecided_past l.fn.budget.widths.items (needs_in table) l.columns l.position))
      ≡ l.fn.budget.room - total (settled_claims (Some l.level) (undecided_among (all_needs table l.columns) l.fn.budget.widths.items));
  later : (j : ℕ) → l.position ≤ j → is_undecided l.budget.widths.items j ≡ is_undecided l.fn.budget.widths.items j;
}
