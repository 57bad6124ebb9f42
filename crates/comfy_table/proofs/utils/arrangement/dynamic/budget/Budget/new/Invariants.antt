use Rattle.std.proofs.Common.{◌≡◌, ◌++◌, drop, map}
use Rattle.comfy_table.specs.Deciding.{all_needs}
use Rattle.comfy_table.specs.Dynamic.{content_room}
use Rattle.comfy_table.specs.Widths.{ColumnNeeds}
use Rattle.comfy_table.proofs.utils.arrangement.dynamic.budget.Budget.new.Given as goal

abbrev pub invariant-loop-column : goal.invariant-loop-column
invariant-loop-column g l =
    (l.widths.items ++ map (λ (c : ColumnNeeds). c.fixed) (all_needs (g.C.TableSource.whole l.contents) (drop l.column-index l.columns)) ≡ map (λ (c : ColumnNeeds). c.fixed) (all_needs (g.C.TableSource.whole l.contents) l.columns))
    × (content_room l.room (all_needs (g.C.TableSource.whole l.contents) (drop l.column-index l.columns)) ≡ content_room l.initial.room (all_needs (g.C.TableSource.whole l.contents) l.columns))
