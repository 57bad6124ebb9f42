use Rattle.std.proofs.Common.{◌≡◌, length, min}
use Rattle.comfy_table.specs.TableValue.{constrained}
use Rattle.comfy_table.proofs.table.columns.set_each.Given as goal

-- the constraints so far have been set, as far as there are columns
abbrev pub invariant-loop-constraint : goal.invariant-loop-constraint
invariant-loop-constraint g l =
    record {
      set : l.columns ≡ constrained l.yielded l.initial.columns;
      position : l.position ≡ min (length l.yielded) (length l.columns);
    }
