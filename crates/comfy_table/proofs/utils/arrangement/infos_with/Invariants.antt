use Rattle.std.proofs.Common.{◌≡◌, ◌≤◌, ◌++◌, drop}
use Rattle.comfy_table.proofs.AllWidthsLemmas.{infos_from}
use Rattle.comfy_table.proofs.utils.arrangement.infos_with.Given as goal

abbrev pub invariant-loop-position : goal.invariant-loop-position
invariant-loop-position g l =
    (l.infos.items ++ infos_from (g.C.TableSource.whole l.contents) (drop l.shown l.widths) l.position (drop l.position l.columns) ≡ infos_from (g.C.TableSource.whole l.contents) l.widths 0 l.columns)
    × (l.shown ≤ l.position)
