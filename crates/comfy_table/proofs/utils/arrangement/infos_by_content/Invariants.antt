use Rattle.std.proofs.Common.{◌≡◌, map, take}
use Rattle.std.specs.List.{enumerate_from}
use Rattle.comfy_table.proofs.DisabledLemmas.{info_by_content}
use Rattle.comfy_table.proofs.utils.arrangement.infos_by_content.Given as goal

abbrev pub invariant-loop-position : goal.invariant-loop-position
invariant-loop-position g l = l.infos.items ≡ map (info_by_content (g.C.TableSource.whole l.contents)) (take l.position (enumerate_from 0 l.columns))
