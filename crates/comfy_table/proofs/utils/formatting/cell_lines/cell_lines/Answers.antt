use Rattle.std.proofs.Common.{arith}
use Rattle.std.proofs.lemmas.List.{get_or-map, take_all}
use Rattle.std.proofs.lemmas.List.Folds.{flat_map-map}
use Rattle.std.proofs.lemmas.Simd.{map-map}
use Rattle.comfy_table.proofs.utils.formatting.cell_lines.cell_lines.Goals as goal

pub push_lines-requires : goal.push_lines-requires
push_lines-requires c = grind (arith, map-map, get_or-map)

pub returns : goal.returns
returns c = grind (arith, flat_map-map, take_all)
