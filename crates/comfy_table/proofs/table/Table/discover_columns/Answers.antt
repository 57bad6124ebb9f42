use Rattle.std.proofs.Common.{rules}
use Rattle.comfy_table.proofs.ColumnLemmas.{all_cells_have_columns}
use Rattle.comfy_table.proofs.table.Table.discover_columns.Goals as goal

pub returns-clause-every_cell : goal.returns-clause-every_cell
returns-clause-every_cell c = let all = all_cells_have_columns c.args.self.now in search rules
