use Rattle.std.proofs.Common.{arith}
use Rattle.comfy_c.proofs.RefusedLemmas.{without_expansion, without_lines, without_style}
use Rattle.comfy_c.proofs.refused.comfy_rows_refused.Goals as goal

pub returns-then-is_none-clause-refused : goal.returns-then-is_none-clause-refused
returns-then-is_none-clause-refused c = λ some rows. without_style c.args.settings.now c.args.looks.now c.args.heights.now c.args.columns.now rows (grind (arith, c.is_none.ensures, c.style_for.ensures, c.if-is_none.true))

pub returns-then-is_none-2-clause-refused : goal.returns-then-is_none-2-clause-refused
returns-then-is_none-2-clause-refused c = λ some rows. without_lines c.args.settings.now c.args.looks.now c.args.heights.now c.args.columns.now rows (grind (arith, c.is_none-2.ensures, c.separators_at.ensures, c.if-is_none-2.true))

pub returns-then-is_none-3-clause-refused : goal.returns-then-is_none-3-clause-refused
returns-then-is_none-3-clause-refused c = λ some rows. without_expansion c.args.settings.now c.args.looks.now c.args.heights.now c.args.columns.now rows (grind (arith, c.is_none-3.ensures, c.expansion_at.ensures, c.if-is_none-3.true))
