use Rattle.std.proofs.Common.{ap, arith, nat_le, ◌∙◌}
use Rattle.csv_tables.proofs.NoWrapLemmas.{stopped}
use Rattle.csv_tables.specs.Limits.{bounded_width}
use Rattle.csv_tables.proofs.nowrap.fits.Goals as goal

pub returns : goal.returns
returns c wanted is =
    ap (λ n. nat_le n c.from.result) (c.bounded_width.ensures wanted is) ∙ ap (nat_le _) c.from.ensures ∙ stopped (bounded_width c.args.limits.now c.args.level wanted c.args.contents.now.table) c.args.width (omega arith)
