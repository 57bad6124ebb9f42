use Rattle.std.proofs.Common.{◌≡◌, ◌&&◌, refl, rules, tests}
use Rattle.csv_tables.specs.NoWrap.{is_nowrap}
use Rattle.csv_tables.proofs.SummaryLemmas.{other_stays}
use Rattle.csv_tables.proofs.summary.ColumnSummary.add_other.Goals as goal
use Rattle.csv_tables.proofs.summary.ColumnSummary.add_other.Goals.{else-self, then-self}

pub returns : goal.returns
returns c other fields same =
    let unbroken : c.if-self.self ≡ (c.args.self.now.are_nowrap && is_nowrap c.args.field.now) = elim c.if-self.branch [ then-self w ↦ search (rules, tests) | else-self w ↦ search (rules, tests) ] in
    other_stays fields c.args.field.now c.args.self.now _ other same refl refl unbroken
