use Rattle.std.proofs.Common.{subst}
use Rattle.std.proofs.lemmas.Result.{IfOk-weaker}
use Rattle.csv_tables.proofs.StyledLemmas.{without_settings}
use Rattle.csv_tables.specs.Settings.{SettingsValue}
use Rattle.csv_tables.specs.Styled.{RendersStyledRecords}
use Rattle.csv_tables.proofs.output.drawn_records.Goals as goal

pub returns : goal.returns
returns c =
    IfOk-weaker c.drawn_styled_records.result _ _
    (λ drawn is. without_settings c.args.count c.args.layout.now c.args.records drawn (subst (λ (settings : SettingsValue). RendersStyledRecords settings c.args.count c.args.layout.now c.args.records drawn) c.none.ensures is))
    c.drawn_styled_records.ensures
