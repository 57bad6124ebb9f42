use Rattle.std.proofs.Common.{string_bytes, subst}
use Rattle.std.proofs.lemmas.Result.{IfOk-weaker}
use Rattle.csv_tables.proofs.StyledLemmas.{without_settings_any}
use Rattle.csv_tables.specs.Settings.{SettingsValue}
use Rattle.csv_tables.specs.Styled.{RendersAnyStyledRecords}
use Rattle.csv_tables.proofs.output.output_of_records.Goals as goal

pub returns : goal.returns
returns c =
    IfOk-weaker c.output_of_styled_records.result _ _
    (λ output is. without_settings_any c.args.layout.now c.args.records (string_bytes output) (subst (λ (settings : SettingsValue). RendersAnyStyledRecords settings c.args.layout.now c.args.records (string_bytes output)) c.none.ensures is))
    c.output_of_styled_records.ensures
