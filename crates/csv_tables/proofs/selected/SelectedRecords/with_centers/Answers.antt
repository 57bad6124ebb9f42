use Rattle.std.proofs.Common.{◌∙◌, ap, map, sym}
use Rattle.csv_tables.proofs.StyledLemmas.{centered-leasts}
use Rattle.csv_tables.specs.Leasts.{least_positions}
use Rattle.csv_tables.specs.Styled.{centered}
use Rattle.csv_tables.proofs.selected.SelectedRecords.with_centers.Goals as goal

pub invariant_of-selected : goal.invariant_of-selected
invariant_of-selected c =
    let settings = c.args.settings.now in
    let own = c.self.inside.columns.items in
    c.self.invariant ∙ sym (ap least_positions (c.in_ok-columns.ensures ∙ ap (map (centered settings)) c.as_slice.ensures.value) ∙ centered-leasts settings own)
