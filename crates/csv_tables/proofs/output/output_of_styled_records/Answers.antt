use Rattle.std.proofs.Common.{◌≡◌, ◌∙◌, ◌-◌, ℕ, Some, ap₂, length, rules, string_bytes, subst, sym}
use Rattle.std.specs.Prelude.{if◌then◌else◌}
use Rattle.csv_tables.proofs.StyledLemmas.{any_styled_output}
use Rattle.csv_tables.specs.Styled.{RendersStyledRecords}
use Rattle.csv_tables.proofs.output.output_of_styled_records.Goals as goal

pub returns : goal.returns
returns c =
    let layout = c.args.layout.now in
    let settings = c.args.settings in
    let count : c.len-count.result ≡ length c.args.records = search rules in
    let header : c.from.result ≡ (if layout.selection.has_header then 1 else 0) = search rules in
    let made = subst (RendersStyledRecords settings (Some (c.len-count.result - c.from.result)) layout c.args.records) (sym c.in_ok-joined.ensures) c.in_ok-drawn.ensures in
    any_styled_output settings layout c.args.records _ (string_bytes c.in_ok-joined.field-0) (λ none. c.if-count-eq0.false (count ∙ none)) (ap₂ (λ (n m : ℕ). n - m) count header) made
