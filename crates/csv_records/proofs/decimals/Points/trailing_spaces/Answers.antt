use Rattle.std.proofs.Common.{◌≡◌, ◌-◌, ◌∙◌, ap, ap₂, false, refl, sym, true}
use Rattle.csv_records.specs.Decimals.{digits_in, fraction_len}
use Rattle.csv_records.specs.Number.{figure_of, halves, is_bare_neutral, is_neutral}
use Rattle.csv_records.proofs.decimals.Points.trailing_spaces.Goals as goal

pub returns-then-is_bare_neutral : goal.returns-then-is_bare_neutral
unfolding is_neutral
returns-then-is_bare_neutral c =
    let neutral : is_neutral c.args.field.now ≡ true = ap is_bare_neutral (sym c.trimmed-text.ensures) ∙ sym c.is_bare_neutral.ensures ∙ c.if-is_bare_neutral.true in
    rw neutral refl

pub returns-else-is_bare_neutral : goal.returns-else-is_bare_neutral
unfolding is_neutral
returns-else-is_bare_neutral c =
    let neutral : is_neutral c.args.field.now ≡ false = ap is_bare_neutral (sym c.trimmed-text.ensures) ∙ sym c.is_bare_neutral.ensures ∙ c.if-is_bare_neutral.false in
    let digits : c.parts_of.result.1.now ≡ digits_in c.args.field.now = c.parts_of.ensures.figure ∙ ap figure_of c.trimmed-text.ensures in
    c.saturating_sub.ensures ∙ ap (λ n. c.args.self.longest - n) (c.fraction_len.ensures ∙ ap₂ (λ m d. fraction_len (halves m d)) c.byte.ensures.value digits) ∙ sym (rw neutral refl)
