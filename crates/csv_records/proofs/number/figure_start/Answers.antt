use Rattle.std.proofs.Common.{ap, subst, sym, ◌∙◌}
use Rattle.std.specs.List.{position}
use Rattle.std.specs.Str.{IsCharBoundary}
use Rattle.csv_records.specs.Number.{is_inner}
use Rattle.csv_records.proofs.FigureLemmas.{start_at, start_boundary}
use Rattle.csv_records.proofs.number.figure_start.Goals as goal

pub returns-clause-value : goal.returns-clause-value
returns-clause-value c =
    let place = c.first_inner.ensures.value ∙ ap (position is_inner) c.as_bytes.ensures.value in
    c.unwrap_or.ensures ∙ start_at c.args.text.now c.first_inner.result place

pub returns-clause-boundary : goal.returns-clause-boundary
returns-clause-boundary c = subst (IsCharBoundary c.args.text.now) (sym (returns-clause-value c)) (start_boundary c.args.text.now c.utf8.text)
