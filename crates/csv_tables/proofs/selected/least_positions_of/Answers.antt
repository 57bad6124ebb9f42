use Rattle.std.proofs.Common.{◌≡◌, ◌<◌, ◌+◌, ◌-◌, ◌∷◌, [], ℕ, List, ap, ap₂, arith, drop, length, min, reverse, sym, ◌∙◌}
use Rattle.std.specs.List.{slice_index_or}
use Rattle.std.proofs.lemmas.List.{drop_all, drop_more, reverse-append}
use Rattle.csv_tables.specs.Leasts.{least_position, least_positions}
use Rattle.csv_tables.specs.declared.options.ColumnPlan.{ColumnPlan}
use Rattle.csv_tables.proofs.ReachedLemmas.{no_column}
use Rattle.csv_tables.proofs.selected.least_positions_of.Goals as goal

pub loop-after-init : goal.loop-after-init
loop-after-init c =
    let columns : List ColumnPlan = c.args.columns.now in
    let whole : length columns - 0 ≡ length columns = omega arith in
    let none : drop (length columns - 0) columns ≡ [] = ap (λ (n : ℕ). drop n columns) whole ∙ drop_all (length columns) columns (omega arith) in
    (ap reverse c.in_ok-leasts.ensures.items ∙ sym (ap least_positions none), sym (ap least_position none))

pub loop-after-preserved : goal.loop-after-preserved
loop-after-preserved c =
    let columns : List ColumnPlan = c.args.columns.now in
    let n : ℕ = length columns in
    let after : ℕ = c.loop-after.after in
    let at : ℕ = n - 1 - after in
    let test : after < n = c.loop-after-test.true in
    let column : ColumnPlan = slice_index_or columns at no_column in
    let below : at < n = omega (arith, test) in
    let before : at + 1 ≡ n - after = omega (arith, test) in
    let here : n - (after + 1) ≡ at = omega (arith, test) in
    let rest : drop (n - (after + 1)) columns ≡ column ∷ drop (n - after) columns =
    ap (λ (k : ℕ). drop k columns) here ∙ drop_more columns at no_column below ∙ ap (λ (k : ℕ). column ∷ drop k columns) before in
    let ends = c.loop-after.invariant in
    let least : c.min-least.result ≡ least_position (column ∷ drop (n - after) columns) =
    c.min-least.ensures ∙ ap (λ (l : ℕ). min l column.position) ends.1 ∙ swapped (least_position (drop (n - after) columns)) column.position in (
      ap reverse c.in_ok-push.ensures.items ∙ reverse-append c.loop-after.leasts.items (c.min-least.result ∷ []) ∙ ap₂ (λ (l : ℕ) (ls : List ℕ). l ∷ ls) least ends.0 ∙ sym (ap least_positions rest),
      least ∙ sym (ap least_position rest),
    )
  where
    swapped : (a b : ℕ) → min a b ≡ min b a
    swapped a b = omega arith

pub returns : goal.returns
returns c =
    let columns : List ColumnPlan = c.args.columns.now in
    let end = c.loop-after-test.false in
    let none : length columns - c.loop-after.after ≡ 0 = omega (arith, end) in
    c.reverse.ensures.items ∙ c.loop-after.invariant.0 ∙ ap (λ (n : ℕ). least_positions (drop n columns)) none
