use Rattle.std.proofs.Common.{◌≡◌, ◌<◌, ◌+◌, ◌≤◌, ℕ, List, [], ◌∷◌, ◌++◌, ap, arith, drop, length, rules, suc, subst, sym, take, take_all, tests, ◌∙◌}
use Rattle.std.proofs.lemmas.List.{length-map}
use Rattle.comfy_parts.specs.Text.{Text}
use Rattle.csv_records.specs.Cleaning.{visible_of}
use Rattle.csv_tables.specs.Columns.{seen}
use Rattle.csv_tables.specs.Summaries.{AreSummaries, column_fields, summary_of}
use Rattle.csv_tables.proofs.ExpandedLemmas.{at_place, none_after}
use Rattle.csv_tables.proofs.SummaryLemmas.{known_at, next_field, no_field, seen_here}
use Rattle.csv_tables.proofs.summary.add_record.Goals as goal

pub loop-position-init : goal.loop-position-init
loop-position-init c = record {
  left = search (rules, tests);
  within = omega arith;
  so = λ rows so. no_field rows (seen c.args.has_sequences c.args.row.now) c.args.summaries.now.items so;
}

pub loop-position-preserved : goal.loop-position-preserved
loop-position-preserved c =
    let row : List Text = c.args.row.now in
    let keeps = c.args.has_sequences in
    let fields : List Text = seen keeps row in
    let k : ℕ = c.loop-position.position in
    let steps = c.in-Some.ensures.steps in
    let had = c.loop-position.invariant in
    let place = at_place row k c.in-Some.field.now [] c.next.new.self (sym steps ∙ had.left) in
    let one : suc k ≡ k + 1 = omega arith in
    let below : k < length fields = let inside = place.0 in omega (arith, inside, length-map row (visible_of keeps)) in
    let field = seen_here keeps row k c.in-Some.field.now place.1 in
    let summaries = c.loop-position.summaries.items in
    let more = c.add_field.new.summaries.items in
    record {
      left = place.2 ∙ ap (λ (n : ℕ). drop n row) one;
      within = let inside = place.0 in omega (arith, inside);
      so = λ rows start.
          let until = had.so rows start in
          subst (λ (n : ℕ). AreSummaries (rows ++ take n fields ∷ []) more) one
          (next_field rows fields summaries k until more (summary_of (column_fields rows k ++ visible_of keeps c.in-Some.field.now ∷ [])) below
          (ap (λ (f : Text). summary_of (column_fields rows k ++ f ∷ [])) (sym field)) (c.in_ok-add_field.ensures (column_fields rows k) (known_at rows fields summaries k until)));
    }

pub returns : goal.returns
returns c rows start =
    let row : List Text = c.args.row.now in
    let fields : List Text = seen c.args.has_sequences row in
    let ends = c.in-None.ensures.steps in
    let had = c.loop-position.invariant in
    let k : ℕ = c.loop-position.position in
    let past : length row ≤ k = none_after row k (sym had.left ∙ ends.0) in
    let all : length fields ≤ k = omega (arith, past, length-map row (visible_of c.args.has_sequences)) in
    subst (λ (fs : List Text). AreSummaries (rows ++ fs ∷ []) c.loop-position.summaries.items) (take_all k fields all) (had.so rows start)
