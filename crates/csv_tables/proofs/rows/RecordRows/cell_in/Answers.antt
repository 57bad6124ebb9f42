use Rattle.std.proofs.Common.{◌≡◌, ◌+◌, ◌<◌, ℕ, Bool, Some, None, ap, arith, decimal, length, sym, ◌∙◌, rules}
use Rattle.std.proofs.lemmas.Result.{IfOk-weaker}
use Rattle.std.specs.List.{slice_index_or}
use Rattle.std.specs.Prelude.{option_map, slice_get, if◌then◌else◌}
use Rattle.comfy_parts.specs.Text.{Text}
use Rattle.csv_tables.proofs.PlainRowLemmas.{cell_after, cell_of_number, inside, no_number, some_number}
use Rattle.csv_tables.proofs.ReachedLemmas.{no_column}
use Rattle.csv_tables.specs.Cells.{cell_for, columns_within}
use Rattle.csv_tables.specs.Contents.{plain_by}
use Rattle.csv_tables.specs.Decimals.{spaced}
use Rattle.csv_tables.specs.Fields.{field_or_blank}
use Rattle.csv_tables.specs.declared.options.ColumnPlan.{ColumnPlan}
use Rattle.csv_tables.proofs.rows.RecordRows.cell_in.Goals as goal
use Rattle.csv_tables.proofs.rows.RecordRows.cell_in.Goals.{in-Some+else-position-eq0, in_default}

pub returns-then-position-eq0 : goal.returns-then-position-eq0
returns-then-position-eq0 c =
    let own = c.args.self.now in
    let fields = c.args.fields.now in
    let numbered = sym (ap (option_map decimal) c.in-Some.is) ∙ c.number_at.ensures in
    IfOk-weaker c.number_cell.result _ _
    (λ cell is.
    ap (slice_get (plain_by own c.args.at fields).cells) c.if-position-eq0.true
    ∙ cell_of_number own fields c.args.at c.in-Some.number numbered
    ∙ ap Some (sym is))
    c.number_cell.ensures

pub returns : goal.returns
returns c =
    let own = c.args.self.now in
    let look = own.look in
    let fields = c.args.fields.now in
    let columns = columns_within fields own.selected.columns in
    let place : ℕ = c.match-number_at.place in
    let column : ColumnPlan = slice_index_or c.args.columns.now place no_column in
    let one : Bool → ℕ = λ b. if b then 1 else 0 in
    let follows : c.args.position ≡ place + one own.selected.is_numbered =
    elim c.match-number_at.branch [
      | in-Some+else-position-eq0 w ↦
          let numbered = ap one (some_number own.selected.is_numbered (c.args.at + 1) w.in-Some.number (sym (ap (option_map decimal) w.in-Some.is) ∙ c.number_at.ensures)) in
          omega (arith, numbered, w.place-is, w.if-position-eq0.false)
      | in_default w ↦
          let unnumbered = ap one (no_number own.selected.is_numbered (c.args.at + 1) (sym (ap (option_map decimal) w.in_default.is) ∙ c.number_at.ensures)) in
          omega (arith, unnumbered, w.place-is)
    ] in
    let listed = ap length c.requires.columns in
    let within : place < length columns = omega (arith, listed, follows, c.requires.within) in
    let found : slice_get columns place ≡ Some column =
    inside columns place no_column within ∙ ap (λ ds. Some (slice_index_or ds place no_column)) (sym c.requires.columns) in
    let text : c.unwrap_or-field.result.now ≡ field_or_blank fields column.position = search rules in
    IfOk-weaker c.field_cell.result _ _
    (λ cell is.
    cell_after own fields column c.args.at c.args.position place follows found
    ∙ ap Some (sym (is ∙ ap (λ (field : Text). cell_for look column.alignment (spaced look.has_sequences (if own.is_aligned then column.points else None) field)) text)))
    c.field_cell.ensures
