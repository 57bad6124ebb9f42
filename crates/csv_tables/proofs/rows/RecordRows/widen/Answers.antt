use Rattle.std.proofs.Common.{rules, ◌≡◌, ◌≤◌, ◌+◌, ◌==◌, ℕ, Bool, List, Some, None, false, nat_lt, ap, arith, length, max, refl, subst, sym, ◌∙◌, ⊎_elim}
use Rattle.std.proofs.lemmas.Bool.{and_parts, cases_lt}
use Rattle.std.proofs.lemmas.Bool.Decides.{nat_tests}
use Rattle.std.specs.List.{slice_get, slice_index_or}
use Rattle.std.specs.Prelude.{if◌then◌else◌}
use Rattle.comfy_parts.specs.CellValue.{CellValue}
use Rattle.comfy_parts.specs.Text.{Text}
use Rattle.comfy_table.specs.RowCells.{cell_of}
use Rattle.comfy_table.specs.TableValue.{cell_content_width, measured_cell}
use Rattle.csv_tables.proofs.DressedLemmas.{cells_made-length, measured_made}
use Rattle.csv_tables.proofs.FlatLemmas.{flat_made}
use Rattle.csv_tables.proofs.PlainRowLemmas.{cell_after, cell_of_column, inside}
use Rattle.csv_tables.proofs.ReachedLemmas.{no_column}
use Rattle.csv_tables.proofs.ShownLemmas.{all_cells, as_many_cells, joined_width, one_wider, start_width}
use Rattle.csv_tables.proofs.WholeRowLemmas.{high}
use Rattle.csv_tables.specs.Cells.{cell_for, columns_within}
use Rattle.csv_tables.specs.Contents.{plain_by, measured_at}
use Rattle.csv_tables.specs.Decimals.{spaced}
use Rattle.csv_tables.specs.Fields.{field_or_blank}
use Rattle.csv_tables.specs.declared.options.ColumnPlan.{ColumnPlan}
use Rattle.csv_tables.proofs.rows.RecordRows.widen.Goals as goal
use Rattle.csv_tables.proofs.rows.RecordRows.widen.Invariants.{after}

pub loop-place-init : goal.loop-place-init
loop-place-init c =
    let own = c.args.self.now in
    let cells = (plain_by own c.args.at c.args.fields.now).cells in
    let first = c.number_count-first.result in
    let count = c.in_ok-is_flat.ensures.count in
    let one : first ≡ (if own.selected.is_numbered then 1 else 0) = c.number_count-first.ensures in (
      λ i. start_width (slice_index_or c.widen_number.new.widths.items i 0) (measured_at c.args.table.now cell_content_width (slice_get cells i)) first i,
      omega (arith, count, one),
      λ is. (is, λ i cell low below. absurd (omega (arith, low, below))),
    )

pub loop-place-preserved : goal.loop-place-preserved
loop-place-preserved c =
    let own = c.args.self.now in
    let look = own.look in
    let table = c.args.table.now in
    let fields : List Text = c.args.fields.now in
    let cells : List CellValue = (plain_by own c.args.at fields).cells in
    let columns = columns_within fields own.selected.columns in
    let items : List ColumnPlan = c.columns_within-column-items.result.now in
    let first : ℕ = c.number_count-first.result in
    let k : ℕ = c.loop-place.place in
    let column : ColumnPlan = slice_index_or items k no_column in
    let one : first ≡ (if own.selected.is_numbered then 1 else 0) = c.number_count-first.ensures in
    let listed : items ≡ columns = c.columns_within-column-items.ensures in
    let found : slice_get columns k ≡ Some column = ap (λ (all : List ColumnPlan). slice_get all k) (sym listed) ∙ inside items k no_column c.loop-place-test.true in
    let here : slice_get cells (first + k) ≡ Some (cell_of_column own fields column) = cell_after own fields column c.args.at (first + k) k (omega (arith, one)) found in
    let text : c.unwrap_or-field.result.now ≡ field_or_blank fields column.position = search rules in
    let made : cell_of c.in_ok-cell.cell ≡ cell_of_column own fields column =
    c.in_ok-cell.ensures ∙ ap (λ (field : Text). cell_for look column.alignment (spaced look.has_sequences (if own.is_aligned then column.points else None) field)) text in
    let f : ℕ → ℕ = after table cells first in
    let after : nat_lt (first + k) first ≡ false = grind (arith, nat_tests) in
    let width : c.content_width.result ≡ f (first + k) =
    c.content_width.ensures ∙ ap (λ (cell : CellValue). cell_content_width (measured_cell table cell)) made
    ∙ sym (ap (measured_at table cell_content_width) here)
    ∙ ap (λ (b : Bool). if b then 0 else measured_at table cell_content_width (slice_get cells (first + k))) (sym after) in
    let had = c.loop-place.invariant in
    let grown = c.in_ok-widen_at.ensures in
    let next : (first + k) + 1 ≡ first + (k + 1) = omega arith in (
      λ i.
          grown.each i
          ∙ ap (λ n. max (slice_index_or c.loop-place.widths.items i 0) (if i == first + k then n else 0)) width
          ∙ ap (λ n. max n (if i == first + k then f (first + k) else 0)) (had.0 i)
          ∙ one_wider (slice_index_or c.widen_number.new.widths.items i 0) f i (first + k)
          ∙ ap (λ n. max (slice_index_or c.widen_number.new.widths.items i 0) (if nat_lt i n then f i else 0)) next,
      let count = grown.count in
          let so = had.1 in
          omega (arith, count, so),
      λ is.
          let parts = and_parts c.loop-place.is_flat c.has_one_line-is_flat.result is in
          let before = had.2 parts.0 in
          let own_line = c.has_one_line-is_flat.ensures parts.1 in (
            before.0,
            λ i cell low below is_cell.
                ⊎_elim (λ earlier. before.1 i cell low earlier is_cell)
                (λ later.
                let at : i ≡ first + k = omega (arith, later, below) in
                let same : cell_of_column own fields column ≡ cell = cc (sym here ∙ ap (slice_get cells) (sym at) ∙ is_cell) in
                subst (λ (cell : CellValue). length cell.text_lines ≤ 1) (made ∙ same) own_line) (cases_lt i (first + k)),
          ),
    )

pub returns-clause-each : goal.returns-clause-each
returns-clause-each c = λ i.
    let own = c.args.self.now in
    let fields : List Text = c.args.fields.now in
    let cells : List CellValue = (plain_by own c.args.at fields).cells in
    let first : ℕ = c.number_count-first.result in
    let k : ℕ = c.loop-place.place in
    let one : first ≡ (if own.selected.is_numbered then 1 else 0) = c.number_count-first.ensures in
    let listed = ap length c.columns_within-column-items.ensures in
    let many = as_many_cells own c.args.at fields in
    let all : length cells ≡ first + k = omega (arith, one, listed, many, c.loop-place-test.false, c.loop-place.auto.place-end) in
    joined_width (slice_index_or c.args.widths.now.items i 0) (measured_at c.args.table.now cell_content_width (slice_get cells i)) (slice_index_or c.widen_number.new.widths.items i 0) (slice_index_or c.loop-place.widths.items i 0) first (first + k) i
    (c.in_ok-is_flat.ensures.each fields i ∙ ap (λ n. max (slice_index_or c.args.widths.now.items i 0) (if nat_lt i n then measured_at c.args.table.now cell_content_width (slice_get cells i) else 0)) (sym one))
    (c.loop-place.invariant.0 i) (all_cells c.args.table.now cells (first + k) i all)
    ∙ ap (max (slice_index_or c.args.widths.now.items i 0)) (sym (measured_made c.args.table.now cell_content_width (λ set cell. refl) own c.args.at fields i))

pub returns-clause-count : goal.returns-clause-count
returns-clause-count c =
    let own = c.args.self.now in
    let fields : List Text = c.args.fields.now in
    let one : c.number_count-first.result ≡ (if own.selected.is_numbered then 1 else 0) = c.number_count-first.ensures in
    let listed = ap length c.columns_within-column-items.ensures in
    let many = as_many_cells own c.args.at fields in
    let count = c.in_ok-is_flat.ensures.count in
    let so = c.loop-place.invariant.1 in
    let made = cells_made-length own c.args.at fields in
    omega (arith, one, listed, many, made, count, so, c.loop-place-test.false, c.loop-place.auto.place-end)

pub returns-clause-flat : goal.returns-clause-flat
returns-clause-flat c = λ is.
    let own = c.args.self.now in
    let fields : List Text = c.args.fields.now in
    let cells : List CellValue = (plain_by own c.args.at fields).cells in
    let first : ℕ = c.number_count-first.result in
    let k : ℕ = c.loop-place.place in
    let one : first ≡ (if own.selected.is_numbered then 1 else 0) = c.number_count-first.ensures in
    let listed = ap length c.columns_within-column-items.ensures in
    let many = as_many_cells own c.args.at fields in
    let parts = c.loop-place.invariant.2 is in
    flat_made own c.args.at fields
    (record {
      lines = λ i d below.
          let cell : CellValue = slice_index_or cells i d in
          let found : slice_get cells i ≡ Some cell = inside cells i d below in
          ⊎_elim (λ number. c.in_ok-is_flat.ensures.flat fields cell i (omega (arith, number, one)) found parts.0)
          (λ field. parts.1 i cell field (omega (arith, below, one, listed, many, c.loop-place-test.false, c.loop-place.auto.place-end)) found) (cases_lt i first);
      some_height = high own.look own.look.max_height;
    })
