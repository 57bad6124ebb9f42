use Rattle.std.proofs.Common.{rules, ◌≡◌, ◌∷◌, [], ℕ, List, ap, arith, flat_map, length, nat_lt, sym, true, false, Bool, ◌∙◌}
use Rattle.std.proofs.lemmas.Bool.Decides.{nat_tests}
use Rattle.std.specs.List.{slice_index_or}
use Rattle.std.specs.Prelude.{if◌then◌else◌}
use Rattle.comfy_parts.specs.CellValue.{RowValue}
use Rattle.comfy_parts.specs.Text.{Text}
use Rattle.comfy_table.specs.TableValue.{cell_content_width}
use Rattle.csv_tables.proofs.ContentLemmas.{greatest_at-append, pairs_rows}
use Rattle.csv_tables.proofs.PairWidthLemmas.{all_cells, both_widths, most_fields, no_widths}
use Rattle.csv_tables.specs.Contents.{greatest_at, most_cells, pairs_by}
use Rattle.csv_tables.specs.LazyRows.{names_width}
use Rattle.csv_tables.proofs.lazy_table.pair_widths.Goals as goal
use Rattle.csv_tables.proofs.lazy_table.pair_widths.Goals.{then-name-gt0+in_ok-push+in_ok-push-2, else-name-gt0}

pub loop-fields-preserved : goal.loop-fields-preserved
loop-fields-preserved c =
    let rows = c.args.rows.now in
    let table = c.args.table.now in
    let fields : List Text = c.in-Some.fields in
    let left : List (List Text) = c.next.new.self in
    let steps : c.loop-fields.fields-iterator ≡ fields ∷ left = search rules in
    let so = c.loop-fields.invariant in
    let lengths = ap most_fields steps in
    let widths = ap (λ (more : List (List Text)). greatest_at table cell_content_width (flat_map (pairs_by rows) more) 1) steps
    ∙ greatest_at-append table cell_content_width (pairs_by rows fields) (flat_map (pairs_by rows) left) 1 in (
      omega (arith, so.0, lengths, c.len.ensures, c.max-longest.ensures),
      omega (arith, so.1, widths, c.in_ok-field_width.ensures, c.max-field.ensures),
    )

pub returns-clause-each : goal.returns-clause-each
returns-clause-each c = λ i.
    let rows = c.args.rows.now in
    let table = c.args.table.now in
    let all : List (List Text) = rows.selected.rows in
    let start : c.into_iter-fields-iterator.result ≡ all = search rules in
    let ended : c.loop-fields.fields-iterator ≡ [] = search rules in
    let so = c.loop-fields.invariant in
    let g : List (List Text) → ℕ = λ records. greatest_at table cell_content_width (flat_map (pairs_by rows) records) 1 in
    let longest : c.loop-fields.longest ≡ most_fields all = omega (arith, so.0, ap most_fields ended, ap most_fields start) in
    let field : c.loop-fields.field ≡ g all = omega (arith, so.1, ap g ended, ap g start) in
    let name : c.in_ok-name.name ≡ names_width table rows (most_fields all) = c.in_ok-name.ensures ∙ ap (names_width table rows) longest in
    let made = ap (λ (rs : List RowValue). greatest_at table cell_content_width rs i) (pairs_rows rows c.requires 0 all) in
    elim c.if-name-gt0.branch [
      | then-name-gt0+in_ok-push+in_ok-push-2 w ↦
          let items : c.if-name-gt0.widths.items ≡ c.in_ok-name.name ∷ c.loop-fields.field ∷ [] = search rules in
          ap (λ (ws : List ℕ). slice_index_or ws i 0) items ∙ both_widths table rows all c.in_ok-name.name c.loop-fields.field name field i ∙ sym made
      | else-name-gt0 w ↦
          let items : c.if-name-gt0.widths.items ≡ [] = search rules in
          ap (λ (ws : List ℕ). slice_index_or ws i 0) items ∙ no_widths table rows all (omega (arith, name, w.if-name-gt0.false)) i ∙ sym made
    ]

pub returns-clause-count : goal.returns-clause-count
returns-clause-count c =
    let rows = c.args.rows.now in
    let table = c.args.table.now in
    let all : List (List Text) = rows.selected.rows in
    let start : c.into_iter-fields-iterator.result ≡ all = search rules in
    let ended : c.loop-fields.fields-iterator ≡ [] = search rules in
    let so = c.loop-fields.invariant in
    let longest : c.loop-fields.longest ≡ most_fields all = omega (arith, so.0, ap most_fields ended, ap most_fields start) in
    let name : c.in_ok-name.name ≡ names_width table rows (most_fields all) = c.in_ok-name.ensures ∙ ap (names_width table rows) longest in
    let made : most_cells _ ≡ (if nat_lt 0 (names_width table rows (most_fields all)) then 2 else 0) = ap most_cells (pairs_rows rows c.requires 0 all) ∙ all_cells table rows all in
    elim c.if-name-gt0.branch [
      | then-name-gt0+in_ok-push+in_ok-push-2 w ↦
          let items : c.if-name-gt0.widths.items ≡ c.in_ok-name.name ∷ c.loop-fields.field ∷ [] = search rules in
          let some : nat_lt 0 (names_width table rows (most_fields all)) ≡ true = grind (arith, nat_tests, name, w.if-name-gt0.true) in
          ap length items ∙ sym (made ∙ ap (λ (b : Bool). if b then 2 else 0) some)
      | else-name-gt0 w ↦
          let items : c.if-name-gt0.widths.items ≡ [] = search rules in
          let none : nat_lt 0 (names_width table rows (most_fields all)) ≡ false = grind (arith, nat_tests, name, w.if-name-gt0.false) in
          ap length items ∙ sym (made ∙ ap (λ (b : Bool). if b then 2 else 0) none)
    ]
