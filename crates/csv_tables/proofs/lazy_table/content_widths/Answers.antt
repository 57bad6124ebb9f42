use Rattle.std.proofs.Common.{◌≡◌, ◌+◌, ◌++◌, ◌∷◌, [], ℕ, Bool, List, true, false, refl, ap, ap₂, arith, length, max, subst, sym, ◌∙◌, rules}
use Rattle.std.proofs.lemmas.List.FromFn.{length-map-range_with_len}
use Rattle.std.specs.Iterator.Adapters.{enumerate_count, enumerate_source}
use Rattle.std.proofs.lemmas.Bool.{and_parts}
use Rattle.std.proofs.lemmas.List.Elements.{All-cons, All-nil}
use Rattle.std.specs.List.{All, slice_get, slice_index_or}
use Rattle.std.specs.Prelude.{if◌then◌else◌}
use Rattle.comfy_parts.specs.CellValue.{RowValue}
use Rattle.comfy_parts.specs.Text.{Text}
use Rattle.comfy_table.specs.TableValue.{TableValue, cell_content_width, column_content_width, max_content_widths}
use Rattle.csv_tables.proofs.ContentLemmas.{greatest_at-append, header_widths, most_cells-append, no_rows, width_below}
use Rattle.csv_tables.specs.Contents.{greatest_at, made_by, measured_at, most_cells, pairs_by, rows_from}
use Rattle.csv_tables.specs.Drawn.{empty_table, headed_table}
use Rattle.csv_tables.specs.LazyRows.{IsFlat}
use Rattle.csv_tables.specs.Styled.{dressed_table}
use Rattle.csv_tables.proofs.lazy_table.content_widths.Goals as goal

pub loop-at-init : goal.loop-at-init
loop-at-init c =
    let rows = c.args.rows.now in
    let table = c.args.table.now in
    let all = rows_from rows 0 rows.selected.rows in
    let count : enumerate_count c.into_iter-at-iterator.result ≡ 0 = search rules in
    let source : enumerate_source c.into_iter-at-iterator.result ≡ rows.selected.rows = search rules in
    let left : rows_from rows (enumerate_count c.into_iter-at-iterator.result) (enumerate_source c.into_iter-at-iterator.result) ≡ all = ap₂ (rows_from rows) count source in
    let own : c.in_ok-widths.widths.items ≡ max_content_widths table = c.in_ok-widths.ensures in (
      λ i.
          ap₂ (λ (ws : List ℕ) (rs : List RowValue). max (slice_index_or ws i 0) (greatest_at table cell_content_width rs i)) own left
          ∙ ap (λ n. max n (greatest_at table cell_content_width all i)) (header_widths rows table c.requires i)
          ∙ width_below table all i (ap (λ t. t.rows) c.requires ∙ no_rows rows),
      ap₂ (λ (ws : List ℕ) (rs : List RowValue). max (length ws) (most_cells rs)) own left
          ∙ ap (λ n. max n (most_cells all)) (length-map-range_with_len (column_content_width table) 0 (length table.columns)),
      λ is flat. subst (All IsFlat) left flat,
    )

pub loop-at-preserved : goal.loop-at-preserved
loop-at-preserved c =
    let rows = c.args.rows.now in
    let table = c.args.table.now in
    let steps = c.in-Some.ensures.steps in
    let k : ℕ = enumerate_count c.loop-at.at-iterator in
    let fields : List Text = c.in-Some.fields in
    let rest : List (List Text) = enumerate_source c.next.new.self in
    let made : RowValue = made_by rows k fields in
    let here : List RowValue = made ∷ [] in
    let later : List RowValue = rows_from rows (k + 1) rest in
    let single : rows.is_expanded ≡ false = search rules in
    let before : rows_from rows k (enumerate_source c.loop-at.at-iterator) ≡ here ++ later =
    ap (rows_from rows k) steps.0 ∙ ap (λ (b : Bool). (if b then pairs_by rows fields else here) ++ later) single in
    let left : rows_from rows (enumerate_count c.next.new.self) rest ≡ later = ap (λ n. rows_from rows n rest) steps.2 in
    let at : c.in-Some.at ≡ k = steps.1 in
    let new = c.widen.new.widths.items in
    let old = c.loop-at.widths.items in (
      λ i.
          let f : List RowValue → ℕ = λ rs. greatest_at table cell_content_width rs i in
          let width : RowValue → ℕ = λ row. measured_at table cell_content_width (slice_get row.cells i) in
          let grown : slice_index_or new i 0 ≡ max (slice_index_or old i 0) (width made) = c.in_ok-is_flat.ensures.each i ∙ ap (λ n. max (slice_index_or old i 0) (width (made_by rows n fields))) at in
          let one : f here ≡ max (width made) 0 = refl in
          let parts = ap f before ∙ greatest_at-append table cell_content_width here later i in
          let next = ap f left in
          let so = c.loop-at.invariant.0 i in
          omega (arith, grown, one, parts, next, so),
      let grown : length new ≡ max (length old) (length made.cells) = c.in_ok-is_flat.ensures.count ∙ ap (λ n. max (length old) (length (made_by rows n fields).cells)) at in
          let one : most_cells here ≡ max (length made.cells) 0 = refl in
          let parts = ap most_cells before ∙ most_cells-append here later in
          let next = ap most_cells left in
          let so = c.loop-at.invariant.1 in
          omega (arith, grown, one, parts, next, so),
      λ is flat.
          let parts = and_parts c.loop-at.is_flat c.in_ok-is_flat.field-0 is in
          let now : IsFlat made = subst (λ n. IsFlat (made_by rows n fields)) at (c.in_ok-is_flat.ensures.flat parts.1) in
          c.loop-at.invariant.2 parts.0 (subst (All IsFlat) (sym before) (All-cons IsFlat made later now (subst (All IsFlat) left flat))),
    )

pub returns-clause-each : goal.returns-clause-each
returns-clause-each c = λ i.
    let rows = c.args.rows.now in
    let ended : enumerate_source c.loop-at.at-iterator ≡ [] = search rules in
    let none = ap (λ (left : List (List Text)). greatest_at c.args.table.now cell_content_width (rows_from rows (enumerate_count c.loop-at.at-iterator) left) i) ended in
    let so = c.loop-at.invariant.0 i in
    omega (arith, none, so)

pub returns-clause-count : goal.returns-clause-count
returns-clause-count c =
    let rows = c.args.rows.now in
    let ended : enumerate_source c.loop-at.at-iterator ≡ [] = search rules in
    let none = ap (λ (left : List (List Text)). most_cells (rows_from rows (enumerate_count c.loop-at.at-iterator) left)) ended in
    let so = c.loop-at.invariant.1 in
    omega (arith, none, so)

pub returns-clause-flat : goal.returns-clause-flat
returns-clause-flat c = λ is.
    let rows = c.args.rows.now in
    let ended : enumerate_source c.loop-at.at-iterator ≡ [] = search rules in
    let none : rows_from rows (enumerate_count c.loop-at.at-iterator) (enumerate_source c.loop-at.at-iterator) ≡ [] = ap (rows_from rows (enumerate_count c.loop-at.at-iterator)) ended in
    c.loop-at.invariant.2 is (subst (All IsFlat) (sym none) (All-nil IsFlat))

pub returns-then-rows-clause-each : goal.returns-then-rows-clause-each
returns-then-rows-clause-each c = λ i.
    let rows = c.args.rows.now in
    let table = c.args.table.now in
    let all = rows_from rows 0 rows.selected.rows in
    let expanded : rows.is_expanded ≡ true = search rules in
    let bare : table ≡ empty_table rows.look = c.requires ∙ ap (λ (b : Bool). if b then empty_table rows.look else dressed_table rows.selected rows.settings.rows (headed_table rows.look rows.selected.is_numbered rows.selected.columns rows.selected.names)) expanded in
    let none : column_content_width table i ≡ 0 = sym (header_widths rows table c.requires i) ∙ ap (λ (t : TableValue). slice_index_or (max_content_widths t) i 0) bare in
    let below = width_below table all i (ap (λ t. t.rows) c.requires ∙ no_rows rows) in
    let own = c.in_ok-pair_widths.ensures.each i in
    omega (arith, own, none, below)

pub returns-then-rows-clause-count : goal.returns-then-rows-clause-count
returns-then-rows-clause-count c =
    let rows = c.args.rows.now in
    let expanded : rows.is_expanded ≡ true = search rules in
    let bare : c.args.table.now ≡ empty_table rows.look = c.requires ∙ ap (λ (b : Bool). if b then empty_table rows.look else dressed_table rows.selected rows.settings.rows (headed_table rows.look rows.selected.is_numbered rows.selected.columns rows.selected.names)) expanded in
    let none : length c.args.table.now.columns ≡ 0 = ap (λ (t : TableValue). length t.columns) bare in
    let own = c.in_ok-pair_widths.ensures.count in
    omega (arith, own, none)
