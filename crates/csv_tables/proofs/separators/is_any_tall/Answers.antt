use Rattle.std.proofs.Common.{◌≡◌, ◌+◌, ◌++◌, ◌||◌, ◌∷◌, ◌∙◌, [], ℕ, Bool, List, ap, ap₂, false, map, nat_lt, sym, true, rules}
use Rattle.std.specs.Iterator.Adapters.{enumerate_count, enumerate_source}
use Rattle.std.specs.List.{list_any}
use Rattle.std.specs.Prelude.{if◌then◌else◌}
use Rattle.comfy_parts.specs.CellValue.{RowValue}
use Rattle.comfy_parts.specs.Text.{Text}
use Rattle.comfy_table.specs.Parts.{ArrangedValue}
use Rattle.comfy_table.specs.Pieces.{row_height}
use Rattle.csv_tables.specs.Contents.{made_by, pairs_by, rows_from}
use Rattle.csv_tables.specs.declared.rows.RecordRows.{RecordRows}
use Rattle.csv_tables.proofs.separators.is_any_tall.Goals as goal

-- true if one of these rows has more than one line
abbrev any : ArrangedValue → List RowValue → Bool
any table rows = list_any (nat_lt 1) (map (row_height table.table table.infos) rows)

-- the rows of the records from a place on, if records aren't expanded
from_one : (table : ArrangedValue) (rows : RecordRows) → rows.is_expanded ≡ false → (at : ℕ) (fields : List Text) (left : List (List Text))
    → any table (rows_from rows at (fields ∷ left)) ≡ nat_lt 1 (row_height table.table table.infos (made_by rows at fields)) || any table (rows_from rows (at + 1) left)
from_one table rows single at fields left =
    ap (λ (b : Bool). any table ((if b then pairs_by rows fields else made_by rows at fields ∷ []) ++ rows_from rows (at + 1) left)) single

pub loop-at-init : goal.loop-at-init
loop-at-init c =
    let rows = c.args.rows.now in
    let count : enumerate_count c.into_iter-at-iterator.result ≡ 0 = search rules in
    let source : enumerate_source c.into_iter-at-iterator.result ≡ rows.selected.rows = search rules in
    ap₂ (λ (n : ℕ) (left : List (List Text)). any c.args.writer.now (rows_from rows n left)) count source

pub loop-at-preserved : goal.loop-at-preserved
loop-at-preserved c =
    let rows = c.args.rows.now in
    let table = c.args.writer.now in
    let steps = c.in-Some.ensures.steps in
    let k : ℕ = enumerate_count c.loop-at.at-iterator in
    let fields : List Text = c.in-Some.fields in
    let rest : List (List Text) = enumerate_source c.next.new.self in
    let low : nat_lt 1 (row_height table.table table.infos (made_by rows k fields)) ≡ false =
    sym (c.in_ok-is_tall.ensures
    ∙ ap (λ n. nat_lt 1 (row_height table.table table.infos (made_by rows n fields))) steps.1) ∙ c.if-branch.false in
    ap (λ n. any table (rows_from rows n rest)) steps.2
    ∙ sym (from_one table rows c.requires k fields rest ∙ ap (λ b. b || any table (rows_from rows (k + 1) rest)) low)
    ∙ ap (λ (left : List (List Text)). any table (rows_from rows k left)) (sym steps.0)
    ∙ c.loop-at.invariant

pub returns-then-branch : goal.returns-then-branch
returns-then-branch c =
    let rows = c.args.rows.now in
    let table = c.args.writer.now in
    let steps = c.in-Some.ensures.steps in
    let k : ℕ = enumerate_count c.loop-at.at-iterator in
    let fields : List Text = c.in-Some.fields in
    let rest : List (List Text) = enumerate_source c.next.new.self in
    let tall : nat_lt 1 (row_height table.table table.infos (made_by rows k fields)) ≡ true =
    sym (c.in_ok-is_tall.ensures
    ∙ ap (λ n. nat_lt 1 (row_height table.table table.infos (made_by rows n fields))) steps.1) ∙ c.if-branch.true in
    sym (from_one table rows c.requires k fields rest ∙ ap (λ b. b || any table (rows_from rows (k + 1) rest)) tall)
    ∙ ap (λ (left : List (List Text)). any table (rows_from rows k left)) (sym steps.0)
    ∙ c.loop-at.invariant

pub returns : goal.returns
returns c =
    let rows = c.args.rows.now in
    let k : ℕ = enumerate_count c.loop-at.at-iterator in
    let ended : enumerate_source c.loop-at.at-iterator ≡ [] = search rules in
    ap (λ (left : List (List Text)). any c.args.writer.now (rows_from rows k left)) (sym ended) ∙ c.loop-at.invariant
