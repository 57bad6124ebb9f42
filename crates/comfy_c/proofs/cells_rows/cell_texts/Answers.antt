use Rattle.std.proofs.Common.{◌≡◌, ◌∙◌, ℕ, List, ap, length, subst, sym}
use Rattle.std.proofs.lemmas.List.{length-map}
use Rattle.std.specs.List.{All}
use Rattle.std.specs.Str.{IsUtf8}
use Rattle.csv_records.specs.CutLists.{cut_by, total}
use Rattle.comfy_c.proofs.TextLemmas.{length-cut_by}
use Rattle.comfy_c.specs.CellCalls.{counts_of, lengths_of}
use Rattle.comfy_c.proofs.cells_rows.cell_texts.Goals as goal

pub returns-clause-count : goal.returns-clause-count
returns-clause-count c =
    let cells = c.args.cells.now in
    let found = c.in_ok-found.found.items in
    let lengths : c.as_slice.result.now ≡ lengths_of cells = c.as_slice.ensures.value ∙ c.in_ok-lengths.ensures in
    sym (length-map found (λ text. text.now)) ∙ ap length c.in_ok-found.ensures.cut ∙ length-cut_by c.as_slice.result.now c.args.texts.now ∙ ap length lengths ∙ length-map cells (λ cell. cell.length)

pub returns-clause-counted : goal.returns-clause-counted
returns-clause-counted c =
    let cells = c.args.cells.now in
    let lengths : c.as_slice.result.now ≡ lengths_of cells = c.as_slice.ensures.value ∙ c.in_ok-lengths.ensures in
    let counts : c.as_slice-2.result.now ≡ counts_of c.args.rows.now = c.as_slice-2.ensures.value ∙ c.in_ok-counts.ensures in
    ap total (sym counts) ∙ c.in_ok-found.ensures.all.1 ∙ ap length lengths ∙ length-map cells (λ cell. cell.length)

pub returns-clause-texts : goal.returns-clause-texts
returns-clause-texts c =
    let lengths : c.as_slice.result.now ≡ lengths_of c.args.cells.now = c.as_slice.ensures.value ∙ c.in_ok-lengths.ensures in
    subst (λ (own : List ℕ). All IsUtf8 (cut_by own c.args.texts.now)) lengths c.in_ok-found.ensures.texts
