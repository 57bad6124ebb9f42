use Rattle.std.proofs.Common.{◌≡◌, ◌≤◌, [], ◌∷◌, ◌++◌, ℕ, ap, ◌∙◌, sym, append-nil, arith, string_bytes}
use Rattle.comfy_parts.specs.Text.{Text, spaces}
use Rattle.comfy_table.proofs.RowCellLemmas.{clear_measured, fitting_longest, longest_of_one}
use Rattle.comfy_table.specs.Lines.{cell_delimiter}
use Rattle.comfy_table.specs.LongestLine.{cell_longest_line, text_longest_line}
use Rattle.comfy_table.proofs.utils.arrangement.longest.cell_text_longest_line.Goals as goal

pub returns-then-columns-width : goal.returns-then-columns-width
returns-then-columns-width c =
    let table = c.args.table.now in
    let cell = c.args.cell.now in
    let info = c.args.info.now in
    let fits : c.columns-columns.result ≤ info.content_width = grind arith in
    sym (ap (cell_longest_line table info) (clear_measured table cell c.columns-columns.ensures.clear)
    ∙ fitting_longest info.content_width (cell_delimiter table info.delimiter cell) c.columns-columns.result cell.text_lines c.columns-columns.ensures.columns fits)

pub returns-then-after-eq0 : goal.returns-then-after-eq0
returns-then-after-eq0 c =
    let table = c.args.table.now in
    let cell = c.args.cell.now in
    let info = c.args.info.now in
    let text = c.line-after.result.0.now in
    let d = cell_delimiter table info.delimiter cell in
    let delimiter : c.delimiter_in-delimiter.result ≡ d = grind arith in
    let none : c.line-after.result.1 ≡ 0 = grind arith in
    let single : cell.text_lines ≡ text ∷ [] = c.line-after.ensures.line ∙ ap (λ (t : Text). t ∷ []) (ap (λ n. text ++ spaces n) none ∙ append-nil text) in
    let own : c.text_longest_line.result ≡ text_longest_line info.content_width c.delimiter_in-delimiter.result text = grind arith in
    own ∙ ap (λ (d : ℕ). text_longest_line info.content_width d text) delimiter
    ∙ sym (ap (cell_longest_line table info) (clear_measured table cell c.columns-columns.ensures.clear) ∙ longest_of_one info.content_width d cell.text_lines text single)

pub returns : goal.returns
returns c =
    let table = c.args.table.now in
    let cell = c.args.cell.now in
    let info = c.args.info.now in
    let text = string_bytes c.in_ok-spaced.spaced in
    let d = cell_delimiter table info.delimiter cell in
    let delimiter : c.delimiter_in-delimiter.result ≡ d = grind arith in
    let own : c.text_longest_line-2.result ≡ text_longest_line info.content_width c.delimiter_in-delimiter.result text = grind arith in
    own ∙ ap (λ (d : ℕ). text_longest_line info.content_width d text) delimiter
    ∙ sym (ap (cell_longest_line table info) (clear_measured table cell c.columns-columns.ensures.clear) ∙ longest_of_one info.content_width d cell.text_lines text c.in_ok-spaced.ensures)
