use Rattle.std.proofs.Common.{◌≡◌, ℕ, List, map, string_bytes, subst, ap, ◌∙◌, arith}
use Rattle.std.specs.Prelude.{OnOk, option_to_list}
use Rattle.comfy_parts.specs.CellValue.{ColumnInfo, info_width}
use Rattle.comfy_parts.specs.Text.{Text}
use Rattle.comfy_table.proofs.OutputLemmas.{begins-before_lines, with_lines-append}
use Rattle.comfy_table.specs.Drawing.{outer_widths}
use Rattle.comfy_table.specs.Frame.{optional_frame_line}
use Rattle.comfy_table.specs.Gaps.{RowGapsValue, row_between, row_gaps}
use Rattle.comfy_table.specs.Output.{with_lines}
use Rattle.comfy_table.specs.Parts.{ArrangedValue}
use Rattle.comfy_table.specs.Pieces.{shown_infos}
use Rattle.comfy_table.proofs.utils.formatting.drawing.Writer.write_header_lines.Goals as goal

pub returns-clause-ok : goal.returns-clause-ok
returns-clause-ok g c =
    let kept_of = g.O.Output.kept_of in
    let had = g.O.Output.kept c.args.output.now in
    let start = c.args.self.now in
    let lines = row_between (row_gaps start.table.style start.table.style.header_lines) start.table start.infos c.args.header.now in
    let separator = optional_frame_line start.table.style start.table.style.header_separator (outer_widths start.infos) in
    let gaps : c.in_ok-gaps.gaps ≡ row_gaps start.table.style start.table.style.header_lines = grind arith in
    let widths : map (λ (p : ℕ × ColumnInfo). info_width p.1) c.as_slice-columns.result.now ≡ outer_widths start.infos =
    ap (map (λ (p : ℕ × ColumnInfo). info_width p.1)) (c.as_slice-columns.ensures.value ∙ c.self.invariant.0 ∙ ap (λ (w : ArrangedValue). shown_infos w.infos) c.self.view_is) in
    let made : map string_bytes (option_to_list c.in_ok-separator.separator) ≡ separator = grind (arith, widths) in
    let both : g.O.Output.kept c.write_row.new.output ≡ with_lines kept_of lines had =
    c.in_ok-write_row.ensures.ok ∙ ap (λ (g : RowGapsValue). with_lines kept_of (row_between g start.table start.infos c.args.header.now) had) gaps in
    subst (λ kept. OnOk c.push_frame_line.result (g.O.Output.kept c.push_frame_line.new.output ≡ kept))
    (ap (λ (ls : List Text). with_lines kept_of ls (g.O.Output.kept c.write_row.new.output)) made
    ∙ ap (with_lines kept_of separator) both
    ∙ with_lines-append kept_of lines separator had)
    c.push_frame_line.ensures.ok

pub returns-clause-err : goal.returns-clause-err
returns-clause-err g c =
    let start = c.args.self.now in
    let lines = row_between c.in_ok-gaps.gaps start.table start.infos c.args.header.now in
    let before = begins-before_lines g.O.Output.kept_of lines (g.O.Output.kept c.args.output.now) (g.O.Output.kept c.push_frame_line.new.output) in
    grind (arith, before)
