use Rattle.std.proofs.Common.{◌≡◌, List, ap, subst, ◌∙◌}
use Rattle.std.specs.Prelude.{OnOk}
use Rattle.comfy_parts.specs.Text.{Text}
use Rattle.comfy_table.proofs.OutputLemmas.{with_lines-append}
use Rattle.comfy_table.specs.Drawing.{drawn_header, outer_widths}
use Rattle.comfy_table.specs.Frame.{optional_frame_line}
use Rattle.comfy_table.specs.Gaps.{FrameValue}
use Rattle.comfy_table.specs.Output.{with_lines}
use Rattle.comfy_table.specs.Parts.{ArrangedValue}
use Rattle.comfy_table.proofs.utils.formatting.drawing.Writer.write_above.Goals as goal

-- the top border of a writer
abbrev above : ArrangedValue → List Text
above w = optional_frame_line w.table.style w.table.style.top_border (outer_widths w.infos)

pub returns-clause-ok : goal.returns-clause-ok
returns-clause-ok g c =
    let kept_of = g.O.Output.kept_of in
    let had = g.O.Output.kept c.args.output.now in
    let start = c.args.self.now in
    let header = drawn_header start.table start.infos start.table.header in
    let first : g.O.Output.kept c.push_frame_line.new.output ≡ with_lines kept_of (above start) had =
    c.in_ok-push_frame_line.ensures.ok
    ∙ ap (λ (lines : List Text). with_lines kept_of lines had) (ap (λ (f : FrameValue). f.top) (c.frame.view_is ∙ c.self.invariant.1) ∙ ap above c.self.view_is) in
    subst (λ kept. OnOk c.write_header.result (g.O.Output.kept c.write_header.new.output ≡ kept))
    (ap (with_lines kept_of header) first ∙ with_lines-append kept_of (above start) header had)
    c.write_header.ensures.ok
