use Rattle.std.proofs.Common.{◌≡◌, List, [], ◌∷◌, ◌++◌, map, string_bytes, take, ap, subst, sym, append_assoc, ◌∙◌, arith}
use Rattle.std.proofs.lemmas.List.{flat_map_more, take_more}
use Rattle.std.specs.Prelude.{option_to_list}
use Rattle.comfy_parts.specs.CellValue.{RowValue}
use Rattle.comfy_parts.specs.Text.{Text}
use Rattle.comfy_table.proofs.OutputLemmas.{begins-before_lines, with_lines-append}
use Rattle.comfy_table.specs.Drawing.{drawn_row, further_rows, outer_widths}
use Rattle.comfy_table.specs.Frame.{optional_frame_line}
use Rattle.comfy_table.specs.Gaps.{FrameValue, RowGapsValue, row_between, row_gaps}
use Rattle.comfy_table.specs.Output.{BeginsWith, with_lines}
use Rattle.comfy_table.specs.Parts.{ArrangedValue}
use Rattle.comfy_table.proofs.utils.formatting.drawing.Writer.write_further_rows.Goals as goal

-- the row separator of a writer
abbrev between : ArrangedValue → List Text
between w = optional_frame_line w.table.style w.table.style.row_separator (outer_widths w.infos)

pub loop-row-preserved : goal.loop-row-preserved
loop-row-preserved g c =
    let kept_of = g.O.Output.kept_of in
    let had = g.O.Output.kept c.args.output.now in
    let start = c.args.self.now in
    let table = start.table in
    let rows = c.args.rows.now in
    let row = c.row-item.result in
    let at = c.loop-row.row-index in
    let done = further_rows table start.infos (take at rows) in
    let drawn = drawn_row table start.infos table.style.content_lines in
    let gaps : c.frame.inside.gaps ≡ row_gaps table.style table.style.content_lines =
    ap (λ (f : FrameValue). f.gaps) (c.frame.view_is ∙ c.self.invariant.1) ∙ ap (λ (w : ArrangedValue). row_gaps w.table.style w.table.style.content_lines) c.self.view_is in
    let separated : g.O.Output.kept c.push_frame_line.new.output ≡ with_lines kept_of (done ++ between start) had =
    c.in_ok-push_frame_line.ensures.ok
    ∙ ap (λ (lines : List Text). with_lines kept_of lines (g.O.Output.kept c.loop-row.output)) (ap (λ (f : FrameValue). f.separator) (c.frame.view_is ∙ c.self.invariant.1) ∙ ap between c.self.view_is)
    ∙ ap (with_lines kept_of (between start)) c.loop-row.invariant.1
    ∙ with_lines-append kept_of done (between start) had in (
      c.write_row.ensures.kept ∙ c.loop-row.invariant.0,
      c.in_ok-write_row.ensures.ok
          ∙ ap (λ (w : ArrangedValue). with_lines kept_of (row_between c.frame.inside.gaps w.table w.infos row) (g.O.Output.kept c.push_frame_line.new.output)) c.loop-row.invariant.0
          ∙ ap (with_lines kept_of (row_between c.frame.inside.gaps table start.infos row)) separated
          ∙ with_lines-append kept_of (done ++ between start) (row_between c.frame.inside.gaps table start.infos row) had
          ∙ ap (λ (g : RowGapsValue). with_lines kept_of ((done ++ between start) ++ row_between g table start.infos row) had) gaps
          ∙ ap (λ (lines : List Text). with_lines kept_of lines had)
          (append_assoc done (between start) (drawn row)
          ∙ flat_map_more (λ (r : RowValue). between start ++ drawn r) [] (take at rows) row
          ∙ ap (further_rows table start.infos) (sym (take_more rows at row c.loop-row-test.true ∙ ap (λ r. take at rows ++ r ∷ []) (sym c.row-item.is)))),
    )

pub returns-in_err-write_row-clause-err : goal.returns-in_err-write_row-clause-err
returns-in_err-write_row-clause-err g c =
    let kept_of = g.O.Output.kept_of in
    let had = g.O.Output.kept c.args.output.now in
    let new = g.O.Output.kept c.write_row.new.output in
    let start = c.args.self.now in
    let done = further_rows start.table start.infos (take c.loop-row.row-index c.args.rows.now) in
    let line = map string_bytes (option_to_list c.frame.inside.separator) in
    let separated : g.O.Output.kept c.push_frame_line.new.output ≡ with_lines kept_of (done ++ line) had =
    c.in_ok-push_frame_line.ensures.ok ∙ ap (with_lines kept_of line) c.loop-row.invariant.1 ∙ with_lines-append kept_of done line had in
    let known : BeginsWith new had =
    begins-before_lines kept_of (done ++ line) had new
    (subst (BeginsWith new) separated c.in_err-write_row.ensures.err) in
    grind (arith, known)

pub returns-in_err-push_frame_line-clause-err : goal.returns-in_err-push_frame_line-clause-err
returns-in_err-push_frame_line-clause-err g c =
    let kept_of = g.O.Output.kept_of in
    let had = g.O.Output.kept c.args.output.now in
    let new = g.O.Output.kept c.push_frame_line.new.output in
    let start = c.args.self.now in
    let done = further_rows start.table start.infos (take c.loop-row.row-index c.args.rows.now) in
    let known : BeginsWith new had =
    begins-before_lines kept_of done had new (subst (BeginsWith new) c.loop-row.invariant.1 c.in_err-push_frame_line.ensures.err) in
    grind (arith, known)
