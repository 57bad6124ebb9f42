use Rattle.std.proofs.Common.{Option, subst}
use Rattle.std.specs.Prelude.{IfSome}
use Rattle.comfy_parts.specs.Following.{IsMeasuredAtEnd}
use Rattle.comfy_parts.specs.declared.content_split.ends.Measured.{Measured}
use Rattle.comfy_parts.proofs.WideEndLemmas.{exact-columns, none-wider}
use Rattle.comfy_parts.proofs.MeasuredLineLemmas.{at-first, at-measured}
use Rattle.comfy_parts.proofs.content_split.lines.lines_after.Goals as goal

pub lines_from-requires : goal.lines_from-requires
lines_from-requires c =
    let m = c.in-Some.next in
    let (start, begun) = c.line_start-rest.ensures.ends in
    record {
      at = at-measured c.args.width c.args.delimiter c.args.text.now start c.line_start-rest.result.now m.left m.first m.columns c.requires.narrow c.line_start-rest.utf8 c.line_start-rest.ensures.begins begun
          (subst (λ (o : Option Measured). IfSome o (λ m. IsMeasuredAtEnd c.args.delimiter c.args.text.now m.left m.first m.columns)) c.in-Some.is c.requires.measured) c.if-next-rest.true;
    }

pub lines_from-requires-then-rest-width : goal.lines_from-requires-then-rest-width
lines_from-requires-then-rest-width c = record {
  at = at-first c.args.width c.args.delimiter c.line_start-rest.result.now c.first_element.result.0.now c.first_element.result.1.now _ _ c.requires.narrow c.line_start-rest.utf8 c.line_start-rest.ensures.begins c.first_element.ensures
      c.columns_up_to-columns.ensures c.wide_end-wide.ensures;
}

pub lines_from-requires-2 : goal.lines_from-requires-2
lines_from-requires-2 c =
    let word = c.measured_element-columns.result.0.now in
    record {
      at = at-first c.args.width c.args.delimiter c.line_start-rest.result.now word c.measured_element-columns.result.1.now _ _ c.requires.narrow c.line_start-rest.utf8 c.line_start-rest.ensures.begins c.measured_element-columns.ensures.element
          (exact-columns c.args.width _ word c.measured_element-columns.ensures.columns) (none-wider c.args.width word);
    }
