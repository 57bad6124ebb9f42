use Rattle.std.proofs.Common.{◌∙◌, sym}
use Rattle.std.proofs.lemmas.Result.{IfOk-weaker}
use Rattle.csv_tables.proofs.OutputLemmas.{with_line_below}
use Rattle.csv_tables.specs.Drawn.{sides}
use Rattle.csv_tables.specs.Markdown.{rule_line}
use Rattle.comfy_table.specs.TableValue.{max_content_widths}
use Rattle.csv_tables.proofs.output.with_rule.Goals as goal

pub returns-in-Some : goal.returns-in-Some
returns-in-Some c =
    let contents = c.args.contents.now in
    let rule = rule_line (sides contents.rows.selected) (max_content_widths contents.table) in
    IfOk-weaker c.with_rule_between.result _ _
    (λ text is lines none are.
    let found = with_line_below rule lines c.args.header.now c.split_once.result are none c.split_once.ensures.cases in
    is ∙ rw c.in-Some.is at found)
    c.with_rule_between.ensures

pub returns-in-None : goal.returns-in-None
returns-in-None c = λ lines none are.
    let contents = c.args.contents.now in
    let rule = rule_line (sides contents.rows.selected) (max_content_widths contents.table) in
    let found = with_line_below rule lines c.args.header.now c.split_once.result are none c.split_once.ensures.cases in
    c.new.ensures.bytes ∙ sym (rw c.in-None.is at found)
