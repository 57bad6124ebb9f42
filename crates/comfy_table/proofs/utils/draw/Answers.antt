use Rattle.std.proofs.Common.{◌≡◌, List, true, ap, rules, ◌∙◌}
use Rattle.std.proofs.lemmas.Result.{on_ok_weaker}
use Rattle.comfy_parts.specs.Text.{Text}
use Rattle.comfy_table.proofs.OtherRowLemmas.{part-whole}
use Rattle.comfy_table.specs.Drawing.{drawing_of_infos, part_of_drawing}
use Rattle.comfy_table.specs.Output.{with_lines}
use Rattle.comfy_table.specs.TableValue.{TableValue}
use Rattle.comfy_table.proofs.utils.draw.Goals as goal

pub returns : goal.returns
returns g c =
    let kept_of = g.O.Output.kept_of in
    let had = g.O.Output.kept c.args.output.now in
    let table = c.args.table.now in
    let infos = c.in_ok-arranged.arranged.infos in
    let rows = c.as_slice.result.now in
    let known = c.in_ok-arranged.ensures in
    let all : rows ≡ table.rows = search rules in
    let whole : part_of_drawing c.in_ok-arranged.arranged.contents.now infos true true rows ≡ drawing_of_infos table infos =
    ap (λ (t : TableValue). part_of_drawing t infos true true rows) known.table
    ∙ ap (part_of_drawing table infos true true) all
    ∙ part-whole table infos in
    on_ok_weaker c.draw.result
    (λ (drawn : g.O.Output.kept c.draw.new.output ≡ _). (
      drawing_of_infos table infos,
      known.infos.headline,
      drawn ∙ ap (λ (lines : List Text). with_lines kept_of lines had) whole,
    ))
    c.draw.ensures.ok
