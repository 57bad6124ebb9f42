use Rattle.std.proofs.Common.{arith, subst}
use Rattle.std.proofs.lemmas.Result.{IfOk-weaker}
use Rattle.comfy_parts.specs.Presets.{utf8_full}
use Rattle.comfy_table.specs.Headline.{IsTableDrawing}
use Rattle.comfy_table.specs.TableValue.{TableValue}
use Rattle.test_callers.proofs.uses.drawing.report.Goals as goal

pub returns : goal.returns
returns c =
    IfOk-weaker c.lines.result _ _
    (λ lines drawing short each.
    c.new_tables_are_straight.ensures utf8_full c.args.header c.args.rows.items lines (c.preset_characters_take_one_column.ensures 7 utf8_full (omega arith)).0 short each
    (subst (λ (table : TableValue). IsTableDrawing table lines) c.in_ok-table.ensures drawing))
    c.lines.ensures.headline
