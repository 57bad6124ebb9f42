use Rattle.std.proofs.Common.{◌++◌, ◌∙◌}
use Rattle.comfy_parts.specs.Text.{Text, spaces}
use Rattle.csv_tables.proofs.PlainRowLemmas.{weighted}
use Rattle.csv_tables.specs.Cells.{field_text}
use Rattle.csv_tables.proofs.cells.other_cell.Goals as goal

pub returns-in-Some : goal.returns-in-Some
returns-in-Some c =
    let text : Text = field_text c.args.look.now (c.args.text.now ++ spaces c.args.after) in
    c.in-Some.ensures ∙ weighted c.args.is_bold c.args.alignment text _ c.style_of.ensures
