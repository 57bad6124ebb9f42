use Rattle.std.proofs.Common.{◌≡◌, ◌∙◌, []}
use Rattle.comfy_parts.specs.CellValue.{plain_cell}
use Rattle.comfy_table.specs.Styling.{all_attributes}
use Rattle.comfy_c.specs.Numbers.{attributes_by, color_of}
use Rattle.comfy_c.proofs.cells_styles.KnownLook.style_for.Goals as goal

pub returns-then-is_same-2 : goal.returns-then-is_same-2
returns-then-is_same-2 c =
    let own = c.self.inside.look in
    let other = c.args.look.now in
    let attributes : own.attributes ≡ other.attributes = c.if-own-look.true in
    let foreground : color_of own.foreground ≡ color_of other.foreground = c.is_same.ensures c.if-is_same.true in
    let background : color_of own.background ≡ color_of other.background = c.is_same-then-is_same.ensures c.if-is_same-2.true in
    c.self.invariant
    ∙ (λ i. record (plain_cell []) { foreground = foreground i; background = background i; attributes = attributes_by all_attributes (attributes i) })
