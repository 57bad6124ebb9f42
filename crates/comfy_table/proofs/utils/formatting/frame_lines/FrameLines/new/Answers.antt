use Rattle.std.proofs.Common.{◌≡◌, ℕ, map, ap, ◌∙◌, arith}
use Rattle.comfy_parts.specs.CellValue.{ColumnInfo, info_width}
use Rattle.comfy_table.specs.Drawing.{outer_widths}
use Rattle.comfy_table.proofs.utils.formatting.frame_lines.FrameLines.new.Goals as goal

pub returns : goal.returns
returns c =
    let widths : map (λ (p : ℕ × ColumnInfo). info_width p.1) c.as_slice-columns.result.now ≡ outer_widths c.args.infos.now =
    ap (map (λ (p : ℕ × ColumnInfo). info_width p.1)) (c.as_slice-columns.ensures.value ∙ c.in_ok-columns.ensures) in
    grind (arith, widths)
