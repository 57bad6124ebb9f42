use Rattle.std.proofs.Common.{◌<◌, [], length, map, slice_index_or, string_bytes, ap, sym, ◌∙◌, arith}
use Rattle.std.proofs.lemmas.List.{get_or-map, length-map}
use Rattle.comfy_parts.specs.Text.{measure}
use Rattle.comfy_table.proofs.table.Table.cell_longest_line.Goals as goal

pub text_longest_line-of_text-requires : goal.text_longest_line-of_text-requires
text_longest_line-of_text-requires c =
    let at = c.loop-line.line in
    let items = c.measured_lines.result.0.now in
    let text = c.index-texts-line.result in
    let texts = map string_bytes items in
    let within : at < length items = c.loop-line-test.true in
    let among : at < length texts = omega (arith, within, length-map items string_bytes) in
    ap (λ widths. slice_index_or widths at 0) (c.measured_lines.ensures.widths ∙ ap (map measure) (sym c.measured_lines.ensures.texts))
    ∙ get_or-map measure texts at [] 0 among
    ∙ ap measure (get_or-map string_bytes items at text [] within ∙ ap string_bytes (sym c.index-texts-line.is) ∙ sym c.as_str.ensures.value)
