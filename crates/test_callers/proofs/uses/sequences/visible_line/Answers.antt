use Rattle.std.proofs.Common.{◌<◌, Some, ap, arith, length, option_map, slice_get, string_bytes, sym, ◌∙◌}
use Rattle.comfy_parts.specs.VisibleText.{visible_text}
use Rattle.std.proofs.lemmas.List.{length-map}
use Rattle.std.proofs.lemmas.Option.{slice_get-get_or, slice_get-map}
use Rattle.test_callers.proofs.uses.sequences.visible_line.Goals as goal

pub returns : goal.returns
returns c =
    let shown = c.measured_lines.result.0.now in
    let position = c.args.position in
    let same = c.measured_lines.ensures.texts in
    let inside : position < length shown = omega (arith, c.requires, ap length same, length-map shown string_bytes, length-map c.args.cell.now.text_lines visible_text) in
    ap (λ texts. slice_get texts position) (sym same) ∙ slice_get-map string_bytes shown position ∙ ap (option_map string_bytes) (slice_get-get_or shown position _ inside ∙ ap Some (sym c.index-texts-position.is)) ∙ ap Some (sym c.as_str.ensures.value ∙ sym c.in_ok-from_str.ensures.ok)
