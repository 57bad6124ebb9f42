use Rattle.std.proofs.Common.{◌≡◌, length, sym, ◌∙◌, arith}
use Rattle.std.proofs.lemmas.List.{length-map, take-append-drop}
use Rattle.comfy_table.proofs.DrawnLineLemmas.{no_texts}
use Rattle.comfy_table.proofs.utils.formatting.cell_lines.with_texts.Goals as goal

pub returns : goal.returns
returns c =
    let none : length c.loop-text.text-iterator.rest.items ≡ 0 = sym c.loop-text.text-iterator.rest.ok.0 ∙ c.in-None.ensures.steps.0 in
    grind (arith, length-map, no_texts, take-append-drop, none)
