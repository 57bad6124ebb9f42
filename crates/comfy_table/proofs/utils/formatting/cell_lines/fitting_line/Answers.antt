use Rattle.std.proofs.Common.{◌≡◌, ◌≤◌, [], ◌∷◌, ap, sym, ◌∙◌, arith, slice_index_or, string_bytes}
use Rattle.std.specs.List.{list_any}
use Rattle.std.proofs.lemmas.Bool.{and_parts}
use Rattle.comfy_parts.specs.Text.{Text}
use Rattle.comfy_parts.specs.VisibleText.{has_escape}
use Rattle.comfy_parts.proofs.CallerLemmas.{only_one}
use Rattle.comfy_table.proofs.OneLineLemmas.{only_width, measured_line, whole_line}
use Rattle.comfy_table.specs.Lines.{cell_delimiter}
use Rattle.comfy_table.proofs.utils.formatting.cell_lines.fitting_line.Goals.{else-is_custom_styled-via-then-is_custom_styled+else-not-needs_no_rewrite, else-is_custom_styled-via-else-is_custom_styled}
use Rattle.comfy_table.proofs.utils.formatting.cell_lines.fitting_line.Goals as goal

pub returns : goal.returns
returns c =
    let custom = c.args.table.now.custom_styling in
    let info = c.args.info.now in
    let cell = c.args.cell.now in
    let w = info.content_width in
    let d = cell_delimiter c.args.table.now info.delimiter cell in
    let text = c.as_str-text.result.now in
    let columns = slice_index_or c.measured_lines.result.1.now 0 0 in
    let single : cell.text_lines ≡ text ∷ [] =
    sym c.text_lines-texts.ensures.value ∙ only_one string_bytes c.text_lines-texts.result.now c.index-texts-0.result c.if-texts-ne1.false c.index-texts-0.is ∙ ap (λ (t : Text). t ∷ []) (sym c.as_str-text.ensures.value) in
    let wide = only_width custom cell.text_lines text c.measured_lines.result.1.now single c.measured_lines.ensures.widths in
    let fits : columns ≤ w = grind arith in
    elim c.else-is_custom_styled.branch [
      | else-is_custom_styled-via-then-is_custom_styled+else-not-needs_no_rewrite b ↦
          whole_line custom w d cell text columns single wide fits (and_parts custom (list_any has_escape cell.text_lines) (sym c.is_custom_styled.ensures ∙ b.if-is_custom_styled.true)).0 (b.needs_no_rewrite.ensures b.if-not-needs_no_rewrite.false)
      | else-is_custom_styled-via-else-is_custom_styled b ↦ measured_line custom w d cell text columns single wide fits (sym c.is_custom_styled.ensures ∙ b.if-is_custom_styled.false)
    ]
