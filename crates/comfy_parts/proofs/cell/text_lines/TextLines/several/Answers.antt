use Rattle.std.proofs.Common.{◌≡◌, ◌==◌, [], ◌∷◌, string_bytes}
use Rattle.std.specs.List.{slice_split}
use Rattle.comfy_parts.proofs.ValueLemmas.{has_text_lines}
use Rattle.comfy_parts.specs.CellValue.{HasTextLines}
use Rattle.comfy_parts.specs.Text.{Text}
use Rattle.comfy_parts.specs.TextLines.{texts_of}
use Rattle.comfy_parts.specs.declared.cell.text_lines.Texts.{Texts}
use Rattle.comfy_parts.specs.declared.cell.text_lines.Texts.TheVariants.{Multiple, Single}
use Rattle.comfy_parts.proofs.cell.text_lines.TextLines.several.Goals as goal

uncut_lines : (text : Text) (lines : Texts) → texts_of lines ≡ slice_split (λ b. b == 0x0A) text → HasTextLines (texts_of lines)
uncut_lines text (Single line width) are = has_text_lines text (line ∷ []) are
uncut_lines text (Multiple lines widths) are = has_text_lines text lines.items are

pub returns-clause-text_lines : goal.returns-clause-text_lines
returns-clause-text_lines c =
    rw c.in_ok-new.ensures.ok (uncut_lines (string_bytes c.args.text) c.in_ok-raw.raw c.in_ok-raw.ensures.texts)
