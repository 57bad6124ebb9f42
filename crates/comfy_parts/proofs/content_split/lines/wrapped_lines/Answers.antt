use Rattle.std.proofs.Common.{◌≡◌, List, ℕ, ap, sym, subst, ◌∙◌}
use Rattle.std.specs.Char.{IsScalar}
use Rattle.std.specs.Prelude.{IsUtf8}
use Rattle.comfy_parts.specs.Text.{Text}
use Rattle.comfy_parts.specs.Wrapping.{IsWrapped, wrapped}
use Rattle.comfy_parts.proofs.WrappedLemmas.{wrapped_is_wrapped}
use Rattle.comfy_parts.proofs.content_split.lines.wrapped_lines.Goals as goal

-- the lines are wrapped also at a width with another name
wrapped_at : (w n d : ℕ) (text : Text) (lines : List Text) → IsScalar d → IsUtf8 text → n ≡ w → lines ≡ wrapped n d text → IsWrapped w d text lines
wrapped_at w n d text lines scalar utf8 width are = subst (IsWrapped w d text) (sym (are ∙ ap (λ n. wrapped n d text) width)) (wrapped_is_wrapped w d text scalar utf8)

pub returns-clause-slices : goal.returns-clause-slices
returns-clause-slices c = wrapped_at _ _ _ _ _ c.ranges.delimiter.0 c.utf8.line (c.from-width.ensures ∙ ap (λ i. i.content_width) c.info.view_is) c.lines_after.ensures

pub returns-then-is_printable-clause-slices : goal.returns-then-is_printable-clause-slices
returns-then-is_printable-clause-slices c = wrapped_at _ _ _ _ _ c.ranges.delimiter.0 c.utf8.line (c.from-width.ensures ∙ ap (λ i. i.content_width) c.info.view_is) c.printable_lines.ensures
