use Rattle.std.proofs.Common.{◌∙◌, ap, not, refl}
use Rattle.std.specs.Str.Parse.{ParsesUnsigned, ExplainsUnsignedError, HasUnsignedDigitsIfOk}
use Rattle.csv_command.proofs.ValueLemmas.{of_found}
use Rattle.csv_command.specs.Styles.{style_for}
use Rattle.csv_command.specs.Arguments.{expansion_for, is_bold_for, separators_for, width_for}
use Rattle.csv_command.proofs.arguments.look_of.Goals as goal

pub returns : goal.returns
returns c =
    let width = of_found 16 _ (λ word r. ParsesUnsigned 16 10 word r × ExplainsUnsignedError 10 word r × HasUnsignedDigitsIfOk word r) (λ word r h. h.0) _ c.get_one.result c.get_one.ensures.none c.get_one.ensures.value in
    let height = of_found 64 _ (λ word r. ParsesUnsigned 64 10 word r × ExplainsUnsignedError 10 word r × HasUnsignedDigitsIfOk word r) (λ word r h. h.0) _ c.get_one-2.result c.get_one-2.ensures.none c.get_one-2.ensures.value in
    record {
      style = c.style_of.ensures ∙ ap style_for c.get_str-style.ensures;
      separators = c.separators_of.ensures ∙ ap (separators_for c.is_given_last.result c.is_given.result) c.get_str-style.ensures ∙ rw (c.is_given_last.ensures, c.is_given.ensures) refl;
      expansion = c.expansion_of.ensures ∙ ap (λ word. expansion_for c.is_given_last-2.result word) c.get_str.ensures ∙ rw c.is_given_last-2.ensures refl;
      width = c.width_of.ensures ∙ ap (λ number. width_for number c.args.context) width;
      full = c.is_given-2.ensures;
      height = height;
      bold = c.is_bold.ensures ∙ ap (λ word. is_bold_for word c.args.context) c.get_str-2.ensures;
      decimals = ap not c.is_given-3.ensures;
      sequences = c.is_given-4.ensures;
      markdown = c.is_markdown.ensures;
    }
