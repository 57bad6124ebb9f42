use Rattle.std.proofs.Common.{◌∙◌, sym, refl}
use Rattle.test_callers.proofs.uses.texts.is_sure_to_fit.Goals as goal

pub returns-then-adds_one_column : goal.returns-then-adds_one_column
returns-then-adds_one_column c is = c.lines_of_fitting_texts_fit.ensures.characters c.args.width c.args.delimiter c.args.text.now (c.if-adds_one_column.ensures.adds refl) c.utf8.text (sym c.characters_fit.ensures ∙ is)
