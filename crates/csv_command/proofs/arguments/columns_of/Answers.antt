use Rattle.std.proofs.Common.{◌∙◌, ap}
use Rattle.csv_command.specs.Arguments.{words_in}
use Rattle.csv_command.proofs.arguments.columns_of.Goals as goal

pub returns : goal.returns
returns c =
    record {
      chosen = c.in_ok-words_of.ensures ∙ ap words_in c.get_str.ensures;
      dropped = c.in_ok-words_of-2.ensures ∙ ap words_in c.get_str-2.ensures;
      right = c.in_ok-words_of-3.ensures ∙ ap words_in c.get_str-3.ensures;
      left = c.in_ok-words_of-4.ensures ∙ ap words_in c.get_str-4.ensures;
    }
