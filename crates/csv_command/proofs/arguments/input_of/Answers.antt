use Rattle.std.proofs.Common.{◌∙◌, not, ap}
use Rattle.std.specs.Option.{unwrap_or}
use Rattle.std.specs.Str.Parse.{ParsesUnsigned, ExplainsUnsignedError, HasUnsignedDigitsIfOk}
use Rattle.csv_command.proofs.ValueLemmas.{of_found}
use Rattle.csv_command.specs.Arguments.{encoding_for}
use Rattle.csv_command.proofs.arguments.input_of.Goals as goal

pub returns : goal.returns
returns c =
    let skip = of_found 64 _ (λ word r. ParsesUnsigned 64 10 word r × ExplainsUnsignedError 10 word r × HasUnsignedDigitsIfOk word r) (λ word r h. h.0) _ c.get_one.result c.get_one.ensures.none c.get_one.ensures.value in
    record {
      encoding = c.encoding_of.ensures ∙ ap encoding_for c.get_str.ensures;
      skip = c.unwrap_or.ensures ∙ ap (λ number. unwrap_or number 0) skip;
      delimiter = c.requires;
      header = c.has_header.ensures;
      quotes = ap not c.is_given.ensures;
    }
