use Rattle.std.proofs.Common.{refl}
use Rattle.std.specs.Str.Parse.{ParsesUnsigned, ExplainsUnsignedError, HasUnsignedDigitsIfOk}
use Rattle.csv_command.proofs.ValueLemmas.{of_found}
use Rattle.csv_command.proofs.arguments.selection_of.Goals as goal

pub returns : goal.returns
returns c =
    let limit = of_found 64 _ (λ word r. ParsesUnsigned 64 10 word r × ExplainsUnsignedError 10 word r × HasUnsignedDigitsIfOk word r) (λ word r h. h.0) _ c.get_one.result c.get_one.ensures.none c.get_one.ensures.value in
    record {
      header = c.has_header.ensures;
      limit = limit;
      numbers = c.is_given.ensures;
      noun = refl;
    }
