use Rattle.std.proofs.Common.{ℕ, false, Option, ap, nat_le}
use Rattle.std.specs.Option.{option_map_or}
use Rattle.csv_records.proofs.NumeralLemmas.{read}
use Rattle.csv_command.proofs.mistakes.is_number_to.Goals as goal

pub returns-in-Ok : goal.returns-in-Ok
returns-in-Ok c = ap (λ (number : Option ℕ). option_map_or (λ n. nat_le n c.args.greatest) number false) (rw c.in-Ok.is at (read 64 c.args.word.now c.parse.result c.parse.ensures.value.0))

pub returns-in-Err : goal.returns-in-Err
returns-in-Err c = ap (λ (number : Option ℕ). option_map_or (λ n. nat_le n c.args.greatest) number false) (rw c.in-Err.is at (read 64 c.args.word.now c.parse.result c.parse.ensures.value.0))
