use Rattle.std.proofs.Common.{List, nat_lt, rules, tests}
use Rattle.std.proofs.lemmas.Iterator.Consumers.{YieldsList-from_first}
use Rattle.std.proofs.lemmas.Iterator.Search.{position_from_yields_List}
use Rattle.comfy_parts.specs.Text.{Text}
use Rattle.csv_records.specs.Longer.{filled_len}
use Rattle.csv_records.proofs.longer.first_longer.Goals as goal

pub returns : goal.returns
returns c =
    position_from_yields_List (λ (fields : List Text). nat_lt c.args.most (filled_len fields)) _ _ c.position.result c.position.ensures.ran (YieldsList-from_first (λ r. r) (λ rows. rows) c.args.records.now c.iter.ensures)
    (λ x b q k. search (rules, tests))
