use Rattle.std.proofs.Common.{List, nat_lt, rules, tests, ◌∙◌}
use Rattle.std.proofs.lemmas.Iterator.Consumers.{YieldsList-at, YieldsList-from_filter, YieldsList-from_first, count_from_yields_List}
use Rattle.std.proofs.lemmas.List.Sums.{length-filter}
use Rattle.comfy_parts.specs.Text.{Text}
use Rattle.csv_records.specs.Longer.{filled_len}
use Rattle.csv_records.proofs.longer.count_longer.Goals as goal

pub returns : goal.returns
returns c =
    let test = λ (fields : List Text). nat_lt c.args.most (filled_len fields) in
    count_from_yields_List _ _ c.count.ensures.ran
    (YieldsList-from_filter _ test (YieldsList-at c.filter.ensures.source (YieldsList-from_first (λ r. r) (λ rows. rows) c.args.records.now c.iter.ensures)) c.filter.ensures.closure (λ x b q k. search (rules, tests)))
    ∙ length-filter test c.args.records.now
