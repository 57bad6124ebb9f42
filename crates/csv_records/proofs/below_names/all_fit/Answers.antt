use Rattle.std.proofs.Common.{chars, rules, sym, tests, ◌∙◌}
use Rattle.std.proofs.lemmas.Iterator.{YieldsList-from_slice}
use Rattle.std.proofs.lemmas.Iterator.Search.{all_from_yields_List}
use Rattle.std.proofs.lemmas.List.Folds.{list_all-map}
use Rattle.csv_records.specs.BelowNames.{fits}
use Rattle.csv_records.proofs.below_names.all_fit.Goals as goal

pub returns : goal.returns
returns c =
    all_from_yields_List (λ line. fits c.args.starts.now (chars line.now)) _ _ c.all.result c.all.ensures.ran (YieldsList-from_slice c.args.lines.now cc) (λ x b q k. search (rules, tests))
    ∙ sym (list_all-map (λ line. fits c.args.starts.now (chars line)) (λ line. line.now) c.args.lines.now)
