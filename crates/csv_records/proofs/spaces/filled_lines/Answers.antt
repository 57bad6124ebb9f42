use Rattle.std.proofs.Common.{◌==◌, ap, length, lit<, not, ◌∙◌}
use Rattle.std.proofs.lemmas.Iterator.Consumers.{YieldsList-end}
use Rattle.std.proofs.lemmas.Iterator.Splits.{YieldsList-from_str_split}
use Rattle.std.specs.List.{filter}
use Rattle.std.specs.Str.Iter.{split_text, split_has_more, split_pattern}
use Rattle.csv_records.specs.Spaces.{trimmed_line}
use Rattle.csv_records.proofs.spaces.filled_lines.Goals as goal

pub returns : goal.returns
returns c =
    let same = c.into_iter-line-iterator.ensures.into_iter_gives in
    let split = c.split-line-items.ensures in
    let cut = YieldsList-from_str_split 0x0A _ (lit< tt) (ap split_text same ∙ split.text) (ap split_has_more same ∙ split.has_more) (ap split_pattern same ∙ split.pattern) in
    let all = YieldsList-end cut c.loop-line.yielded _ c.loop-line.yielded_by _ _ c.in-None.is c.next.ensures.steps in
    c.loop-line.invariant ∙ ap (filter (λ line. not (length (trimmed_line line) == 0))) all.0
