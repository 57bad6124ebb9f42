use Rattle.std.proofs.Common.{Bor, List, ap, ◌∙◌, ℕ}
use Rattle.csv_records.proofs.DelimiterLemmas.{mark_stripped}
use Rattle.csv_records.proofs.text.without_utf8_mark.Goals as goal

pub returns : goal.returns
returns c = ap (λ (t : Bor (List ℕ)). t.now) c.unwrap_or.ensures ∙ mark_stripped c.args.text c.strip_prefix.result c.strip_prefix.ensures.cases
