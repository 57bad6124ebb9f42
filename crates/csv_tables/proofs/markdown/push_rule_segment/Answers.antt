use Rattle.std.proofs.Common.{◌++◌, lit<, string_bytes, codes, ap, ap₂, sym, ◌∙◌, append_assoc}
use Rattle.comfy_parts.proofs.CallerLemmas.{repeat_more}
use Rattle.std.specs.List.{repeat}
use Rattle.csv_tables.proofs.markdown.push_rule_segment.Goals as goal

pub loop-preserved : goal.loop-preserved
loop-preserved c =
    c.in_ok-push.ensures.bytes ∙ ap₂ (λ a b. a ++ b) c.loop.invariant (c.in_ok-push.ensures.ascii (lit< tt))
    ∙ append_assoc (string_bytes c.args.text.now) (repeat c.loop.counter (codes "-")) (codes "-") ∙ ap (λ t. string_bytes c.args.text.now ++ t) (sym (repeat_more c.loop.counter (codes "-")))
