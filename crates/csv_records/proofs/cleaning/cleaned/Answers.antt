use Rattle.std.proofs.Common.{sym, ◌∙◌}
use Rattle.std.proofs.lemmas.Bool.{not-true}
use Rattle.std.proofs.lemmas.Result.{IfOk-weaker}
use Rattle.csv_records.proofs.CleaningLemmas.{harmless_so}
use Rattle.csv_records.proofs.cleaning.cleaned.Goals as goal

pub returns-then-is_clean : goal.returns-then-is_clean
returns-then-is_clean c =
    IfOk-weaker c.from_str.result _ _ (λ text e. e ∙ harmless_so c.args.keeps_sequences c.args.field.now c.utf8.field (not-true _ (sym c.is_clean.ensures ∙ c.if-is_clean.true))) c.from_str.ensures.ok
