use Rattle.std.proofs.Common.{◌≡◌, ◌==◌, ◌&&◌, ℕ, length, true, false, sym, ap, ◌∙◌, rules, tests, lit<}
use Rattle.std.proofs.lemmas.Iterator.Consumers.{count_from_yields_List}
use Rattle.std.proofs.lemmas.Iterator.Search.{all_from_yields_List}
use Rattle.std.proofs.lemmas.Iterator.Splits.{YieldsList-from_str_split}
use Rattle.std.specs.List.{list_all, slice_split}
use Rattle.csv_records.specs.Number.{is_octet}
use Rattle.csv_records.proofs.number.is_address.Goals as goal

pub returns-then-count-eq4 : goal.returns-then-count-eq4
returns-then-count-eq4 c =
    let text = c.args.text.now in
    let pieces = slice_split (λ b. b == 0x2E) text in
    let split = c.split.ensures in
    let again = c.split-then-count-eq4.ensures in
    let count = count_from_yields_List _ c.count.result c.count.ensures.ran (YieldsList-from_str_split 0x2E text (lit< tt) split.text split.has_more split.pattern) in
    let four : (length pieces == 4) ≡ true = ap (λ (n : ℕ). n == 4) (sym count) ∙ search (rules, tests, c.if-count-eq4.true) in
    let each = all_from_yields_List is_octet _ _ c.all.result c.all.ensures.ran (YieldsList-from_str_split 0x2E text (lit< tt) again.text again.has_more again.pattern) (λ x b q k. search (rules, tests)) in
    each ∙ ap (λ t. t && list_all is_octet pieces) (sym four)

pub returns-else-count-eq4 : goal.returns-else-count-eq4
returns-else-count-eq4 c =
    let text = c.args.text.now in
    let pieces = slice_split (λ b. b == 0x2E) text in
    let split = c.split.ensures in
    let count = count_from_yields_List _ c.count.result c.count.ensures.ran (YieldsList-from_str_split 0x2E text (lit< tt) split.text split.has_more split.pattern) in
    let other : (c.count.result == 4) ≡ false = search (rules, tests, c.if-count-eq4.false) in
    let same : (length pieces == 4) ≡ false = ap (λ (n : ℕ). n == 4) (sym count) ∙ other in
    other ∙ ap (λ t. t && list_all is_octet pieces) (sym same)
