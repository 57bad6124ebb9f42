use Rattle.std.proofs.Common.{◌≡◌, ◌<◌, ◌++◌, ◌∷◌, ◌||◌, [], ◌∙◌, ℕ, Bool, List, ap, ap₂, arith, get_or, length, map, nat_lt, sym}
use Rattle.std.specs.List.{range_with_len}
use Rattle.std.specs.Prelude.{if◌then◌else◌}
use Rattle.std.proofs.lemmas.List.FromFn.{get_or-map-range_with_len, length-map-range_with_len, map-range_with_len_more}
use Rattle.csv_tables.specs.NoWrap.{Wanted, min_width, reserved_width}
use Rattle.csv_tables.proofs.nowrap.given_contents.Goals as goal

pub loop-at-preserved : goal.loop-at-preserved
loop-at-preserved c words table is =
    let at : ℕ = c.loop-at.at in
    let wanted : Wanted = record { nowrap = c.args.nowrap.now; words = words } in
    let gives = reserved_width c.args.level wanted table in
    let long = ap length is ∙ length-map-range_with_len (min_width wanted table) 0 (length table.columns) in
    let below : at < length table.columns = omega (arith, c.loop-at-test.true, long) in
    let keeps : get_or c.args.kept.now at 0 ≡ min_width wanted table at = ap (λ (ks : List ℕ). get_or ks at 0) is ∙ get_or-map-range_with_len (min_width wanted table) 0 (length table.columns) at at 0 below (omega arith) in
    let given : c.given_content.result ≡ gives at = c.given_content.ensures ∙ ap₂ (λ (b : Bool) (k : ℕ). if b || nat_lt c.args.level k then k else 0) c.may_not_break.ensures keeps in
    c.in_ok-push.ensures.items ∙ ap₂ (λ (xs : List ℕ) (n : ℕ). xs ++ n ∷ []) (c.loop-at.invariant words table is) given ∙ sym (map-range_with_len_more gives 0 at at (omega arith))

pub returns : goal.returns
returns c words table is =
    let wanted : Wanted = record { nowrap = c.args.nowrap.now; words = words } in
    let long = ap length is ∙ length-map-range_with_len (min_width wanted table) 0 (length table.columns) in
    let same : c.loop-at.at ≡ length table.columns = omega (arith, c.loop-at-test.false, c.loop-at.auto.at-end, long) in
    c.loop-at.invariant words table is ∙ ap (λ (n : ℕ). map (reserved_width c.args.level wanted table) (range_with_len 0 n)) same
