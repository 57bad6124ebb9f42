use Rattle.std.proofs.Common.{◌≡◌, ◌≤◌, ◌∙◌, All, Bool, List, ℕ, Some, ap, ap₂, arith, false, nat_le, rules, subst, sym, true}
use Rattle.comfy_table.specs.TableValue.{TableValue, constrained}
use Rattle.csv_tables.proofs.LimitLemmas.{given_within_room, most-room, room-is, widths_with_room, widths_without_room}
use Rattle.csv_tables.proofs.NoWrapLemmas.{most_nowrap}
use Rattle.csv_tables.specs.Drawn.{least_words, nowrap_in, wanted_in}
use Rattle.csv_tables.specs.Limits.{bounded_width, given_with, has_room_within, level_within, limits_for, most_within}
use Rattle.csv_tables.specs.NoWrap.{Wanted, by_columns, least_width, min_width, reserved_width}
use Rattle.csv_tables.specs.declared.needs.Words.{Words}
use Rattle.csv_tables.proofs.nowrap.keep_within.Goals as goal

-- the columns and words that are kept whole
abbrev made : List Bool → Words → Wanted
made nowrap words = record { nowrap = nowrap; words = words }

pub limits_for-requires : goal.limits_for-requires
limits_for-requires c = λ none.
    let width = c.args.width in
    let limits = c.args.limits.now in
    let contents = c.args.contents.now in
    let table : TableValue = contents.table in
    let look = contents.rows.look in
    let wanted : Wanted = wanted_in look contents.rows.selected in
    let kept_by : Wanted → List ℕ = λ u. by_columns (min_width u table) table in
    let own : c.in_ok-nowrap.nowrap.items ≡ nowrap_in contents.rows.selected = search rules in
    let words : c.least_words-words.result ≡ least_words look.max_height = search rules in
    let same : made c.as_slice.result.now c.least_words-words.result ≡ wanted = ap₂ made (c.as_slice.ensures.value ∙ own) words in
    let least : c.in_ok-least.least.items ≡ kept_by wanted = c.in_ok-least.ensures ∙ ap kept_by same in
    let test : c.fits.result ≡ has_room_within limits (Some width) wanted table = c.fits.ensures wanted (c.as_slice-2.ensures.value ∙ least) ∙ room-is limits width wanted table in
    let room : has_room_within limits (Some width) wanted table ≡ true = sym test ∙ c.if-not-fits.false in
    let third : made c.as_slice-3.result.now c.least_words-words.result ≡ wanted = ap₂ made (c.as_slice-3.ensures.value ∙ own) words in
    let most : Wanted = most_within limits width wanted table in
    let kept : c.in_ok-kept.kept.items ≡ kept_by most =
    c.in_ok-kept.ensures c.least_words-words.result (least ∙ sym (ap kept_by third)) ∙ ap (λ (u : Wanted). kept_by (most_within limits width u table)) third in
    let sixth : made c.as_slice-6.result.now most.words ≡ most =
    ap (λ (n : List Bool). made n most.words) (c.as_slice-6.ensures.value ∙ own ∙ sym (most_nowrap (λ (level : ℕ) (u : Wanted). nat_le (bounded_width limits level u table) width) width wanted)) in
    let given : c.in_ok-given.given.items ≡ by_columns (reserved_width c.level_within-level.result most table) table =
    c.in_ok-given.ensures most.words table (c.as_slice-5.ensures.value ∙ kept ∙ sym (ap kept_by sixth)) ∙ ap (λ (u : Wanted). by_columns (reserved_width c.level_within-level.result u table) table) sixth in
    let fits = most-room limits width wanted table room in
    let bare : bounded_width limits 8 most table ≡ least_width most table = ap (λ l. bounded_width l 8 most table) none in
    subst (All (λ content. content ≤ 65533)) (sym (c.as_slice-7.ensures.value ∙ given)) (given_within_room c.level_within-level.result most table (omega (arith, fits, bare)))

pub returns-then-not-fits-clause-contents : goal.returns-then-not-fits-clause-contents
returns-then-not-fits-clause-contents c =
    let width = c.args.width in
    let limits = c.args.limits.now in
    let contents = c.args.contents.now in
    let table : TableValue = contents.table in
    let look = contents.rows.look in
    let wanted : Wanted = wanted_in look contents.rows.selected in
    let kept_by : Wanted → List ℕ = λ u. by_columns (min_width u table) table in
    let own : c.in_ok-nowrap.nowrap.items ≡ nowrap_in contents.rows.selected = search rules in
    let words : c.least_words-words.result ≡ least_words look.max_height = search rules in
    let same : made c.as_slice.result.now c.least_words-words.result ≡ wanted = ap₂ made (c.as_slice.ensures.value ∙ own) words in
    let least : c.in_ok-least.least.items ≡ kept_by wanted = c.in_ok-least.ensures ∙ ap kept_by same in
    let test : c.fits.result ≡ has_room_within limits (Some width) wanted table = c.fits.ensures wanted (c.as_slice-2.ensures.value ∙ least) ∙ room-is limits width wanted table in
    let room : has_room_within limits (Some width) wanted table ≡ false = sym test ∙ c.if-not-fits.true in
    c.in_ok-keep_nothing.ensures ∙ ap (λ (t : TableValue). record contents { table = t }) (sym (widths_without_room limits width wanted table room))

pub returns-then-not-fits-clause-has_room : goal.returns-then-not-fits-clause-has_room
returns-then-not-fits-clause-has_room c =
    let width = c.args.width in
    let limits = c.args.limits.now in
    let contents = c.args.contents.now in
    let table : TableValue = contents.table in
    let look = contents.rows.look in
    let wanted : Wanted = wanted_in look contents.rows.selected in
    let kept_by : Wanted → List ℕ = λ u. by_columns (min_width u table) table in
    let own : c.in_ok-nowrap.nowrap.items ≡ nowrap_in contents.rows.selected = search rules in
    let words : c.least_words-words.result ≡ least_words look.max_height = search rules in
    let same : made c.as_slice.result.now c.least_words-words.result ≡ wanted = ap₂ made (c.as_slice.ensures.value ∙ own) words in
    let least : c.in_ok-least.least.items ≡ kept_by wanted = c.in_ok-least.ensures ∙ ap kept_by same in
    let test : c.fits.result ≡ has_room_within limits (Some width) wanted table = c.fits.ensures wanted (c.as_slice-2.ensures.value ∙ least) ∙ room-is limits width wanted table in
    sym (sym test ∙ c.if-not-fits.true)

pub returns-clause-contents : goal.returns-clause-contents
returns-clause-contents c =
    let width = c.args.width in
    let limits = c.args.limits.now in
    let contents = c.args.contents.now in
    let table : TableValue = contents.table in
    let look = contents.rows.look in
    let wanted : Wanted = wanted_in look contents.rows.selected in
    let kept_by : Wanted → List ℕ = λ u. by_columns (min_width u table) table in
    let own : c.in_ok-nowrap.nowrap.items ≡ nowrap_in contents.rows.selected = search rules in
    let words : c.least_words-words.result ≡ least_words look.max_height = search rules in
    let same : made c.as_slice.result.now c.least_words-words.result ≡ wanted = ap₂ made (c.as_slice.ensures.value ∙ own) words in
    let least : c.in_ok-least.least.items ≡ kept_by wanted = c.in_ok-least.ensures ∙ ap kept_by same in
    let test : c.fits.result ≡ has_room_within limits (Some width) wanted table = c.fits.ensures wanted (c.as_slice-2.ensures.value ∙ least) ∙ room-is limits width wanted table in
    let room : has_room_within limits (Some width) wanted table ≡ true = sym test ∙ c.if-not-fits.false in
    let third : made c.as_slice-3.result.now c.least_words-words.result ≡ wanted = ap₂ made (c.as_slice-3.ensures.value ∙ own) words in
    let most : Wanted = most_within limits width wanted table in
    let kept : c.in_ok-kept.kept.items ≡ kept_by most =
    c.in_ok-kept.ensures c.least_words-words.result (least ∙ sym (ap kept_by third)) ∙ ap (λ (u : Wanted). kept_by (most_within limits width u table)) third in
    let sixth : made c.as_slice-6.result.now most.words ≡ most =
    ap (λ (n : List Bool). made n most.words) (c.as_slice-6.ensures.value ∙ own ∙ sym (most_nowrap (λ (level : ℕ) (u : Wanted). nat_le (bounded_width limits level u table) width) width wanted)) in
    let given : c.in_ok-given.given.items ≡ by_columns (reserved_width c.level_within-level.result most table) table =
    c.in_ok-given.ensures most.words table (c.as_slice-5.ensures.value ∙ kept ∙ sym (ap kept_by sixth)) ∙ ap (λ (u : Wanted). by_columns (reserved_width c.level_within-level.result u table) table) sixth in
    let level : c.level_within-level.result ≡ level_within limits width most table = c.level_within-level.ensures most (c.as_slice-4.ensures.value ∙ kept) in
    let all : c.in_ok-given.given.items ≡ given_with limits width most table = given ∙ ap (λ (l : ℕ). by_columns (reserved_width l most table) table) level in
    c.constrain_contents.ensures
    ∙ ap (λ cs. record contents { table = record table { columns = constrained cs table.columns } }) (c.in_ok-constraints.ensures ∙ ap (limits_for limits) (c.as_slice-7.ensures.value ∙ all))
    ∙ ap (λ (t : TableValue). record contents { table = t }) (sym (widths_with_room limits width wanted table room))

pub returns-clause-has_room : goal.returns-clause-has_room
returns-clause-has_room c =
    let width = c.args.width in
    let limits = c.args.limits.now in
    let contents = c.args.contents.now in
    let table : TableValue = contents.table in
    let look = contents.rows.look in
    let wanted : Wanted = wanted_in look contents.rows.selected in
    let kept_by : Wanted → List ℕ = λ u. by_columns (min_width u table) table in
    let own : c.in_ok-nowrap.nowrap.items ≡ nowrap_in contents.rows.selected = search rules in
    let words : c.least_words-words.result ≡ least_words look.max_height = search rules in
    let same : made c.as_slice.result.now c.least_words-words.result ≡ wanted = ap₂ made (c.as_slice.ensures.value ∙ own) words in
    let least : c.in_ok-least.least.items ≡ kept_by wanted = c.in_ok-least.ensures ∙ ap kept_by same in
    let test : c.fits.result ≡ has_room_within limits (Some width) wanted table = c.fits.ensures wanted (c.as_slice-2.ensures.value ∙ least) ∙ room-is limits width wanted table in
    sym (sym test ∙ c.if-not-fits.false)
