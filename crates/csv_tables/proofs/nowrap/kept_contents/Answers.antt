use Rattle.std.proofs.Common.{◌≡◌, ◌<◌, ◌++◌, ◌∷◌, [], ◌∙◌, ℕ, Bool, List, ap, ap₂, arith, get_or, length, map, max, min, nat_le, sym}
use Rattle.std.specs.List.{range_with_len}
use Rattle.std.specs.Prelude.{if◌then◌else◌}
use Rattle.std.proofs.lemmas.List.FromFn.{get_or-map-range_with_len, length-map-range_with_len, map-range_with_len_more}
use Rattle.comfy_table.specs.TableValue.{column_content_width}
use Rattle.csv_tables.specs.NoWrap.{Wanted, fields_need, kept_of_fields, kept_of_name, min_width, name_in, wide_word}
use Rattle.csv_tables.proofs.nowrap.kept_contents.Goals as goal

pub loop-at-preserved : goal.loop-at-preserved
loop-at-preserved c =
    let table = c.args.contents.now.table in
    let wanted : Wanted = record { nowrap = c.args.nowrap.now; words = c.args.words } in
    let at : ℕ = c.loop-at.at in
    let widths = c.widths-widths.result.now in
    let long = ap length c.widths-widths.ensures ∙ length-map-range_with_len (column_content_width table) 0 (length table.columns) in
    let below : at < length table.columns = omega (arith, c.loop-at-test.true, long) in
    let content : get_or widths at 0 ≡ column_content_width table at = ap (λ (ws : List ℕ). get_or ws at 0) c.widths-widths.ensures ∙ get_or-map-range_with_len (column_content_width table) 0 (length table.columns) at at 0 below (omega arith) in
    let f : Bool → ℕ → ℕ = λ b n. if nat_le n 8 then n else min n (max (kept_of_name wanted.words (wide_word table (name_in table at))) (kept_of_fields wanted.words b (min n (fields_need b table at)))) in
    let keeps : c.in_ok-kept_content.field-0 ≡ min_width wanted table at = c.in_ok-kept_content.ensures ∙ ap₂ (λ b n. f b n) c.may_not_break-is_nowrap.ensures content in
    c.in_ok-push.ensures.items ∙ ap₂ (λ (xs : List ℕ) (n : ℕ). xs ++ n ∷ []) c.loop-at.invariant keeps ∙ sym (map-range_with_len_more (min_width wanted table) 0 at at (omega arith))

pub returns : goal.returns
returns c =
    let table = c.args.contents.now.table in
    let long = ap length c.widths-widths.ensures ∙ length-map-range_with_len (column_content_width table) 0 (length table.columns) in
    let same : c.loop-at.at ≡ length table.columns = omega (arith, c.loop-at-test.false, c.loop-at.auto.at-end, long) in
    c.loop-at.invariant ∙ ap (λ (n : ℕ). map (min_width (record { nowrap = c.args.nowrap.now; words = c.args.words }) table) (range_with_len 0 n)) same
