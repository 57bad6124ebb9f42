use Rattle.std.proofs.Common.{◌≡◌, ◌∷◌, ◌++◌, ◌+◌, ◌-◌, ℕ, List, [], map, string_bytes, subst, sym, ap, ◌∙◌, arith}
use Rattle.std.proofs.lemmas.List.FromFn.{map-range_with_len_more}
use Rattle.std.specs.List.{range_with_len}
use Rattle.comfy_parts.specs.Text.{Text}
use Rattle.comfy_table.proofs.OutputLemmas.{begins-before_lines, with_lines-append}
use Rattle.comfy_table.specs.DrawnCells.{filled, piece_at}
use Rattle.comfy_table.specs.Gaps.{gap_line}
use Rattle.comfy_table.specs.Output.{BeginsWith, with_lines}
use Rattle.comfy_table.proofs.utils.formatting.drawing.push_row.Goals as goal

pub returns-in_err-push_line-2-clause-err : goal.returns-in_err-push_line-2-clause-err
returns-in_err-push_line-2-clause-err g c =
    let kept_of = g.O.Output.kept_of in
    let had = g.O.Output.kept c.args.output.now in
    let new = g.O.Output.kept c.push_line-in-loop-line.new.self in
    let line : ℕ → Text = λ k. gap_line c.args.gaps.now (map (piece_at k) (filled c.args.columns.now c.args.row.now)) in
    let others = map line (range_with_len 1 (c.loop-line.line - 1)) in
    let whole : g.O.Output.kept c.loop-line.output ≡ with_lines kept_of (c.as_str.result.now ∷ others) had =
    c.loop-line.invariant ∙ ap (with_lines kept_of others) c.in_ok-push_line.ensures.ok ∙ with_lines-append kept_of (c.as_str.result.now ∷ []) others had in
    let known : BeginsWith new had =
    begins-before_lines kept_of (c.as_str.result.now ∷ others) had new
    (subst (BeginsWith new) whole c.in_err-push_line-2.ensures.err) in
    grind (arith, known)

pub loop-line-preserved : goal.loop-line-preserved
loop-line-preserved g c =
    let kept_of = g.O.Output.kept_of in
    let line : ℕ → Text = λ k. gap_line c.args.gaps.now (map (piece_at k) (filled c.args.columns.now c.args.row.now)) in
    let k = c.loop-line.line in
    let start = g.O.Output.kept c.push_line.new.self in
    let drawn : c.as_str-in-loop-line.result.now ≡ line k = c.as_str-in-loop-line.ensures.value ∙ c.in_ok-push_further_line.ensures ∙ ap (λ (t : Text). t ++ line k) c.clear.ensures.bytes in
    let next : k - 1 + 1 ≡ k + 1 - 1 = omega (arith, c.loop-line.auto.line) in
    c.in_ok-push_line-2.ensures.ok
    ∙ ap (λ (t : Text). with_lines kept_of (t ∷ []) (g.O.Output.kept c.loop-line.output)) drawn
    ∙ ap (with_lines kept_of (line k ∷ [])) c.loop-line.invariant
    ∙ with_lines-append kept_of (map line (range_with_len 1 (k - 1))) (line k ∷ []) start
    ∙ ap (λ (ls : List Text). with_lines kept_of ls start) (sym (map-range_with_len_more line 1 (k - 1) k (omega (arith, c.loop-line.auto.line))))
    ∙ ap (λ n. with_lines kept_of (map line (range_with_len 1 n)) start) next

pub returns-clause-ok : goal.returns-clause-ok
returns-clause-ok g c =
    let kept_of = g.O.Output.kept_of in
    let had = g.O.Output.kept c.args.output.now in
    let line : ℕ → Text = λ k. gap_line c.args.gaps.now (map (piece_at k) (filled c.args.columns.now c.args.row.now)) in
    let others = map line (range_with_len 1 (c.args.height - 1)) in
    let count : c.loop-line.line ≡ c.args.height = omega (arith, c.requires.height, c.loop-line-test.false, c.loop-line.auto.line-end) in
    c.loop-line.invariant
    ∙ ap (λ n. with_lines kept_of (map line (range_with_len 1 (n - 1))) (g.O.Output.kept c.push_line.new.self)) count
    ∙ ap (with_lines kept_of others) (c.in_ok-push_line.ensures.ok ∙ ap (λ (t : Text). with_lines kept_of (t ∷ []) had) c.as_str.ensures.value)
    ∙ with_lines-append kept_of (string_bytes c.args.text.now ∷ []) others had
