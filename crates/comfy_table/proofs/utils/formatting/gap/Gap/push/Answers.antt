use Rattle.std.proofs.Common.{◌≡◌, ℕ, ◌++◌, ◌+◌, ◌∙◌, ap, length, string_bytes, subst, sym, take, arith}
use Rattle.std.proofs.lemmas.List.{length-replicate}
use Rattle.std.specs.Prelude.{IsCharBoundary}
use Rattle.comfy_parts.specs.Text.{Text, spaces}
use Rattle.comfy_table.proofs.GapLemmas.{copied, first_cut, first_left, second_cut}
use Rattle.comfy_table.proofs.utils.formatting.gap.Gap.push.Goals as goal

pub split_at-requires : goal.split_at-requires
split_at-requires c =
    let n = length c.run_of_spaces-run.result.now in
    let long : n ≡ 64 = ap length c.run_of_spaces-run.ensures ∙ length-replicate {A = ℕ} 64 0x20 in
    let is : c.as_str.result.now ≡ spaces n ++ (c.args.self.now ++ spaces n) = grind (arith, long) in
    first_cut c.as_str.result.now c.args.self.now n c.args.before c.args.after is c.as_str.utf8 c.if-before-run.false c.if-after-run.false

pub split_at-requires-2 : goal.split_at-requires-2
split_at-requires-2 c =
    let n = length c.run_of_spaces-run.result.now in
    let long : n ≡ 64 = ap length c.run_of_spaces-run.ensures ∙ length-replicate {A = ℕ} 64 0x20 in
    let is : c.as_str.result.now ≡ spaces n ++ (c.args.self.now ++ spaces n) = grind (arith, long) in
    let left : c.split_at.result.1.now ≡ spaces c.args.before ++ (c.args.self.now ++ spaces n) = c.split_at.ensures.back ∙ first_left c.as_str.result.now c.args.self.now n c.args.before c.args.after is c.as_str.utf8 c.if-before-run.false c.if-after-run.false in
    let len : c.self.inside.border_len ≡ length c.args.self.now = grind arith in
    subst (λ k. IsCharBoundary c.split_at.result.1.now (c.args.before + k + c.args.after)) (sym len)
    (second_cut c.as_str.result.now c.args.self.now n c.args.before c.args.after is c.as_str.utf8 c.if-before-run.false c.if-after-run.false c.split_at.result.1.now left)

pub returns : goal.returns
returns c =
    let n = length c.run_of_spaces-run.result.now in
    let long : n ≡ 64 = ap length c.run_of_spaces-run.ensures ∙ length-replicate {A = ℕ} 64 0x20 in
    let is : c.as_str.result.now ≡ spaces n ++ (c.args.self.now ++ spaces n) = grind (arith, long) in
    let left : c.split_at.result.1.now ≡ spaces c.args.before ++ (c.args.self.now ++ spaces n) = c.split_at.ensures.back ∙ first_left c.as_str.result.now c.args.self.now n c.args.before c.args.after is c.as_str.utf8 c.if-before-run.false c.if-after-run.false in
    let len : c.self.inside.border_len ≡ length c.args.self.now = grind arith in
    let gap : c.split_at-2.result.0.now ≡ spaces c.args.before ++ (c.args.self.now ++ spaces c.args.after) =
    c.split_at-2.ensures.front ∙ ap (λ k. take (c.args.before + k + c.args.after) c.split_at.result.1.now) len ∙ copied c.as_str.result.now c.args.self.now n c.args.before c.args.after is c.as_str.utf8 c.if-before-run.false c.if-after-run.false c.split_at.result.1.now left in
    c.in_ok-push_str.ensures.bytes ∙ ap (λ (t : Text). string_bytes c.args.text.now ++ t) gap
