use Rattle.std.proofs.Common.{ℕ, List, Bor, ◌++◌, map, arith, ap, ◌∙◌, refl, sym, append-nil}
use Rattle.std.proofs.lemmas.List.Sums.{sum_by_push}
use Rattle.std.proofs.Math.Seq.{take-length}
use Rattle.std.proofs.lemmas.Str.{IsCharBoundary-end}
use Rattle.comfy_parts.specs.Text.{measure}
use Rattle.comfy_parts.proofs.ClusterLemmas.{first-wide, head-all, sum_by-shown, shown}
use Rattle.comfy_parts.proofs.ListLemmas.{pushed}
use Rattle.unicode_segmentation.specs.Iter.{grapheme_indices_left}
use Rattle.comfy_parts.proofs.content_split.prefix.first_wide_cluster.Goals as goal

pub returns-then-width-left-clause-some : goal.returns-then-width-left-clause-some
returns-then-width-left-clause-some c =
    let done = map shown c.loop-at.yielded in
    let sums = sum_by-shown c.loop-at.yielded in
    let place = ap (λ t. done ++ t) (sym c.in-Some.ensures.steps) ∙ c.loop-at.invariant.rest in
    first-wide c.args.columns c.args.text.now done (c.in-Some.at, c.in-Some.cluster.now) _ _ c.utf8.text place (omega arith) (omega (arith, c.width-width.ensures)) (omega arith)

pub returns-clause-none : goal.returns-clause-none
returns-clause-none c _ =
    let text = c.args.text.now in
    let done = map shown c.loop-at.yielded in
    let sums = sum_by-shown c.loop-at.yielded in
    let all = head-all c.args.columns text done c.utf8.text (sym (append-nil done) ∙ ap (λ t. done ++ t) (sym c.in-None.ensures.steps.0) ∙ c.loop-at.invariant.rest) (omega arith) in
    record { boundary = IsCharBoundary-end text; head_is = take-length text ∙ all }

pub loop-at-preserved : goal.loop-at-preserved
loop-at-preserved c =
    let x : ℕ × Bor (List ℕ) = (c.in-Some.at, c.in-Some.cluster) in
    let more = sum_by_push (λ (y : ℕ × Bor (List ℕ)). measure y.1.now) c.loop-at.yielded x in
    record {
      left = omega (arith, more, c.width-width.ensures, c.loop-at.invariant.left);
      rest = pushed shown c.loop-at.yielded x _ (grapheme_indices_left c.next.new.self) _ refl (ap (λ t. map shown c.loop-at.yielded ++ t) (sym c.in-Some.ensures.steps) ∙ c.loop-at.invariant.rest);
    }
