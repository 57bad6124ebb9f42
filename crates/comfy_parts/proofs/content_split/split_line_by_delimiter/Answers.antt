use Rattle.std.proofs.Common.{◌++◌, [], ◌∙◌, map, ap, sym, append-nil}
use Rattle.comfy_parts.specs.Text.{elements}
use Rattle.comfy_parts.proofs.ElementLemmas.{elements-none}
use Rattle.comfy_parts.proofs.FollowingLemmas.{elements-around, utf8-around}
use Rattle.comfy_parts.proofs.ListLemmas.{pushed}
use Rattle.comfy_parts.proofs.content_split.split_line_by_delimiter.Goals as goal

pub loop-part-preserved : goal.loop-part-preserved
loop-part-preserved c =
    let d = c.args.delimiter in
    let rest = c.loop-part.rest.now in
    let done = c.loop-part.parts.items in
    let cut = elements-around d rest c.in-Some.part.now c.in-Some.after.now c.ranges.delimiter.0 c.loop-part.invariant.utf8 c.in-Some.ensures.cases in
    record {
      utf8 = utf8-around d rest c.in-Some.part.now c.in-Some.after.now c.loop-part.invariant.utf8 c.in-Some.ensures.cases;
      parts = pushed (λ x. x.now) done c.in-Some.part c.push.new.self.items (elements d c.in-Some.after.now) (elements d c.args.line.now) c.in_ok-push.ensures.items
          (ap (λ es. map (λ x. x.now) done ++ es) (sym cut) ∙ c.loop-part.invariant.parts);
    }

pub returns : goal.returns
returns c =
    let d = c.args.delimiter in
    let rest = c.loop-part.rest.now in
    let done = c.loop-part.parts.items in
    let last = elements-none d rest c.loop-part.invariant.utf8 c.in_default.ensures.cases in
    sym (append-nil (map (λ x. x.now) c.push-2.new.self.items))
    ∙ pushed (λ x. x.now) done c.loop-part.rest c.push-2.new.self.items [] (elements d c.args.line.now) c.in_ok-push-2.ensures.items
    (ap (λ es. map (λ x. x.now) done ++ es) (sym last) ∙ c.loop-part.invariant.parts)
