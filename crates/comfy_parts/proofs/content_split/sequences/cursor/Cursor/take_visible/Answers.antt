use Rattle.std.proofs.Common.{ap, sym, subst, ◌∙◌}
use Rattle.std.proofs.Math.Seq.{take-append_seam}
use Rattle.std.specs.Str.{IsCharBoundary}
use Rattle.std.proofs.lemmas.Str.{IsCharBoundary-at_seam}
use Rattle.comfy_parts.specs.Cursor.{bytes_up_to}
use Rattle.comfy_parts.proofs.CursorLemmas.{is_taken}
use Rattle.comfy_parts.proofs.content_split.sequences.cursor.Cursor.take_visible.Goals as goal

pub overflow_sub-text : goal.overflow_sub-text
overflow_sub-text c =
    let before = ap (λ v. v.ahead) (sym c.self.view_is) in
    let after = ap (λ v. v.ahead) (sym (c.self-2.view_is ∙ c.in_ok-pass_visible.ensures.passed)) in
    (is_taken c.args.bytes c.args.self.now c.self.inside.rest.now c.self-2.inside.rest.now before after).fits

pub split_at-requires : goal.split_at-requires
split_at-requires c =
    let text = c.self.inside.rest.now in
    let rest = c.self-2.inside.rest.now in
    let front = bytes_up_to c.args.bytes c.args.self.now in
    let before = ap (λ v. v.ahead) (sym c.self.view_is) in
    let after = ap (λ v. v.ahead) (sym (c.self-2.view_is ∙ c.in_ok-pass_visible.ensures.passed)) in
    let taken = is_taken c.args.bytes c.args.self.now text rest before after in
    subst (IsCharBoundary text) (sym taken.place) (IsCharBoundary-at_seam text front rest taken.joined c.self-2.invariant)

pub returns-clause-taken : goal.returns-clause-taken
returns-clause-taken c =
    let text = c.self.inside.rest.now in
    let rest = c.self-2.inside.rest.now in
    let front = bytes_up_to c.args.bytes c.args.self.now in
    let before = ap (λ v. v.ahead) (sym c.self.view_is) in
    let after = ap (λ v. v.ahead) (sym (c.self-2.view_is ∙ c.in_ok-pass_visible.ensures.passed)) in
    let taken = is_taken c.args.bytes c.args.self.now text rest before after in
    rw (c.split_at.ensures.front, taken.place, taken.joined) (take-append_seam front rest)
