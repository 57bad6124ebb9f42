use Rattle.std.proofs.Common.{ap, sym, ◌∙◌, map}
use Rattle.comfy_parts.specs.Text.{begins_with}
use Rattle.comfy_parts.specs.VisibleText.{parts}
use Rattle.comfy_parts.specs.Cursor.{begins_with_sequence, visible_ahead}
use Rattle.comfy_parts.proofs.CursorLemmas.{at, begins_visible, none_ahead}
use Rattle.comfy_parts.proofs.FollowingLemmas.{stripped}
use Rattle.comfy_parts.proofs.SequenceLemmas.{begins_with_sequence as begins}
use Rattle.comfy_parts.proofs.StartLemmas.{begins_otherwise-none}
use Rattle.comfy_parts.proofs.FrontLemmas.{parts-character}
use Rattle.comfy_parts.proofs.content_split.sequences.cursor.Cursor.pass_delimiter.Goals as goal

pub returns-in_default-clause-other : goal.returns-in_default-clause-other
returns-in_default-clause-other c _ =
    let d = c.args.delimiter in
    let rest = c.self.inside.rest.now in
    let free = none_ahead rest (ap (λ v. begins_with_sequence v.ahead) c.self.view_is ∙ c.requires) in
    ap (λ v. begins_with d (visible_ahead v)) (sym c.self.view_is)
    ∙ begins_visible d rest c.self.invariant free (begins_otherwise-none d rest c.self.invariant c.in_default.ensures.cases)

pub returns-clause-passed : goal.returns-clause-passed
returns-clause-passed c _ =
    let d = c.args.delimiter in
    let rest = c.self.inside.rest.now in
    let after = c.in-Some.after.now in
    let free = none_ahead rest (ap (λ v. begins_with_sequence v.ahead) c.self.view_is ∙ c.requires) in
    let splits = stripped d rest after c.in-Some.ensures.cases in
    sym c.self.view_is
    ∙ ap (at (map (λ s. s.now) c.self.inside.sequences.items)) (ap parts splits ∙ parts-character d after (ap begins (sym splits) ∙ free))
