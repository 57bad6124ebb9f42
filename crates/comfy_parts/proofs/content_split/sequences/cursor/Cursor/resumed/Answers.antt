use Rattle.std.proofs.Common.{ap, ◌∙◌}
use Rattle.std.specs.List.{concat, flat_map}
use Rattle.comfy_parts.proofs.CursorLemmas.{concat-map}
use Rattle.comfy_parts.proofs.content_split.sequences.cursor.Cursor.resumed.Goals as goal

pub returns : goal.returns
returns c =
    c.in_ok-concat.ensures.ok
    ∙ ap (flat_map (λ s. s.now)) c.as_slice-sequences.ensures.value
    ∙ concat-map (λ s. s.now) c.self.inside.sequences.items
    ∙ ap (λ v. concat v.sequences) c.self.view_is
