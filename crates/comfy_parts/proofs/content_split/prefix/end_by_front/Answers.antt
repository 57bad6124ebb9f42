use Rattle.std.proofs.Common.{◌++◌, drop, ap, ◌∙◌, subst}
use Rattle.std.proofs.lemmas.List.{take-append-drop}
use Rattle.std.proofs.lemmas.Str.{IsUtf8-drop}
use Rattle.comfy_parts.specs.Following.{EndsHead}
use Rattle.comfy_parts.specs.Text.{Text}
use Rattle.comfy_parts.proofs.content_split.prefix.end_by_front.Goals as goal

pub returns-in-Some : goal.returns-in-Some
returns-in-Some c =
    let word = c.args.word.now in
    let at = c.floor_char_boundary.result in
    let joined = ap (λ (t : Text). t ++ drop at word) c.split_at.ensures.front ∙ take-append-drop at word in
    subst (λ (t : Text). EndsHead c.args.columns t c.in-Some.end) joined (c.in-Some.ensures (drop at word) (IsUtf8-drop word at c.utf8.word c.floor_char_boundary.ensures.boundary))
