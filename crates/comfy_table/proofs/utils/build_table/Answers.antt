use Rattle.std.proofs.Common.{◌≡◌, ◌∷◌, [], ap, subst, sym, ◌∙◌, map, rules}
use Rattle.std.specs.List.{All}
use Rattle.std.specs.Prelude.{string_bytes}
use Rattle.std.proofs.lemmas.List.Elements.{All-map}
use Rattle.std.proofs.lemmas.Str.{IsUtf8-string_bytes}
use Rattle.std.specs.Str.{IsUtf8}
use Rattle.comfy_parts.proofs.CallerLemmas.{All-every}
use Rattle.comfy_table.proofs.OutputLemmas.{with_lines-listed}
use Rattle.comfy_table.specs.Arrangement.{IsDrawingOf}
use Rattle.comfy_table.specs.Headline.{IsTableDrawing}
use Rattle.comfy_table.specs.Output.{with_lines}
use Rattle.comfy_table.proofs.utils.build_table.Goals as goal

-- the lines are those that were drawn
lines_are : (c : goal.After-new) → c.new.result ≡ c.in_ok-draw.ensures.0
lines_are c =
    let lines = c.in_ok-draw.ensures.0 in
    let none : map string_bytes c.new-lines.result.items ≡ [] = search rules in
    c.new.ensures
    ∙ c.in_ok-draw.ensures.2
    ∙ ap (with_lines (λ line. line ∷ []) lines) none
    ∙ with_lines-listed lines

pub returns-clause-drawing : goal.returns-clause-drawing
returns-clause-drawing c =
    let drawn = c.in_ok-draw.ensures in
    subst (IsDrawingOf c.args.table.now) (sym (lines_are c)) (drawn.1.widths, drawn.1.arranged, drawn.1.drawn)

pub returns-clause-headline : goal.returns-clause-headline
returns-clause-headline c =
    subst (IsTableDrawing c.args.table.now) (sym (lines_are c)) c.in_ok-draw.ensures.1

-- each line is a text
pub returns-clause-characters : goal.returns-clause-characters
returns-clause-characters c =
    let texts = c.draw.new.output.items in
    subst (All IsUtf8) (sym c.new.ensures) (All-map IsUtf8 string_bytes texts (All-every (λ text. IsUtf8 (string_bytes text)) texts (λ text. IsUtf8-string_bytes text)))
