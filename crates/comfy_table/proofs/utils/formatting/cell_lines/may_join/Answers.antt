use Rattle.std.proofs.Common.{◌≡◌, [], true, ap, sym, ◌∙◌, subst, append-nil, arith}
use Rattle.std.specs.Prelude.{length}
use Rattle.std.proofs.lemmas.List.{nil_from_length}
use Rattle.comfy_parts.proofs.CallerLemmas.{frame_apart, measure-nil}
use Rattle.comfy_parts.specs.Columns.{IsApart, is_frame_character}
use Rattle.comfy_parts.specs.Text.{measure}
use Rattle.comfy_table.proofs.utils.formatting.cell_lines.may_join.Goals as goal

pub returns-in-Some : goal.returns-in-Some
returns-in-Some c = λ adds.
    let frame : is_frame_character c.in-Some.first ≡ true = grind (arith, adds, c.adds_one_column.ensures.test) in
    subst IsApart (sym c.in-Some.ensures.steps.0 ∙ c.chars.ensures.rest) (frame_apart c.in-Some.first _ frame)

-- every text keeps its measure before an empty one
nothing_apart : IsApart []
nothing_apart text utf8 = let same = ap measure (append-nil text) in let none = measure-nil in omega (arith, same, none)

pub returns-in-None : goal.returns-in-None
returns-in-None c = λ _.
    let none : length c.args.text.now ≡ 0 = ap length (sym c.chars.ensures.rest) ∙ c.in-None.ensures.steps.0.0 in
    subst IsApart (sym (nil_from_length c.args.text.now none)) nothing_apart
