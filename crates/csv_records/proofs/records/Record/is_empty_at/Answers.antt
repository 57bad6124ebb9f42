use Rattle.std.proofs.Common.{◌≡◌, ◌<◌, ◌==◌, ◌∙◌, ℕ, zero, suc, List, [], ◌∷◌, None, Some, ap, arith, get_or, length, refl, rules}
use Rattle.comfy_parts.specs.Text.{Text}
use Rattle.csv.specs.Records.{field_at}
use Rattle.csv_records.proofs.records.Record.is_empty_at.Goals as goal

there : (fields : List Text) (i : ℕ) → i < length fields → field_at fields i ≡ Some (get_or fields i [])
unfolding field_at
there [] i less = absurd (omega (arith, less))
there (f ∷ fs) zero less = refl
there (f ∷ fs) (suc i) less = there fs i (omega (arith, less))

pub returns-in-Some : goal.returns-in-Some
returns-in-Some c =
    let found : Some c.in-Some.field.now ≡ field_at c.args.self.now c.args.position = search rules in
    let same : Some c.in-Some.field.now ≡ Some (get_or c.args.self.now c.args.position []) = found ∙ there c.args.self.now c.args.position c.requires in
    let field : c.in-Some.field.now ≡ get_or c.args.self.now c.args.position [] = cc same in
    c.is_empty.ensures ∙ ap (λ (f : Text). length f == 0) field

pub returns-in-None : goal.returns-in-None
returns-in-None c =
    let found : None ≡ field_at c.args.self.now c.args.position = search rules in
    let same : None ≡ Some (get_or c.args.self.now c.args.position []) = found ∙ there c.args.self.now c.args.position c.requires in
    absurd (cc same)
