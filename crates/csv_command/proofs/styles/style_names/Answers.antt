use Rattle.std.proofs.Common.{◌≡◌, ◌++◌, List, ap, ap₂, map, rules, sym, ◌∙◌}
use Rattle.std.proofs.lemmas.List.{map-append}
use Rattle.std.proofs.lemmas.Simd.{map-map}
use Rattle.std.specs.Borrow.{Bor}
use Rattle.comfy_parts.specs.Text.{Text}
use Rattle.comfy_parts.specs.declared.style.table_style.TableStyle.{TableStyle}
use Rattle.csv_command.proofs.styles.style_names.Goals as goal

pub returns : goal.returns
returns c =
    let own = c.in_ok-names.ensures ∙ sym (map-map (λ (entry : Text × TableStyle). entry.0) (λ (entry : Bor Text × TableStyle). (entry.0.now, entry.1)) c.own_styles.result) ∙ ap (map (λ entry. entry.0)) c.own_styles.ensures in
    let items : c.extend_from_slice.new.self.items ≡ c.in_ok-names.names.items ++ c.in_ok-names_of.field-0.items = search rules in
    ap (map (λ (name : Bor Text). name.now)) items ∙ map-append (λ (name : Bor Text). name.now) _ _ ∙ ap₂ (λ (xs ys : List Text). xs ++ ys) own c.in_ok-names_of.ensures
