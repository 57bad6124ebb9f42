-- Lines that are made from borders and pieces, one after another.
use Rattle.std.proofs.Common.{◌≡◌, ℕ, Bool, List, [], ◌++◌, Option, map, ap, ◌∙◌, sym, append_assoc}
use Rattle.std.specs.List.{join_by}
use Rattle.std.specs.Prelude.{if◌then◌else◌}
use Rattle.comfy_parts.specs.Text.{Text}
use Rattle.comfy_parts.specs.declared.style.table_style.TableStyle.{TableStyle}
use Rattle.comfy_parts.proofs.CallerLemmas.{join_by-map}
use Rattle.comfy_table.specs.Frame.{character, draws_left_border, draws_right_border, draws_vertical_lines, between_borders}

-- appending the left border, the pieces with junctions between them, and the right border to a text appends the line
pub between_borders-after : {X : Type 0} (style : TableStyle) (left junction right : Option ℕ) (f : X → Text) (xs : List X) (l v r : Bool) (start before inside whole : Text)
    → l ≡ draws_left_border style → v ≡ draws_vertical_lines style → r ≡ draws_right_border style
    → before ≡ start ++ (if l then character left else [])
    → inside ≡ before ++ join_by f (if v then character junction else []) xs
    → whole ≡ inside ++ (if r then character right else [])
    → whole ≡ start ++ between_borders style left junction right (map f xs)
between_borders-after {X} style left junction right f xs l v r start before inside whole el ev er first second third =
    third
    ∙ ap (λ (t : Text). t ++ (if r then character right else [])) second
    ∙ append_assoc before (join_by f (if v then character junction else []) xs) (if r then character right else [])
    ∙ ap (λ (t : Text). t ++ (join_by f (if v then character junction else []) xs ++ (if r then character right else []))) first
    ∙ append_assoc start (if l then character left else []) (join_by f (if v then character junction else []) xs ++ (if r then character right else []))
    ∙ (λ i. start ++ ((if el i then character left else []) ++ (join_by f (if ev i then character junction else []) xs ++ (if er i then character right else []))))
    ∙ ap (λ (t : Text). start ++ ((if draws_left_border style then character left else []) ++ (t ++ (if draws_right_border style then character right else [])))) (sym (join_by-map (λ (p : Text). p) f (if draws_vertical_lines style then character junction else []) xs))
