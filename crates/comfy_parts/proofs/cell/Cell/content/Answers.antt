use Rattle.std.proofs.Common.{◌≡◌, ◌∷◌, ◌++◌, List, [], ℕ, map, refl, ◌∙◌, ap, rules, string_bytes}
use Rattle.std.specs.List.{flat_map, join_by, join_with_byte}
use Rattle.comfy_parts.proofs.cell.Cell.content.Goals as goal

-- the first text, and each other text with a line feed before it
joined : {A : Type 0} (f : A → List ℕ) (x : A) (xs : List A) → f x ++ flat_map (λ s. 10 ∷ f s) xs ≡ join_with_byte 10 (f x ∷ map f xs)
joined f x [] = search rules
joined f x (y ∷ ys) = ap (λ t. f x ++ 10 ∷ t) (joined f y ys)

lines_joined : {A : Type 0} (f : A → List ℕ) (xs : List A) → join_by f (10 ∷ []) xs ≡ join_with_byte 10 (map f xs)
lines_joined f [] = refl
lines_joined f (x ∷ xs) = joined f x xs

pub returns : goal.returns
returns c =
    c.in_ok-join.ensures.ok ∙ lines_joined string_bytes c.text_lines.result.now ∙ ap (join_with_byte 10) c.text_lines.ensures.value
