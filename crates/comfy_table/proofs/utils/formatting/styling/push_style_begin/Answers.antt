use Rattle.std.proofs.Common.{rules, ◌≡◌, ◌++◌, ℕ, List, Option, append_assoc, refl}
use Rattle.std.proofs.lemmas.Result.{on_ok_weaker}
use Rattle.std.specs.Prelude.{Result, OnOk, codes}
use Rattle.comfy_parts.specs.declared.style.color.Color.{Color}
use Rattle.comfy_table.specs.ColorSequences.{color_sequence}
use Rattle.comfy_table.specs.Styling.{background_code, foreground_code, optional_sequence}
use Rattle.comfy_table.proofs.utils.formatting.styling.push_style_begin.Goals as goal

-- three texts that are appended in turn
appended : {T E : Type 0}
    (last : Result T E) (line one two three s t u s2 t2 u2 : List ℕ)
    → one ≡ line ++ s → two ≡ one ++ t → OnOk last (three ≡ two ++ u)
    → s ≡ s2 → t ≡ t2 → u ≡ u2
    → OnOk last (three ≡ line ++ (s2 ++ (t2 ++ u2)))
appended last line one two three s t u s2 t2 u2 e1 e2 e3 es et eu =
    on_ok_weaker last (λ e. cc (e, append_assoc (line ++ s2) t2 u2, append_assoc line s2 (t2 ++ u2))) e3

background : (color : Option Color) → color_sequence (codes "\u{1b}[48;") (codes "\u{1b}[49m") color ≡ optional_sequence background_code color
background color = search rules

foreground : (color : Option Color) → color_sequence (codes "\u{1b}[38;") (codes "\u{1b}[39m") color ≡ optional_sequence foreground_code color
foreground color = search rules

pub returns : goal.returns
returns c =
    appended _ _ _ _ _ _ _ _ _ _ _ c.in_ok-push_color.ensures c.in_ok-push_color-2.ensures c.push_attributes.ensures
    (background c.args.style.now.background)
    (foreground c.args.style.now.foreground)
    refl
