use Rattle.std.proofs.Common.{◌≡◌, ◌↔◌, ◌-◌, ◌∙◌, ℕ, Bool, ap₂, arith, drop, length, map, rules, take, tests}
use Rattle.std.proofs.lemmas.Grind.{common_steps}
use Rattle.std.specs.Prelude.{IsTrue}
use Rattle.std.specs.Char.{to_ascii_lowercase}
use Rattle.std.specs.Str.{str_eq_ignore_ascii_case}
use Rattle.comfy_parts.specs.Text.{Text}
use Rattle.csv_command.proofs.arguments.has_end.Goals as goal

same_letters : (r : Bool) (a b : Text) → (IsTrue r ↔ (map to_ascii_lowercase a ≡ map to_ascii_lowercase b)) → r ≡ str_eq_ignore_ascii_case a b
same_letters r a b h = search (rules, tests)

whole_rest : (xs : Text) (k : ℕ) → take (length xs - k) (drop k xs) ≡ drop k xs
whole_rest xs k = grind (arith, common_steps)

pub returns : goal.returns
returns c =
    let path : c.as_bytes-bytes.result.now ≡ c.args.path.now = c.as_bytes-bytes.ensures.value in
    let end : c.as_bytes.result.now ≡ c.args.end.now = c.as_bytes.ensures.value in
    let at : c.saturating_sub.result ≡ length c.args.path.now - length c.args.end.now = search rules in
    same_letters _ _ _ c.eq_ignore_ascii_case.ensures.test ∙ ap₂ str_eq_ignore_ascii_case (whole_rest c.as_bytes-bytes.result.now c.saturating_sub.result ∙ ap₂ drop at path) end
