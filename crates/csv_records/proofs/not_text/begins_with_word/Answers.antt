use Rattle.std.proofs.Common.{◌≡◌, ◌↔◌, ◌∙◌, Bool, ap₂, length, map, rules, take, tests}
use Rattle.std.proofs.lemmas.List.{take_min}
use Rattle.std.specs.Prelude.{IsTrue}
use Rattle.std.specs.Char.{to_ascii_lowercase}
use Rattle.comfy_parts.specs.Text.{Text}
use Rattle.csv_records.specs.Number.{is_word}
use Rattle.csv_records.proofs.not_text.begins_with_word.Goals as goal

same_word : (r : Bool) (a b : Text) → (IsTrue r ↔ (map to_ascii_lowercase a ≡ map to_ascii_lowercase b)) → r ≡ is_word b a
same_word r a b h = search (rules, tests)

pub returns : goal.returns
returns c =
    let front : take c.min.result c.args.bytes.now ≡ take (length c.args.word.now) c.args.bytes.now = search (rules, take_min) in
    same_word _ _ _ c.eq_ignore_ascii_case.ensures.test ∙ ap₂ is_word c.as_bytes.ensures.value front
