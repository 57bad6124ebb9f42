use Rattle.std.proofs.Common.{◌≡◌, ◌↔◌, ◌∙◌, Bool, ap₂, map, refl, rules, tests}
use Rattle.std.proofs.lemmas.Str.Ascii.{trim_ascii_is}
use Rattle.std.specs.Prelude.{IsTrue}
use Rattle.std.specs.Char.{to_ascii_lowercase}
use Rattle.comfy_parts.specs.Text.{Text}
use Rattle.csv_records.specs.Number.{is_word}
use Rattle.csv_records.specs.Spaces.{trimmed_line}
use Rattle.csv_command.proofs.hints.is_alike.Goals as goal

same_word : (r : Bool) (a b : Text) → (IsTrue r ↔ (map to_ascii_lowercase a ≡ map to_ascii_lowercase b)) → r ≡ is_word b a
same_word r a b h = search (rules, tests)

pub returns : goal.returns
returns c =
    let name : c.trim_ascii.result.now ≡ trimmed_line c.args.name.now = trim_ascii_is _ _ _ refl c.trim_ascii.ensures.value in
    let word : c.trim_ascii-2.result.now ≡ trimmed_line c.args.word.now = trim_ascii_is _ _ _ refl c.trim_ascii-2.ensures.value in
    same_word _ _ _ c.eq_ignore_ascii_case.ensures.test ∙ ap₂ is_word word name
