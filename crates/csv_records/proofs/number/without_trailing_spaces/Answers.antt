use Rattle.std.proofs.Common.{◌≡◌, ap, chars, encode_utf8_all, false, subst, sym, true, ◌∙◌, IsUtf8, rules, tests}
use Rattle.std.proofs.lemmas.Str.{encodes-chars}
use Rattle.csv_records.specs.Number.{is_space, to_other}
use Rattle.csv_records.proofs.FigureLemmas.{to_other-passes, to_other-stops, utf8-without_last}
use Rattle.csv_records.proofs.number.without_trailing_spaces.Goals as goal

pub returns-then-not-is_space : goal.returns-then-not-is_space
returns-then-not-is_space c =
    let stops : is_space c.in-Some.c ≡ false = search (rules, tests) in
    let stays = to_other-stops is_space (chars c.in-Some.before.now) c.in-Some.c stops in
    let left = ap (to_other is_space) c.in-Some.ensures.characters ∙ stays ∙ sym c.in-Some.ensures.characters in
    sym (ap encode_utf8_all (c.spaces.invariant.1 ∙ left) ∙ encodes-chars c.spaces.rest.now c.spaces.invariant.0)

pub spaces-preserved : goal.spaces-preserved
spaces-preserved c =
    let passes : is_space c.in-Some.c ≡ true = search (rules, tests) in (
      subst IsUtf8 (sym c.in-Some.ensures.rest) (utf8-without_last c.spaces.rest.now c.spaces.invariant.0),
      c.spaces.invariant.1 ∙ ap (to_other is_space) c.in-Some.ensures.characters
          ∙ to_other-passes is_space (chars c.in-Some.before.now) c.in-Some.c passes,
    )
