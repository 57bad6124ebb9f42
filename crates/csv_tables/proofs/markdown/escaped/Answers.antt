use Rattle.std.proofs.Common.{◌≡◌, ◌++◌, ◌∷◌, [], ℕ, Bool, List, Some, ap, chars, rules, string_bytes, sym, ◌∙◌, append_assoc, append-nil}
use Rattle.std.proofs.lemmas.Str.{encodes-append}
use Rattle.std.specs.Str.{encode_utf8_all}
use Rattle.csv_tables.specs.Markdown.{escaped_after, escaped_character, is_marked_at, is_special}
use Rattle.csv_tables.proofs.markdown.escaped.Goals as goal

pub loop-c-preserved : goal.loop-c-preserved
loop-c-preserved c =
    let had = string_bytes c.loop-c.cell in
    let before = c.loop-c.before in
    let after = chars c.in-Some.after.now in
    let found : chars c.loop-c.rest.now ≡ c.in-Some.c ∷ after = c.in-Some.ensures.characters in
    let marked : c.is_marked_at-is_marked.result ≡ is_marked_at c.loop-c.is_marked before (c.in-Some.c ∷ after) = c.is_marked_at-is_marked.ensures ∙ ap (is_marked_at c.loop-c.is_marked before) found in
    let more = escaped_character (is_special c.is_marked_at-is_marked.result before c.in-Some.c after) c.in-Some.c in
    let pushed : string_bytes c.push_escaped.new.cell ≡ had ++ encode_utf8_all more =
    c.in_ok-push_escaped.ensures ∙ ap (λ special. had ++ encode_utf8_all (escaped_character special c.in-Some.c)) c.is_special.ensures in
    let left = escaped_after c.is_marked_at-is_marked.result (Some c.in-Some.c) after in
    record {
      utf8 = search rules;
      whole = ap (λ (t : List ℕ). t ++ encode_utf8_all left) pushed
          ∙ append_assoc had (encode_utf8_all more) (encode_utf8_all left)
          ∙ ap (λ (t : List ℕ). had ++ t) (sym (encodes-append more left))
          ∙ ap (λ (m : Bool). had ++ encode_utf8_all (escaped_character (is_special m before c.in-Some.c after) c.in-Some.c ++ escaped_after m (Some c.in-Some.c) after)) marked
          ∙ ap (λ (cs : List ℕ). had ++ encode_utf8_all (escaped_after c.loop-c.is_marked before cs)) (sym found)
          ∙ c.loop-c.invariant.whole;
    }

pub returns : goal.returns
returns c =
    let none : chars c.loop-c.rest.now ≡ [] = search rules in
    sym (append-nil (string_bytes c.loop-c.cell)) ∙ ap (λ (cs : List ℕ). string_bytes c.loop-c.cell ++ encode_utf8_all (escaped_after c.loop-c.is_marked c.loop-c.before cs)) (sym none) ∙ c.loop-c.invariant.whole
