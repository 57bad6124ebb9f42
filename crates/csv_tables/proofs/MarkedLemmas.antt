-- Escaping for Markdown adds no control character, and leaves texts without marks as they are.
use Rattle.std.proofs.Common.{◌≡◌, ◌==◌, ◌&&◌, ◌||◌, not, ℕ, Bool, true, false, cond, List, [], ◌∷◌, ◌++◌, Option, Some, None, chars, codes, encode_utf8_all, refl, ap, ap₂, ◌∙◌}
use Rattle.std.proofs.lemmas.Bool.{or_parts}
use Rattle.std.proofs.lemmas.Str.{encodes-chars}
use Rattle.std.specs.List.{list_any}
use Rattle.std.specs.Prelude.{if◌then◌else◌}
use Rattle.std.specs.Str.{IsUtf8, NonePass}
use Rattle.csv_tables.specs.References.{begins_reference}
use Rattle.comfy_parts.specs.Text.{Text}
use Rattle.csv_tables.specs.Cells.{marked}
use Rattle.csv_records.specs.Cleaning.{is_harmful}
use Rattle.csv_tables.specs.Controls.{HasNothingHarmful}
use Rattle.csv_tables.specs.Markdown.{begins_markup, ends_word, escaped_after, escaped_character, is_in_word, is_mark, is_marked_at, is_paired, is_space, is_special, is_word_marked, may_be_escaped}

escaped-harmless : (is_marked : Bool) (before : Option ℕ) (cs : List ℕ) → NonePass is_harmful cs → NonePass is_harmful (escaped_after is_marked before cs)
escaped-harmless is_marked before [] none = tt
escaped-harmless is_marked before (c ∷ cs) (own, more) = by_tests (c == 0x0A) (is_special here before c cs) (escaped-harmless here (Some c) cs more)
  where
    here : Bool
    here = is_marked_at is_marked before (c ∷ cs)

    by_tests : (feed special : Bool) → NonePass is_harmful (escaped_after here (Some c) cs) → NonePass is_harmful (cond feed (codes "<br>") (cond special (0x5C ∷ c ∷ []) (c ∷ [])) ++ escaped_after here (Some c) cs)
    by_tests true special rest = (refl, (refl, (refl, (refl, rest))))
    by_tests false true rest = (refl, (own, rest))
    by_tests false false rest = (own, rest)

-- an escaped text has harmful characters only if the text has some
pub marked-harmless : (text : Text) → NonePass is_harmful (chars text) → HasNothingHarmful (marked text)
marked-harmless text none = (escaped_after false None (chars text), refl, escaped-harmless false None (chars text) none)

-- ---- texts that stay

not_and : (b : Bool) → (b && false) ≡ false
not_and true = refl
not_and false = refl

-- a character that can't be escaped begins no markup
none_begun : (before : Option ℕ) (c : ℕ) (rest : List ℕ) → may_be_escaped c ≡ false → ((c == 0x0A) ≡ false) × (begins_markup before c rest ≡ false)
none_begun before c rest none =
    let own = or_parts (c == 0x0A) _ none in
    let mark = or_parts (is_mark c) _ own.1 in
    let pair = or_parts (list_any (λ mark. mark == c) (codes "*`~")) _ mark.1 in
    let last = or_parts (c == 0x5F) (c == 0x26) pair.1 in
    let paired : is_paired before c ≡ false = ap₂ (λ (a b : Bool). a || (b && not (is_in_word before))) pair.0 last.0 in
    (own.0, ap₂ (λ (a b : Bool). (a || (b && list_any (λ d. d == c) rest)) || ((c == 0x26) && begins_reference rest)) mark.0 paired ∙ ap (λ (b : Bool). b && begins_reference rest) last.1)

-- no word of such characters is marked
unmarked_word : (before : Option ℕ) (cs : List ℕ) → list_any may_be_escaped cs ≡ false → is_word_marked before cs ≡ false
unmarked_word before [] none = refl
unmarked_word before (c ∷ cs) none =
    let each = or_parts (may_be_escaped c) (list_any may_be_escaped cs) none in
    ap₂ (λ (a b : Bool). not (is_space c) && (a || b)) (none_begun before c cs each.0).1 (unmarked_word (Some c) cs each.1) ∙ not_and (not (is_space c))

unmarked_at : (before : Option ℕ) (cs : List ℕ) → list_any may_be_escaped cs ≡ false → is_marked_at false before cs ≡ false
unmarked_at before cs none = ap (λ (b : Bool). if ends_word before then b else false) (unmarked_word before cs none) ∙ same (ends_word before)
  where
    same : (b : Bool) → (if b then false else false) ≡ false
    same true = refl
    same false = refl

unescaped_after : (before : Option ℕ) (cs : List ℕ) → list_any may_be_escaped cs ≡ false → escaped_after false before cs ≡ cs
unescaped_after before [] none = refl
unescaped_after before (c ∷ cs) none =
    let each = or_parts (may_be_escaped c) (list_any may_be_escaped cs) none in
    let own = none_begun before c cs each.0 in
    ap (λ (h : Bool). escaped_character (is_special h before c cs) c ++ escaped_after h (Some c) cs) (unmarked_at before (c ∷ cs) none)
    ∙ ap₂ (λ (special feed : Bool). cond feed (codes "<br>") (cond (special || false) (0x5C ∷ c ∷ []) (c ∷ [])) ++ escaped_after false (Some c) cs) own.1 own.0
    ∙ ap (λ (rest : List ℕ). c ∷ rest) (unescaped_after (Some c) cs each.1)

-- a text of such characters stays as it is for Markdown
pub marked_stays : (text : Text) → IsUtf8 text → list_any may_be_escaped (chars text) ≡ false → marked text ≡ text
marked_stays text utf8 none = ap encode_utf8_all (unescaped_after None (chars text) none) ∙ encodes-chars text utf8
