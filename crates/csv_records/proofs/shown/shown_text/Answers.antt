use Rattle.std.proofs.Common.{◌≡◌, ◌++◌, ◌∷◌, [], ℕ, Bool, List, ap, chars, encode_utf8, map, string_bytes, sym, ◌∙◌, append-nil, rules}
use Rattle.std.proofs.lemmas.Iterator.{YieldsList-from_chars}
use Rattle.std.proofs.lemmas.Iterator.Consumers.{YieldsList-end}
use Rattle.std.proofs.lemmas.List.{map-append, map-id}
use Rattle.std.proofs.lemmas.Str.{encodes-append}
use Rattle.std.specs.List.{list_any}
use Rattle.std.specs.Str.{encode_utf8_all}
use Rattle.std.specs.Str.Iter.{chars_rest}
use Rattle.csv_records.proofs.ShownLemmas.{harmless}
use Rattle.csv_records.specs.Cleaning.{is_harmful}
use Rattle.csv_records.specs.Shown.{shown_in, shown_text}
use Rattle.csv_records.proofs.shown.shown_text.Goals as goal

more : (keeps : Bool) (had : List ℕ) (c : ℕ) → encode_utf8_all (map (shown_in keeps) (had ++ c ∷ [])) ≡ encode_utf8_all (map (shown_in keeps) had) ++ encode_utf8 (shown_in keeps c)
more keeps had c =
    ap encode_utf8_all (map-append (shown_in keeps) had (c ∷ [])) ∙ encodes-append (map (shown_in keeps) had) (shown_in keeps c ∷ []) ∙ ap (λ (t : List ℕ). encode_utf8_all (map (shown_in keeps) had) ++ t) (append-nil (encode_utf8 (shown_in keeps c)))

pub loop-c-preserved : goal.loop-c-preserved
loop-c-preserved c =
    let pushed : string_bytes c.push.new.self ≡ string_bytes c.loop-c.shown ++ encode_utf8 (shown_in c.args.keeps_breaks c.in-Some.c) = search rules in
    pushed ∙ ap (λ (t : List ℕ). t ++ encode_utf8 (shown_in c.args.keeps_breaks c.in-Some.c)) c.loop-c.invariant ∙ sym (more c.args.keeps_breaks c.loop-c.yielded c.in-Some.c)

pub returns : goal.returns
returns c =
    let cut = YieldsList-from_chars c.args.text.now c.utf8.text (ap chars_rest c.into_iter-c-iterator.ensures.into_iter_gives ∙ c.chars-c-items.ensures.rest) in
    let all = YieldsList-end cut c.loop-c.yielded _ c.loop-c.yielded_by _ _ c.in-None.is c.next.ensures.steps in
    let value : string_bytes c.loop-c.shown ≡ shown_text c.args.keeps_breaks c.args.text.now =
    c.loop-c.invariant ∙ ap (λ (t : List ℕ). encode_utf8_all (map (shown_in c.args.keeps_breaks) t)) (sym (map-id c.loop-c.yielded) ∙ all.0) in
    record { value = value; harmless = ap (λ (t : List ℕ). list_any is_harmful (chars t)) value ∙ harmless c.args.keeps_breaks c.args.text.now c.utf8.text }
