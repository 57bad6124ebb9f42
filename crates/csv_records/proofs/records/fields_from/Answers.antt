use Rattle.std.proofs.Common.{◌≡◌, ◌+◌, ◌++◌, ◌∷◌, ◌∙◌, [], List, ℕ, ap, map, subst, sym, take}
use Rattle.std.proofs.lemmas.List.{map-append, take_more}
use Rattle.csv.proofs.RecordFacts.{text-more}
use Rattle.csv.specs.Records.{AllText, fields_of, partial_of}
use Rattle.csv_records.proofs.records.fields_from.Goals as goal

pub loop-text-init : goal.loop-text-init
unfolding AllText
loop-text-init c =
    let fields = ap fields_of c.reserve.ensures ∙ c.new-made.ensures.fields in
    (ap partial_of c.reserve.ensures ∙ c.new-made.ensures.whole, fields, subst AllText (sym fields) tt)

pub loop-text-preserved : goal.loop-text-preserved
loop-text-preserved c =
    let i = c.loop-text.text-index in
    let texts = c.args.texts.now in
    let text = c.as_bytes.result.now in
    let before = c.loop-text.invariant in
    let pushed : fields_of c.push_field.new.self ≡ fields_of c.loop-text.made ++ text ∷ [] = c.in_ok-push_field.ensures.fields in
    let more : map (λ t. t.now) (take (i + 1) texts) ≡ map (λ t. t.now) (take i texts) ++ text ∷ [] =
    ap (map (λ t. t.now)) (take_more texts i _ c.loop-text-test.true)
    ∙ map-append (λ t. t.now) (take i texts) (_ ∷ [])
    ∙ ap (λ (last : List ℕ). map (λ t. t.now) (take i texts) ++ last ∷ []) (sym c.as_bytes.ensures.value) in (
      c.in_ok-push_field.ensures.whole,
      pushed ∙ ap (λ (fields : List (List ℕ)). fields ++ text ∷ []) before.1 ∙ sym more,
      subst AllText (sym pushed) (text-more (fields_of c.loop-text.made) text before.2 c.as_bytes.ensures.utf8),
    )
