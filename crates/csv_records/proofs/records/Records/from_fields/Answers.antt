use Rattle.std.proofs.Common.{◌≡◌, ◌<◌, ◌^◌, ◌∙◌, ap, arith, length, map, rules, subst, sym}
use Rattle.std.specs.List.{All}
use Rattle.std.proofs.lemmas.List.{length-map}
use Rattle.csv.specs.Records.{fields_of}
use Rattle.csv_records.specs.CutLists.{cut_by, total}
use Rattle.csv_records.specs.Places.{IsWithin, fields_at, places_for}
use Rattle.csv_records.proofs.CutLemmas.{cut_at_places, places_within}
use Rattle.csv_records.proofs.records.Records.from_fields.Goals as goal

pub invariant_of-result : goal.invariant_of-result
invariant_of-result c =
    let items : c.in-Some.places.items ≡ places_for 0 c.args.counts.now = search rules in
    let all : total c.args.counts.now ≡ length c.args.fields.now = search rules in
    let own : fields_of c.in_ok-fields.fields ≡ map (λ field. field.now) c.args.fields.now = search rules in
    let long : length (fields_of c.in_ok-fields.fields) ≡ length c.args.fields.now = ap length own ∙ length-map c.args.fields.now (λ field. field.now) in
    let few : length c.args.fields.now < 2 ^ 64 = search rules in
    let within = places_within (fields_of c.in_ok-fields.fields) 0 c.args.counts.now (omega (arith, long, few)) (omega (arith, long, all)) in
    (subst (All (IsWithin (fields_of c.in_ok-fields.fields))) (sym items) within, c.in_ok-fields.ensures.text)

pub returns-clause-some : goal.returns-clause-some
returns-clause-some c =
    let items : c.in-Some.places.items ≡ places_for 0 c.args.counts.now = search rules in
    let own : fields_of c.in_ok-fields.fields ≡ map (λ field. field.now) c.args.fields.now = search rules in
    ap (map (fields_at (fields_of c.in_ok-fields.fields))) items ∙ cut_at_places (fields_of c.in_ok-fields.fields) 0 c.args.counts.now ∙ ap (cut_by c.args.counts.now) own
