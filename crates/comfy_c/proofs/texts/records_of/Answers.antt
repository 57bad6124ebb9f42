use Rattle.std.proofs.Common.{◌≡◌, ◌∙◌, IfNone, IsSome, None, Option, Some, ap, length, refl, sym}
use Rattle.std.proofs.lemmas.List.{length-map}
use Rattle.comfy_c.proofs.TextLemmas.{length-cut_by}
use Rattle.comfy_c.proofs.texts.records_of.Goals as goal

some_unless : {A P : Type 0} (found : Option A) → IfNone found (¬ P) → P → IsSome found
some_unless (Some records) none is = refl
some_unless None none is = absurd (none is)

pub unwrap-requires : goal.unwrap-requires
unwrap-requires c =
    let texts = c.in_ok-texts.texts.items in
    let many : length texts ≡ length c.args.lengths.now = sym (length-map texts (λ text. text.now)) ∙ ap length c.in_ok-texts.ensures.cut ∙ length-cut_by c.args.lengths.now c.args.texts.now in
    some_unless c.in_ok-records.records c.in_ok-records.ensures.none (c.in_ok-texts.ensures.all.1 ∙ sym many ∙ sym (ap length c.as_slice.ensures.value))
