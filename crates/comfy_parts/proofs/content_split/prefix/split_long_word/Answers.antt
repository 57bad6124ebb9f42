use Rattle.std.proofs.Common.{take, arith, ap, ◌∙◌, sym}
use Rattle.std.proofs.lemmas.List.{take_min}
use Rattle.comfy_parts.specs.Text.{is_printable_ascii}
use Rattle.comfy_parts.proofs.PrintableLemmas.{head-looked_at, place-looked_at}
use Rattle.comfy_parts.proofs.content_split.prefix.split_long_word.Goals as goal

pub split_at-requires : goal.split_at-requires
split_at-requires c =
    let printable = ap (λ t. is_printable_ascii (take c.min-looked_at.result t)) (sym c.as_bytes.ensures.value) ∙ sym c.is_printable.ensures ∙ c.if-is_printable.true in
    place-looked_at c.min-looked_at.result c.min.result c.args.word.now c.utf8.word printable (omega arith) (omega arith)

pub returns-then-is_printable-clause-head : goal.returns-then-is_printable-clause-head
returns-then-is_printable-clause-head c =
    let k = c.args.allowed_width in
    let word = c.args.word.now in
    let printable = ap (λ t. is_printable_ascii (take c.min-looked_at.result t)) (sym c.as_bytes.ensures.value) ∙ sym c.is_printable.ensures ∙ c.if-is_printable.true in
    c.split_at.ensures.front ∙ ap (λ n. take n word) c.min.ensures ∙ take_min k word
    ∙ sym (head-looked_at k c.min-looked_at.result word printable (λ fewer. omega (arith, fewer)))
