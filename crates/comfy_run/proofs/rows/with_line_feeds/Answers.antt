use Rattle.std.proofs.Common.{◌≡◌, ◌++◌, ◌∷◌, ◌∙◌, [], ap, sym, string_bytes, rules, lit<}
use Rattle.std.specs.List.{join_with_byte}
use Rattle.std.specs.Str.Iter.{split_text, split_has_more, split_pattern}
use Rattle.std.proofs.lemmas.Iterator.Consumers.{YieldsList-end}
use Rattle.std.proofs.lemmas.Iterator.Splits.{YieldsList-from_str_split}
use Rattle.comfy_run.proofs.RowLemmas.{joined-breaks, joined-first, joined-more, pushed-some}
use Rattle.comfy_run.proofs.rows.with_line_feeds.Goals as goal
use Rattle.comfy_run.proofs.rows.with_line_feeds.Goals.{then-not-is_first+in_ok-push, else-not-is_first}

pub loop-piece-preserved : goal.loop-piece-preserved
loop-piece-preserved c =
    let i = c.loop-piece.invariant in
    let after : string_bytes c.push_str.new.self ≡ string_bytes c.if-not-is_first.text ++ c.in-Some.piece.now = search rules in
    record {
      joined = elim c.if-not-is_first.branch [
        | then-not-is_first+in_ok-push w ↦
            let broken : string_bytes c.if-not-is_first.text ≡ string_bytes c.loop-piece.text ++ 0x0A ∷ [] = ap string_bytes w.text-is ∙ w.in_ok-push.ensures.bytes ∙ ap (λ t. string_bytes c.loop-piece.text ++ t) (w.in_ok-push.ensures.ascii (lit< tt)) in
            after ∙ ap (λ t. t ++ c.in-Some.piece.now) broken ∙ joined-more (λ p. p.now) _ _ _ (sym i.first ∙ w.if-not-is_first.true) i.joined
        | else-not-is_first w ↦
            after ∙ ap (λ t. string_bytes t ++ c.in-Some.piece.now) w.text-is ∙ joined-first (λ p. p.now) _ _ _ (sym i.first ∙ w.if-not-is_first.false) i.joined
      ];
      first = pushed-some c.loop-piece.yielded c.in-Some.piece;
    }

pub returns : goal.returns
returns c =
    let same = c.into_iter-piece-iterator.ensures.into_iter_gives in
    let split = c.split-piece-items.ensures in
    let cut = YieldsList-from_str_split 0x0B _ (lit< tt) (ap split_text same ∙ split.text) (ap split_has_more same ∙ split.has_more) (ap split_pattern same ∙ split.pattern) in
    let all = YieldsList-end cut c.loop-piece.yielded _ c.loop-piece.yielded_by _ _ c.in-None.is c.next.ensures.steps in
    c.loop-piece.invariant.joined ∙ ap (join_with_byte 0x0A) all.0 ∙ joined-breaks c.args.part.now
