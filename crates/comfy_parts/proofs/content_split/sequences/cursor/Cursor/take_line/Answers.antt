use Rattle.std.proofs.Common.{◌≡◌, ◌+◌, ap, sym, subst, ◌∙◌, take, drop, arith}
use Rattle.std.proofs.lemmas.Grind.{common_steps}
use Rattle.std.specs.Prelude.{IsUtf8}
use Rattle.comfy_parts.specs.Cursor.{IsAt, at_byte, visible_ahead}
use Rattle.comfy_parts.proofs.CursorLemmas.{visible-front, at-past, at-itself, at-more}
use Rattle.comfy_parts.proofs.content_split.sequences.cursor.Cursor.take_line.Goals as goal

pub take_visible-requires : goal.take_visible-requires
take_visible-requires c =
    let old = c.args.self.now in
    let same = ap visible_ahead c.in_ok-pass_sequences.ensures ∙ visible-front old.ahead in
    subst (λ t. IsUtf8 (take c.args.bytes t)) (sym same) c.requires

pub returns-clause-is_at : goal.returns-clause-is_at
returns-clause-is_at c =
    let old = c.args.self.now in
    let mid = c.pass_sequences.new.self in
    let new = c.take_visible.new.self in
    let bytes = c.args.bytes in
    let first : IsAt mid 0 old = ap (at_byte 0) c.in_ok-pass_sequences.ensures ∙ at-itself old in
    let next : IsAt new bytes mid = ap (at_byte 0) c.in_ok-take_visible.ensures.passed ∙ at-past bytes mid in
    let plain : 0 + bytes ≡ bytes = omega arith in
    subst (λ n. IsAt new n old) plain (at-more 0 bytes old mid new first next)

pub returns-clause-visible : goal.returns-clause-visible
returns-clause-visible c =
    c.in_ok-take_visible.ensures.visible ∙ ap (drop c.args.bytes) (ap visible_ahead c.in_ok-pass_sequences.ensures ∙ visible-front c.args.self.now.ahead)

pub returns-clause-written : goal.returns-clause-written
returns-clause-written c = grind (arith, common_steps)
