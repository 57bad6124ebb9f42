use Rattle.std.proofs.Common.{◌≡◌, ◌+◌, ◌++◌, [], length, ap, sym, refl, subst, ◌∙◌, arith, append_assoc, length-append}
use Rattle.std.specs.Prelude.{encode_utf8}
use Rattle.comfy_parts.specs.Cursor.{IsAt, at_byte, begins_with_sequence, character_parts, visible_ahead}
use Rattle.comfy_parts.proofs.FrontLemmas.{character-visible, character_parts-some}
use Rattle.comfy_parts.proofs.CursorLemmas.{at, character-at, from-fewer, front-free, only-push, visible-front, at-itself, at-more}
use Rattle.comfy_parts.proofs.content_split.sequences.cursor.Cursor.pass_gap.Goals as goal

pub gap-init : goal.gap-init
gap-init c =
    record {
      passed = ([], (0, refl), refl, refl);
      front = ap (λ v. begins_with_sequence v.ahead) c.in_ok-pass_sequences.ensures ∙ front-free c.args.self.now.ahead;
    }

pub gap-smaller : goal.gap-smaller
gap-smaller c =
    let mid = c.pass_delimiter.new.self in
    let was = c.gap-test.ensures.passed refl in
    let all = ap (λ v. length v.ahead) was in
    let more = character_parts-some c.args.delimiter mid.ahead in
    let fewer = ap (λ v. length v.ahead) c.in_ok-pass_sequences-2.ensures in
    let left = from-fewer mid.ahead in
    omega (arith, all, more, fewer, left)

pub gap-preserved : goal.gap-preserved
gap-preserved c =
    let d = c.args.delimiter in
    let start = c.pass_sequences.new.self in
    let old = c.gap.self in
    let mid = c.pass_delimiter.new.self in
    let new = c.pass_sequences-in-gap.new.self in
    let before = c.gap.invariant.passed in
    let gap = before.0 in
    let was : old ≡ at mid.sequences (character_parts d ++ mid.ahead) = c.gap-test.ensures.passed refl in
    let now : new ≡ at_byte 0 mid = c.in_ok-pass_sequences-2.ensures in
    let is_at : IsAt mid (length (encode_utf8 d)) old = character-at mid.sequences d mid.ahead ∙ ap (at_byte (length (encode_utf8 d))) (sym was) in
    let after : IsAt new 0 mid = ap (at_byte 0) now ∙ at-itself mid in
    let bytes : length gap + length (encode_utf8 d) + 0 ≡ length (gap ++ encode_utf8 d) = let both = length-append gap (encode_utf8 d) in omega (arith, both) in
    let visible : visible_ahead old ≡ encode_utf8 d ++ visible_ahead new = ap visible_ahead was ∙ character-visible d mid.ahead ∙ ap (λ t. encode_utf8 d ++ t) (sym (ap visible_ahead now ∙ visible-front mid.ahead)) in
    record {
      passed = (
        gap ++ encode_utf8 d,
        only-push d gap before.1,
        before.2 ∙ ap (λ t. gap ++ t) visible ∙ sym (append_assoc gap (encode_utf8 d) (visible_ahead new)),
        subst (λ n. IsAt new n start) bytes
            (at-more (length gap + length (encode_utf8 d)) 0 start mid new (at-more (length gap) (length (encode_utf8 d)) start old mid before.3 is_at) after),
      );
      front = ap (λ v. begins_with_sequence v.ahead) now ∙ front-free mid.ahead;
    }

pub returns : goal.returns
returns c =
    let old = c.args.self.now in
    let start = c.pass_sequences.new.self in
    let before = c.gap.invariant.passed in
    let now : start ≡ at_byte 0 old = c.in_ok-pass_sequences.ensures in
    let stays = c.gap-test.ensures.stays refl in
    let plain : 0 + length before.0 ≡ length before.0 = omega arith in
    rw stays record {
      gap = before.0;
      only = before.1;
      visible = sym (ap visible_ahead now ∙ visible-front old.ahead) ∙ before.2;
      is_at = subst (λ n. IsAt c.gap.self n old) plain (at-more 0 (length before.0) old start c.gap.self (ap (at_byte 0) now ∙ at-itself old) before.3);
      begins_otherwise = c.gap-test.ensures.other refl;
    }
