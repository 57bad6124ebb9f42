use Rattle.std.proofs.Common.{rules, false, ◌≡◌, ◌++◌, map, take, drop, ap, sym, subst, ◌∙◌}
use Rattle.std.specs.Prelude.{IsUtf8, if◌then◌else◌}
use Rattle.comfy_parts.specs.Text.{Text}
use Rattle.comfy_parts.specs.Cursor.{CursorValue, past_bytes, visible_ahead, begins_with_sequence, stepped, visible_part}
use Rattle.comfy_parts.specs.VisibleText.{parts}
use Rattle.comfy_parts.proofs.CursorLemmas.{at, drops-after, visible-after, whole-after}
use Rattle.comfy_parts.proofs.FrontLemmas.{visible_bytes-visible}
use Rattle.comfy_parts.proofs.content_split.sequences.cursor.Cursor.pass_visible.Goals as goal

pub bytes-preserved : goal.bytes-preserved
bytes-preserved c =
    let left = c.bytes.left in
    let run = c.split_visible.result.0.now in
    let new : CursorValue = at (map (λ s. s.now) c.self.inside.sequences.items) (parts c.split_visible.result.1.now) in
    let none : begins_with_sequence c.bytes.self.ahead ≡ false = search rules in
    let stays : c.pass_sequence.new.self ≡ c.bytes.self = c.in_ok-pass_sequence.ensures.after ∙ ap (λ b. if b then stepped c.bytes.self c.bytes.self.ahead else c.bytes.self) none in
    let was : c.bytes.self ≡ at new.sequences (map visible_part run ++ new.ahead) = sym stays ∙ sym c.self.view_is ∙ ap (at new.sequences) c.split_visible.ensures.parts in
    let visible : visible_ahead c.bytes.self ≡ run ++ visible_ahead new = ap visible_ahead was ∙ visible_bytes-visible run new.ahead in
    let within = c.split_visible.ensures.within in
    record {
      whole = whole-after left run (visible_ahead new) c.split_visible.ensures.whole within (subst (λ (t : Text). IsUtf8 (take left t)) visible c.bytes.invariant.whole);
      passed = sym (visible-after left new.sequences run new.ahead within) ∙ ap (past_bytes left) (sym was) ∙ c.bytes.invariant.passed;
      visible = sym (drops-after left run (visible_ahead new) within) ∙ ap (drop left) (sym visible) ∙ c.bytes.invariant.visible;
    }
