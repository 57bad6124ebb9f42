use Rattle.std.proofs.Common.{◌∷◌, ◌++◌, List, map, length, ap, arith, refl, sym, subst, ◌∙◌, append-nil, string_bytes}
use Rattle.std.proofs.lemmas.Grind.{common_steps}
use Rattle.std.specs.Prelude.{IsUtf8}
use Rattle.comfy_parts.specs.Text.{Text}
use Rattle.comfy_parts.specs.Wrapping.{wrapped}
use Rattle.comfy_parts.specs.Cursor.{IsAfterGap, visible_ahead}
use Rattle.comfy_parts.specs.Written.{wrapped_positions, written_at}
use Rattle.comfy_parts.proofs.CursorLemmas.{end-same}
use Rattle.comfy_parts.proofs.ListLemmas.{pushed}
use Rattle.comfy_parts.proofs.WrittenLemmas.{next_line, written-none}
use Rattle.comfy_parts.proofs.content_split.sequences.written.push_wrapped.Goals as goal

pub take_line-requires : goal.take_line-requires
take_line-requires c =
    let lines = sym c.in-Some.ensures.steps ∙ c.loop-line.invariant.lines in
    (next_line c.args.info.now.content_width c.args.delimiter c.loop-line.cursor c.pass_gap.new.self c.in-Some.line.now c.next.new.self c.ranges.delimiter.0 c.loop-line.invariant.whole c.in_ok-pass_gap.ensures lines).whole

pub loop-line-preserved : goal.loop-line-preserved
loop-line-preserved c =
    let w = c.args.info.now.content_width in
    let d = c.args.delimiter in
    let old = c.loop-line.cursor in
    let mid = c.pass_gap.new.self in
    let new = c.take_line.new.self in
    let line = c.in-Some.line.now in
    let done = c.loop-line.lines.items in
    let gap : IsAfterGap d old mid = c.in_ok-pass_gap.ensures in
    let lines = sym c.in-Some.ensures.steps ∙ c.loop-line.invariant.lines in
    let next = next_line w d old mid line c.next.new.self c.ranges.delimiter.0 c.loop-line.invariant.whole gap lines in
    let is_at = c.in_ok-take_line.ensures.is_at in
    let visible = c.in_ok-take_line.ensures.visible in
    let later = written_at new (wrapped_positions w d (visible_ahead new)) in
    let one = next.written_is new is_at visible ∙ ap (λ (t : Text). t ∷ later) (sym c.in_ok-take_line.ensures.written) in
    record {
      whole = subst IsUtf8 (sym visible) next.rest_whole;
      lines = next.lines ∙ ap (wrapped w d) (sym visible);
      written = pushed string_bytes done c.in_ok-take_line.field-0 c.push.new.self.items later _ c.in_ok-push.ensures.items
          (ap (λ (ts : List Text). map string_bytes done ++ ts) (sym one) ∙ c.loop-line.invariant.written);
      stays = end-same (length line) new mid is_at ∙ end-same (length gap.gap) mid old gap.is_at ∙ c.loop-line.invariant.stays;
    }

pub returns-clause-lines : goal.returns-clause-lines
returns-clause-lines c =
    let w = c.args.info.now.content_width in
    let d = c.args.delimiter in
    let cursor = c.loop-line.cursor in
    let none = sym c.in-None.ensures.steps.0 ∙ c.loop-line.invariant.lines in
    sym (append-nil (map string_bytes c.loop-line.lines.items))
    ∙ ap (λ (ts : List Text). map string_bytes c.loop-line.lines.items ++ ts) (sym (written-none w d cursor (visible_ahead cursor) none))
    ∙ c.loop-line.invariant.written

pub loop-line-init : goal.loop-line-init
loop-line-init c = record { whole = subst IsUtf8 c.requires c.utf8.visible; lines = grind (arith, common_steps); written = grind (arith, common_steps); stays = refl }
