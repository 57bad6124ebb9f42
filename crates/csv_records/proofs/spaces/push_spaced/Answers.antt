use Rattle.std.proofs.Common.{rules, ◌++◌, ap, string_bytes, sym, ◌∙◌}
use Rattle.comfy_parts.specs.Text.{Text}
use Rattle.csv_records.specs.Spaces.{spaced}
use Rattle.csv_records.proofs.SpacesLemmas.{one_more, spaced_halves, spaced_whole}
use Rattle.csv_records.proofs.spaces.push_spaced.Goals as goal

pub loop-before-preserved : goal.loop-before-preserved
unfolding lib.Utf8.encode
loop-before-preserved c =
    let had = string_bytes c.loop-before.text in
    let it = spaced_halves c.loop-before.rest.now c.in-Some.before.now c.in-Some.after.now (sym (rw c.in-Some.is at c.split_tab.ensures)) in (
      search rules,
      rw (c.in_ok-push.ensures.bytes, c.in_ok-push_str.ensures.bytes)
          (one_more had c.in-Some.before.now (spaced c.in-Some.after.now) (string_bytes c.args.text.now ++ spaced c.args.line.now) 0x20
          (ap (λ (t : Text). had ++ t) (sym it.0) ∙ c.loop-before.invariant.1)),
    )

pub loop-before-smaller : goal.loop-before-smaller
loop-before-smaller c = (spaced_halves c.loop-before.rest.now c.in-Some.before.now c.in-Some.after.now (sym (rw c.in-Some.is at c.split_tab.ensures))).1

pub returns : goal.returns
returns c =
    rw c.in_ok-push_str-2.ensures.bytes
    (ap (λ (t : Text). string_bytes c.loop-before.text ++ t) (sym (spaced_whole c.loop-before.rest.now (sym (rw c.in_default.is at c.split_tab.ensures)))) ∙ c.loop-before.invariant.1)
