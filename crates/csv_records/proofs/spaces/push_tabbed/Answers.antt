use Rattle.std.proofs.Common.{rules, ◌≡◌, ◌==◌, false, length, ◌++◌, ◌-◌, ◌+◌, ap, string_bytes, sym, ◌∙◌}
use Rattle.comfy_parts.specs.Text.{Text}
use Rattle.csv_records.specs.Spaces.{after_field, first_field, tabbed_line}
use Rattle.csv_records.proofs.SpacesLemmas.{one_gap_less, one_more}
use Rattle.csv_records.proofs.spaces.push_tabbed.Goals as goal

pub loop-preserved : goal.loop-preserved
unfolding lib.Utf8.encode
loop-preserved c =
    let had = string_bytes c.loop.text in
    let rest = c.loop.rest.now in
    let shown : (length c.split_field.result.1.now == 0) ≡ false = sym c.is_empty.ensures ∙ c.if-is_empty.false in
    let some = rw c.split_field.ensures.after at shown in
    let less = one_gap_less c.args.gaps c.loop.counter rest c.loop-test.true some in (
      search rules,
      rw (c.in_ok-push.ensures.bytes, c.in_ok-push_str.ensures.bytes, c.split_field.ensures.field, c.split_field.ensures.after)
          (one_more had (first_field rest) (tabbed_line (c.args.gaps - (c.loop.counter + 1)) (after_field rest)) (string_bytes c.args.text.now ++ tabbed_line c.args.gaps c.args.line.now) 0x09
          (ap (λ (t : Text). had ++ t) (sym less) ∙ c.loop.invariant.1)),
    )
