use Rattle.std.proofs.Common.{◌<◌, ◌+◌, ◌-◌, ◌==◌, inl, ℕ, length, drop, take, sym, ap, ◌∙◌, arith}
use Rattle.std.specs.List.{list_any}
use Rattle.std.proofs.lemmas.Bool.Decides.{nat_tests}
use Rattle.comfy_parts.proofs.PrintableEndLemmas.{IsClearAfter, end-all, last-break, no-break}
use Rattle.comfy_parts.proofs.content_split.printable.printable_line_end.Goals as goal

pub returns-then-text-width : goal.returns-then-text-width
returns-then-text-width c =
    let short = c.if-text-width.true in
    sym (end-all c.args.width c.args.delimiter c.args.text.now c.requires.printable (omega (arith, short)) (inl short))

pub returns-then-end-eq0 : goal.returns-then-end-eq0
returns-then-end-eq0 c =
    let none = c.if-end-eq0.true in
    let longer : c.args.width < length c.args.text.now = grind (arith, none, c.last_break-end.ensures.at_end, c.if-text-width.false, c.requires.printable.columns) in
    let clear : IsClearAfter c.args.width c.args.delimiter c.args.text.now 0 =
    ap (λ (n : ℕ). list_any (λ b. b == c.args.delimiter) (take (c.args.width - n) (drop (n + 1) c.args.text.now))) (sym none) ∙ c.last_break-end.ensures.clear
    in
    sym (no-break c.args.width c.args.delimiter c.args.text.now c.requires.printable c.requires.begins longer clear)

pub returns-then-end-width-2 : goal.returns-then-end-width-2
returns-then-end-width-2 c =
    let last = last-break c.args.width c.args.delimiter c.args.text.now c.requires.printable c.requires.begins c.last_break-end.result (omega (arith, c.if-end-eq0.false)) (omega (arith, c.if-end-width.false, c.last_break-end.ensures.bound)) c.if-text-width.false c.last_break-end.ensures.at_end c.last_break-end.ensures.found c.last_break-end.ensures.clear in
    grind (arith, nat_tests, last.ends, c.if-end-width-2.true)

pub returns-then-begins_with_long_part : goal.returns-then-begins_with_long_part
returns-then-begins_with_long_part c =
    let last = last-break c.args.width c.args.delimiter c.args.text.now c.requires.printable c.requires.begins c.last_break-end.result (omega (arith, c.if-end-eq0.false)) (omega (arith, c.if-end-width.false, c.last_break-end.ensures.bound)) c.if-text-width.false c.last_break-end.ensures.at_end c.last_break-end.ensures.found c.last_break-end.ensures.clear in
    let long = c.begins_with_long_part.ensures last.next last.others last.are in
    grind (arith, nat_tests, last.ends, long, c.if-begins_with_long_part.true, c.if-end-width-2.false, c.last_break-end.ensures.bound)

pub returns : goal.returns
returns c =
    let last = last-break c.args.width c.args.delimiter c.args.text.now c.requires.printable c.requires.begins c.last_break-end.result (omega (arith, c.if-end-eq0.false)) (omega (arith, c.if-end-width.false, c.last_break-end.ensures.bound)) c.if-text-width.false c.last_break-end.ensures.at_end c.last_break-end.ensures.found c.last_break-end.ensures.clear in
    let long = c.begins_with_long_part.ensures last.next last.others last.are in
    grind (arith, nat_tests, last.ends, long, c.if-begins_with_long_part.false)
