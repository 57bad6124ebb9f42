use Rattle.std.proofs.Common.{◌++◌, ap, sym, ◌∙◌, arith, append_assoc}
use Rattle.std.specs.Prelude.{encode_utf8}
use Rattle.std.proofs.lemmas.Str.{IsUtf8-past_char}
use Rattle.comfy_parts.specs.Text.{Text, is_printable_ascii}
use Rattle.comfy_parts.proofs.FollowingLemmas.{stripped}
use Rattle.comfy_parts.proofs.PrintableLemmas.{back-printable}
use Rattle.comfy_parts.proofs.StartLemmas.{begins_otherwise-none, wrapped-delimiter}
use Rattle.comfy_parts.proofs.content_split.ends.line_start.Goals as goal

pub loop-after-preserved : goal.loop-after-preserved
loop-after-preserved c =
    let splits = stripped c.args.delimiter c.loop-after.rest.now c.in-Some.after.now c.in-Some.ensures.cases in
    let (front, ended) = c.loop-after.invariant.ends in
    record {
      utf8 = IsUtf8-past_char c.loop-after.rest.now c.in-Some.after.now c.args.delimiter c.loop-after.invariant.utf8 splits;
      bound = omega (arith, c.in-Some.ensures.cases);
      ends = (front ++ encode_utf8 c.args.delimiter, ended ∙ ap (λ (t : Text). front ++ t) splits ∙ sym (append_assoc front (encode_utf8 c.args.delimiter) c.in-Some.after.now));
      printable = λ printable. back-printable (encode_utf8 c.args.delimiter) c.in-Some.after.now (ap is_printable_ascii (sym splits) ∙ c.loop-after.invariant.printable printable);
      lines = λ w. wrapped-delimiter w c.args.delimiter c.loop-after.rest.now c.in-Some.after.now c.ranges.delimiter.0 splits ∙ c.loop-after.invariant.lines w;
    }

pub returns-clause-begins : goal.returns-clause-begins
returns-clause-begins c = begins_otherwise-none c.args.delimiter c.loop-after.rest.now c.loop-after.invariant.utf8 c.in_default.ensures.cases
