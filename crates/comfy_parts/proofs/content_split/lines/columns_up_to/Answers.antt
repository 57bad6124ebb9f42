use Rattle.std.proofs.Common.{arith}
use Rattle.comfy_parts.proofs.WideEndLemmas.{known-wide}
use Rattle.comfy_parts.proofs.content_split.lines.columns_up_to.Goals as goal

pub returns-then-word-wide : goal.returns-then-word-wide
returns-then-word-wide c =
    record {
      fits = λ within. absurd (omega (arith, within));
      wider = λ _. known-wide c.args.width c.args.wide c.args.word.now c.utf8.word c.requires.wide c.if-word-wide.true;
    }
