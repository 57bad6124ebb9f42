use Rattle.std.proofs.Common.{◌<◌, ◌+◌, arith}
use Rattle.std.proofs.lemmas.Bool.Decides.{nat_tests}
use Rattle.comfy_parts.specs.Text.{measure}
use Rattle.comfy_parts.proofs.WideEndLemmas.{wide-end}
use Rattle.comfy_parts.proofs.content_split.width.first_wide_end.Goals as goal

pub returns-then-shows_wide : goal.returns-then-shows_wide
returns-then-shows_wide c =
    let wide : c.args.columns + 1 < measure c.split_at.result.1.now = grind (arith, nat_tests, c.if-shows_wide.ensures) in
    wide-end c.args.columns c.floor_char_boundary.result c.args.word.now c.split_at.result.1.now c.utf8.word c.floor_char_boundary.ensures.boundary c.split_at.ensures.back wide
