use Rattle.std.proofs.Common.{string_bytes, refl}
use Rattle.std.proofs.lemmas.Iterator.Consumers.{YieldsList-from_first, count_from_yields_List}
use Rattle.test_callers.proofs.uses.drawing.drawn_height.Goals as goal

pub returns : goal.returns
returns c =
    (_, c.in_ok-build_table.ensures.drawing, count_from_yields_List _ _ c.count.ensures.ran (YieldsList-from_first string_bytes (λ lines. lines) _ refl))
