use Rattle.comfy_c.proofs.RowLemmas.{shows_rows}
use Rattle.comfy_c.proofs.promised.drawn_rows.Goals as goal

pub returns : goal.returns
returns c is = shows_rows c.drawings_keep_the_promises.ensures _ _ _ _ _ _ _ _ (c.comfy_rows_draw.ensures.drawn is).1
