use Rattle.std.proofs.Common.{string_bytes}
use Rattle.comfy_table.proofs.OutputLemmas.{last-taken}
use Rattle.comfy_table.proofs.table.Table.to_text.Goals as goal

pub returns : goal.returns
returns c =
    let drawn = c.in_ok-text.ensures in
    let old = c.in_ok-text.text in
    let new = c.pop.new.self in (
      drawn.0,
      drawn.1,
      last-taken drawn.0 (string_bytes old) (string_bytes new) _ _ old.bytes.ok.0 new.bytes.ok.0 drawn.2 c.pop.ensures.bound c.pop.ensures.ascii_bytes,
    )
