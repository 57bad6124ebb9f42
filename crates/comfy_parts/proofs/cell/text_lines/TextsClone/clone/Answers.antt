use Rattle.std.proofs.Common.{string_bytes}
use Rattle.comfy_parts.proofs.cell.text_lines.TextsClone.clone.Goals as goal
use Rattle.std.specs.List.{each_same}
use Rattle.comfy_parts.proofs.ListLemmas.{same_map}

pub returns-in_ok-clone-in-Multiple-2 : goal.returns-in_ok-clone-in-Multiple-2
returns-in_ok-clone-in-Multiple-2 c =
    rw c.in-Multiple.is (record { cases = (same_map string_bytes _ _ c.in_ok-clone-in-Multiple.ensures.cases.0, each_same _ _ c.in_ok-clone-in-Multiple-2.ensures.cases.0) })
