use Rattle.std.proofs.Common.{◌≤◌, ◌-◌}
use Rattle.comfy_parts.specs.Following.{IsWideFrom}
use Rattle.comfy_parts.proofs.content_split.width.wide_end.Given as goal

abbrev pub invariant-loop-wide : goal.invariant-loop-wide
invariant-loop-wide l = record { narrower : l.narrow ≤ l.wide; shown : IsWideFrom l.columns l.wide l.word }

abbrev pub decreases-loop-wide : goal.decreases-loop-wide
decreases-loop-wide l = l.wide - l.narrow
