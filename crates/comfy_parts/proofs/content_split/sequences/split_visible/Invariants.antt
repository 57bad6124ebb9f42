use Rattle.std.proofs.Common.{◌≡◌, ◌<◌, ◌≤◌, ◌-◌, ◌++◌, map, take, drop}
use Rattle.comfy_parts.specs.Cursor.{visible_part}
use Rattle.comfy_parts.specs.VisibleText.{parts}
use Rattle.comfy_parts.proofs.content_split.sequences.split_visible.Given as goal

abbrev pub invariant-run : goal.invariant-run
invariant-run l =
    record {
      some : 0 < l.run;
      within : l.run ≤ l.end;
      visible : parts l.text ≡ map visible_part (take l.run l.text) ++ parts (drop l.run l.text);
    }

abbrev pub decreases-run : goal.decreases-run
decreases-run l = l.end - l.run
