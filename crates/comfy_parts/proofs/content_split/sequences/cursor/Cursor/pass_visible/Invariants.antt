use Rattle.std.proofs.Common.{◌≡◌, length, take, drop}
use Rattle.std.specs.Prelude.{IsUtf8}
use Rattle.comfy_parts.specs.Cursor.{past_bytes, visible_ahead}
use Rattle.comfy_parts.proofs.content_split.sequences.cursor.Cursor.pass_visible.Given as goal

abbrev pub invariant-bytes : goal.invariant-bytes
invariant-bytes l =
    record {
      whole : IsUtf8 (take l.left (visible_ahead l.self));
      passed : past_bytes l.left l.self ≡ past_bytes l.bytes l.initial.self;
      visible : drop l.left (visible_ahead l.self) ≡ drop l.bytes (visible_ahead l.initial.self);
    }

abbrev pub decreases-bytes : goal.decreases-bytes
decreases-bytes l = length l.self.ahead
