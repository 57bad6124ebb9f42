use Rattle.std.proofs.Common.{◌≡◌, ◌++◌, false, length}
use Rattle.comfy_parts.specs.Text.{Text, IsOnly}
use Rattle.comfy_parts.specs.Cursor.{IsAt, begins_with_sequence, visible_ahead}
use Rattle.comfy_parts.proofs.content_split.sequences.cursor.Cursor.pass_gap.Given as goal

abbrev pub invariant-gap : goal.invariant-gap
invariant-gap l =
    record {
      passed : (gap : Text) × IsOnly l.delimiter gap × (visible_ahead l.initial.self ≡ gap ++ visible_ahead l.self) × IsAt l.self (length gap) l.initial.self;
      front : begins_with_sequence l.self.ahead ≡ false;
    }

abbrev pub decreases-gap : goal.decreases-gap
decreases-gap l = length l.self.ahead
