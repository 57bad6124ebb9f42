use Rattle.std.proofs.Common.{◌≡◌, ◌++◌, map, string_bytes}
use Rattle.std.specs.Prelude.{IsUtf8}
use Rattle.comfy_parts.specs.Wrapping.{wrapped}
use Rattle.comfy_parts.specs.Cursor.{open_at_end, visible_ahead}
use Rattle.comfy_parts.specs.Written.{wrapped_positions, written_at}
use Rattle.comfy_parts.proofs.content_split.sequences.written.push_wrapped.Given as goal

abbrev pub invariant-loop-line : goal.invariant-loop-line
invariant-loop-line l =
    record {
      whole : IsUtf8 (visible_ahead l.cursor);
      lines : l.line-iterator ≡ wrapped l.info.content_width l.fn.delimiter (visible_ahead l.cursor);
      written : map string_bytes l.lines.items ++ written_at l.cursor (wrapped_positions l.info.content_width l.fn.delimiter (visible_ahead l.cursor))
          ≡ map string_bytes l.initial.lines.items ++ written_at l.initial.cursor (wrapped_positions l.info.content_width l.fn.delimiter l.visible);
      stays : open_at_end l.cursor ≡ open_at_end l.initial.cursor;
    }
