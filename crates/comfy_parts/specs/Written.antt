-- Private: the texts that are written for the lines of a cell with sequences, by a cursor that
-- passes each of its text lines once.
-- Source: this library's own.
use Rattle.std.specs.Prelude.{ℕ, ◌==◌, List, [], ◌++◌, map, zip, length, if◌then◌else◌}
use Rattle.std.specs.List.{concat}
use Rattle.comfy_parts.specs.Cursor.{CursorValue, at_byte, bytes_up_to, past_bytes, visible_ahead}
use Rattle.comfy_parts.specs.Text.{Text}
use Rattle.comfy_parts.specs.VisibleLines.{starts_of_text, starts_past}
use Rattle.comfy_parts.specs.VisibleText.{closing}
use Rattle.comfy_parts.specs.Wrapping.{lines_of_text, wrapped}

-- the text that is written for a line of `len` visible bytes: the open sequences, the line's part
-- of the text, and a reset if a sequence is then open
abbrev pub written : ℕ → CursorValue → Text
written len c =
    if len == 0 then []
    else concat c.sequences ++ (bytes_up_to len c ++ closing (past_bytes len c).sequences)

-- the texts for lines with these positions and lengths, in visible bytes
abbrev pub written_at : CursorValue → List (ℕ × ℕ) → List Text
written_at c positions = map (λ (p : ℕ × ℕ). written p.1 (at_byte p.0 c)) positions

-- the positions and lengths of the lines of a wrapped text
abbrev pub wrapped_positions : ℕ → ℕ → Text → List (ℕ × ℕ)
wrapped_positions w d text = zip (starts_past w d 0 0 text) (map length (wrapped w d text))

-- the positions and lengths of the lines of a text, which is wrapped only if it doesn't fit
abbrev pub positions_of_text : ℕ → ℕ → Text → List (ℕ × ℕ)
positions_of_text w d text = zip (starts_of_text w d text) (map length (lines_of_text w d text))

-- the texts for the lines of the text line after a cursor
abbrev pub written_of_text : ℕ → ℕ → CursorValue → List Text
written_of_text w d c = written_at c (positions_of_text w d (visible_ahead c))
