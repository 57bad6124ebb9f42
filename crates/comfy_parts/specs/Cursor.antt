-- Private: a cursor over the parts of a cell's text lines, the parts that it passes, and the
-- sequences that are open at its position.
-- Source: this library's own.
use Rattle.std.specs.Prelude.{◌≡◌, ◌<◌, ℕ, zero, suc, Bool, true, false, Option, None, Some, List, [], ◌∷◌, ◌++◌, map, length, flat_map, encode_utf8, if◌then◌else◌}
use Rattle.comfy_parts.specs.Text.{Text, IsOnly, begins_with}
use Rattle.comfy_parts.specs.declared.content_split.sequences.TextPart.{TextPart}
use Rattle.comfy_parts.specs.declared.content_split.sequences.TextPart.TheVariants.{Sequence, Visible}
use Rattle.comfy_parts.specs.VisibleText.{Part, opened, opened_by, parts_before, parts_from, parts_up_to, visible_bytes}

-- ---- parts

-- a sequence as a part
abbrev pub sequence_part : Text → Part
sequence_part s = record { is_sequence = true; bytes = s }

-- a visible byte as a part
abbrev pub visible_part : ℕ → Part
visible_part b = record { is_sequence = false; bytes = b ∷ [] }

-- the bytes of a character as parts
abbrev pub character_parts : ℕ → List Part
character_parts c = map visible_part (encode_utf8 c)

-- the first part is a sequence
abbrev pub begins_with_sequence : List Part → Bool
begins_with_sequence [] = false
begins_with_sequence (p ∷ ps) = p.is_sequence

-- the parts after the n-th visible byte
abbrev pub parts_after : ℕ → List Part → List Part
parts_after zero ps = ps
parts_after (suc n) [] = []
parts_after (suc n) (p ∷ ps) = parts_after (if p.is_sequence then suc n else n) ps

-- a call of an iterator over parts returned a sequence, or visible bytes, or `None` because no part
-- was left
abbrev pub GivesPart : List Part → Option TextPart → List Part → Type 0
GivesPart old None new = (old ≡ []) × (new ≡ [])
GivesPart old (Some (Sequence s)) new = old ≡ sequence_part s.now ∷ new
GivesPart old (Some (Visible t)) new = (old ≡ map visible_part t.now ++ new) × (0 < length t.now)

-- ---- a cursor

-- a cursor in a text line of a cell: the sequences that are open there, and the parts after it
pub record CursorValue : Type 0 where
  pub sequences : List Text
  pub ahead : List Part

-- the visible text after a cursor
abbrev pub visible_ahead : CursorValue → Text
visible_ahead c = flat_map visible_bytes c.ahead

-- a cursor moved past the first of the parts that follow it
abbrev pub stepped : CursorValue → List Part → CursorValue
stepped c [] = c
stepped c (p ∷ ps) = record { sequences = opened_by c.sequences p; ahead = ps }

-- a cursor after the next part if that is a sequence, and otherwise unchanged
abbrev pub past_sequence : CursorValue → CursorValue
past_sequence c = if begins_with_sequence c.ahead then stepped c c.ahead else c

-- the cursor moved to the visible byte at n after it, with the sequences before that byte passed
abbrev pub at_byte : ℕ → CursorValue → CursorValue
at_byte n c =
    record { sequences = opened c.sequences (parts_before n c.ahead); ahead = parts_from n c.ahead }

-- the cursor moved past n visible bytes, with the sequences after the last of them not yet passed
abbrev pub past_bytes : ℕ → CursorValue → CursorValue
past_bytes n c =
    record {
      sequences = opened c.sequences (parts_up_to n c.ahead);
      ahead = parts_after n c.ahead;
    }

-- the bytes that a cursor passes on its way past n visible bytes
abbrev pub bytes_up_to : ℕ → CursorValue → Text
bytes_up_to n c = flat_map (λ (p : Part). p.bytes) (parts_up_to n c.ahead)

-- the sequences that are open at the end of the text line
abbrev pub open_at_end : CursorValue → List Text
open_at_end c = opened c.sequences c.ahead

-- the first cursor is at the visible byte at n after the second one, up to sequences before that
-- byte
abbrev pub IsAt : CursorValue → ℕ → CursorValue → Type 0
IsAt new n old = at_byte 0 new ≡ at_byte n old

-- the visible text between two cursors is only delimiters, and the visible text after the second
-- one doesn't begin with a delimiter
pub record IsAfterGap (d : ℕ) (old new : CursorValue) : Type 0 where
  pub gap : Text
  pub only : IsOnly d gap
  pub visible : visible_ahead old ≡ gap ++ visible_ahead new
  pub is_at : IsAt new (length gap) old
  pub begins_otherwise : begins_with d (visible_ahead new) ≡ false
