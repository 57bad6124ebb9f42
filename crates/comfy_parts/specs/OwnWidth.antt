-- Private: the width in terminal columns of a character that joins no other.
-- Source: this library's own.
use Rattle.std.specs.Prelude.{ℕ, Bool, List, Option, None, false, ◌==◌, ◌&&◌, ◌||◌, nat_le, if◌then◌else◌}
use Rattle.std.specs.Int.{is_in_range}
use Rattle.std.specs.List.{slice_index}
use Rattle.unicode_width.specs.Width.{char_width}
use Rattle.comfy_parts.specs.Columns.{joins_no_other}

-- the width of a character by itself; `None` if it may join others
abbrev pub own_width : ℕ → Option ℕ
own_width c = if joins_no_other c then char_width false c else None

-- true if a text begins with a character from U+4E00 to U+9FFF or from U+B000 to U+CFFF
abbrev pub begins_wide : List ℕ → Bool
begins_wide text =
    (slice_index text 0 == 0xE4 && nat_le 0xB8 (slice_index text 1))
    || is_in_range 0xE5 0xE9 (slice_index text 0) || is_in_range 0xEB 0xEC (slice_index text 0)
