-- Numbers of digits alone.
-- Source: this library's own.
use Rattle.std.specs.Prelude.{ℕ, ◌^◌, Bool, ◌&&◌, nat_lt, Option, Some, None, length, if◌then◌else◌}
use Rattle.std.specs.Char.{is_ascii_digit}
use Rattle.std.specs.List.{list_all}
use Rattle.std.specs.Str.Parse.{digits_value}
use Rattle.comfy_parts.specs.Text.{Text}

-- true for digits alone, if their number has at most `bits` bits
abbrev pub is_numeral : ℕ → Text → Bool
is_numeral bits word =
    (list_all is_ascii_digit word && nat_lt 0 (length word))
    && nat_lt (digits_value 10 word) (2 ^ bits)

-- the number of these digits, or `None` if they are too large or no digits
abbrev pub number_for : ℕ → Text → Option ℕ
number_for bits word = if is_numeral bits word then Some (digits_value 10 word) else None
