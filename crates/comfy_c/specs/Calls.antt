-- The meaning of a caller's numbers and arguments, and the caller's buffer after a call.
-- Source: this library's own.
use Rattle.std.specs.Prelude.{◌≡◌, ◌⊎◌, ◌-◌, ◌^◌, ℕ, Bool, not, nat_le, ◌==◌, List, [], ◌∷◌, ◌++◌, All, Option, Some, None, IsUtf8, codes, drop, flat_map, length, slice_index, string_bytes, if◌then◌else◌}
use Rattle.comfy_parts.specs.Text.{HasNo, Text}
use Rattle.csv_command.specs.Ending.{argument_not_utf8}
use Rattle.csv_command.specs.Refusals.{IsRendered, IsMessageOnInput, IsMessageOnArguments}
use Rattle.csv_command.specs.declared.drawing.Refusal.{Refusal}
use Rattle.csv_command.specs.declared.drawing.Refusal.TheVariants.{Arguments, Input, OutOfMemory}

-- ---- the buffer

-- the buffer with a text copied to its front, if it has room for the whole text; otherwise the
-- buffer unchanged
abbrev pub with_front : Text → Text → Text
with_front text buffer =
    if nat_le (length text) (length buffer) then text ++ drop (length text) buffer else buffer

-- the caller gets the length of a text with property P, and the text if its buffer has room for it
pub record IsReturned (P : Text → Type 0) (buffer : Text) (after : Text) (needed : ℕ) : Type 0 where
  pub text : Text
  pub is_so : P text
  pub is_counted : needed ≡ length text
  pub is_put : after ≡ with_front text buffer

-- ---- settings

-- a width up to 65535, or `None` for any greater number
abbrev pub width_of : ℕ → Option ℕ
width_of width = if nat_le width 65535 then Some width else None

-- a flag is set if it isn't 0
abbrev pub is_set : ℕ → Bool
is_set flag = not (flag == 0)

-- a limit, or `None` for the greatest number of 64 bits
abbrev pub limit_of : ℕ → Option ℕ
limit_of number = if number == 2 ^ 64 - 1 then None else Some number

-- ---- CSV

-- an argument, and the zero byte that ends it
abbrev pub ended : Text → Text
ended argument = argument ++ 0 ∷ []

-- a text with a zero byte at its end, which is appended if it is missing; an empty text stays empty
abbrev pub closed : Text → Text
closed text = if slice_index text (length text - 1) == 0 then text else ended text

-- The arguments of a call of `csvtable` that a text holds: the program's name, and arguments
-- without zero bytes. The text is these arguments, with a zero byte after each. The last zero byte
-- of the text may be missing.
pub record IsCommandLine (text : Text) (line : List Text) : Type 0 where
  pub arguments : List Text
  pub after_name : line ≡ codes "csvtable" ∷ arguments
  pub hold_no_end : All (HasNo 0) arguments
  pub are_all : flat_map ended arguments ≡ closed text

-- a caller's bytes are UTF-8, and P holds for the arguments that they hold
pub record IsForArguments (P : List Text → Type 0) (bytes : Text) : Type 0 where
  pub is_text : IsUtf8 bytes
  pub arguments : List Text
  pub are_arguments : IsCommandLine bytes arguments
  pub is_so : P arguments

-- `drawing` is the drawing for arguments and an input
abbrev pub IsCsvDrawing : Text → Text → Text → Type 0
IsCsvDrawing bytes input drawing =
    IsUtf8 drawing × IsForArguments (λ arguments. IsRendered arguments input drawing) bytes

-- `message` is the line about an input that can't be drawn as the arguments request
abbrev pub IsInputMessage : Text → Text → Text → Type 0
IsInputMessage bytes input message =
    IsUtf8 message × IsForArguments (λ arguments. IsMessageOnInput arguments input message) bytes

-- `message` is the text for arguments that request no drawing, or aren't UTF-8
abbrev pub IsArgumentsMessage : Text → Text → Type 0
IsArgumentsMessage bytes message =
    IsUtf8 message
    × (IsForArguments (λ arguments. IsMessageOnArguments arguments message) bytes
    ⊎ ¬ (IsUtf8 bytes) × (message ≡ argument_not_utf8))

-- the reason for a missing drawing
abbrev pub IsCsvRefusal : Text → Text → Refusal → Type 0
IsCsvRefusal bytes input (Input message) = IsInputMessage bytes input (string_bytes message)
IsCsvRefusal bytes input OutOfMemory = Unit {0}
IsCsvRefusal bytes input (Arguments message) = IsArgumentsMessage bytes (string_bytes message)
