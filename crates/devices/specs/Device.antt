-- The results of calls of a device, which is a source or a sink.
-- Source: this library's own.
use Rattle.std.specs.Prelude.{ℕ, ◌-◌, ◌==◌, Bool, false, ◌&&◌, ◌||◌, nat_lt, List, [], ◌++◌, Option, Some, None, Result, Ok, Err, length, take, drop, min, unwrap_or, if◌then◌else◌}

abbrev pub Bytes : Type 0
Bytes = List ℕ

-- the result means that the end was read: 0 bytes for a buffer that isn't empty
abbrev pub is_end : {E : Type 0} → Result ℕ E → ℕ → Bool
is_end (Ok count) room = (count == 0) && nat_lt 0 room
is_end (Err _) room = false

-- the next call of a device in memory fails: the device has failed before, or `fails_at` is 1
abbrev pub is_due : Bool → ℕ → Bool
is_due failed fails_at = failed || (fails_at == 1)

-- a source over memory: the bytes that are left, `None` after the end was read; the number of the
-- next call that fails, 0 for no call; true if it has failed
pub record MemorySourceValue : Type 0 where
  pub rest : Option Bytes
  pub fails_at : ℕ
  pub failed : Bool

-- the bytes that are left
abbrev pub left_in : MemorySourceValue → Bytes
left_in source = unwrap_or source.rest []

-- the bytes that are left after a call with a buffer of `room` bytes
abbrev pub rest_after : Option Bytes → ℕ → Option Bytes
rest_after None room = None
rest_after (Some left) room =
    if (length left == 0) && nat_lt 0 room then None else Some (drop (min (length left) room) left)

-- the source after a call with a buffer of `room` bytes that didn't fail
abbrev pub after_reading : ℕ → MemorySourceValue → MemorySourceValue
after_reading room source =
    record source { rest = rest_after source.rest room; fails_at = source.fails_at - 1 }

-- a sink in memory: the bytes that it has taken, the number of bytes that it has room for in all,
-- the number of the next call that fails, 0 for no call; true if it has failed
pub record MemorySinkValue : Type 0 where
  pub bytes : Bytes
  pub room : ℕ
  pub fails_at : ℕ
  pub failed : Bool

-- the number of bytes of a piece that have room
abbrev pub fitting : Bytes → MemorySinkValue → ℕ
fitting piece sink = min (length piece) (sink.room - length sink.bytes)

-- the piece isn't empty, and no room is left
abbrev pub is_full_for : Bytes → MemorySinkValue → Bool
is_full_for piece sink = nat_lt 0 (length piece) && (fitting piece sink == 0)

-- the sink after a call with this piece that didn't fail
abbrev pub after_writing : Bytes → MemorySinkValue → MemorySinkValue
after_writing piece sink =
    record sink {
      bytes = sink.bytes ++ take (fitting piece sink) piece;
      fails_at = sink.fails_at - 1;
    }
