-- The law of every source over memory.
-- Source: this library's own.
use Rattle.std.specs.Prelude.{◌≡◌, true, List, ℕ, [], Option, Some, None, is_none}
use Rattle.devices.specs.Device.{MemorySourceValue, left_in}

-- if `rest` is `None`, no byte is left
pub nothing_left : (rest : Option (List ℕ)) (fails_at : ℕ) (failed : _) → is_none rest ≡ true
    → (left : List ℕ)
    → Some (left_in (record { rest = rest; fails_at = fails_at; failed = failed })) ≡ Some left
    → left ≡ []
nothing_left None fails_at failed ended left e = cc
nothing_left (Some bytes) fails_at failed ended left e = absurd (cc)

-- after the end, no byte is left
pub none_is_left_in_memory : (s : MemorySourceValue) → is_none s.rest ≡ true → (left : List ℕ)
    → Some (left_in s) ≡ Some left
    → left ≡ []
none_is_left_in_memory s ended left e = nothing_left s.rest s.fails_at s.failed ended left e
