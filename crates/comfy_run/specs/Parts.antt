-- Private: the end of the first part of a line.
-- Source: this library's own.
use Rattle.std.specs.Prelude.{ℕ, ◌≡◌, ◌<◌, ◌≤◌, ◌==◌, false, length, nat_lt, take}
use Rattle.std.specs.List.{list_any, slice_index}
use Rattle.comfy_parts.specs.Text.{Text}

-- the first `run` bytes have no control character
pub record IsClearFront (bytes : Text) (run : ℕ) : Type 0 where
  pub bound : run ≤ length bytes
  pub clear : list_any (λ b. nat_lt b 0x20) (take run bytes) ≡ false

-- the first `len` bytes have no TAB, and a TAB or nothing follows them
pub record IsFirstPart (bytes : Text) (len : ℕ) : Type 0 where
  pub bound : len ≤ length bytes
  pub unbroken : list_any (λ b. b == 0x09) (take len bytes) ≡ false
  pub ends : len < length bytes → slice_index bytes len ≡ 0x09
