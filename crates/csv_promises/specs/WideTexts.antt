-- Texts whose characters take at most two terminal columns, and widths that have room for them.
-- Source: this library's own.
use Rattle.std.specs.Prelude.{◌≡◌, ◌==◌, ◌⊎◌, ◌+◌, ◌*◌, ◌≤◌, ℕ, false, List, Option, Some, chars}
use Rattle.std.specs.List.{list_any}
use Rattle.comfy_parts.specs.Text.{Text}
use Rattle.promises.specs.Tables.{HasCharactersWithin}
use Rattle.csv_promises.specs.Straight.{EachField}

-- each character of a field takes at most two terminal columns, as all do except U+17D8. None is
-- U+FE01 or U+FE0E, which change the width of the character before them.
pub record IsOfTwoColumns (field : Text) : Type 0 where
  pub characters : HasCharactersWithin 2 field
  pub no_selector : list_any (λ c. c == 0xFE0E) (chars field) ≡ false

-- a width is set that has room for two terminal columns in each of n columns: besides the left
-- border, each column has a border and two paddings
abbrev pub HasRoomForTwo : Option ℕ → ℕ → Type 0
HasRoomForTwo width n = (w : ℕ) × (width ≡ Some w) × (1 + 5 * n ≤ w)

-- each character takes at most one terminal column, or at most two if the width has room for them
abbrev pub HaveRoomEach : Option ℕ → ℕ → List (List Text) → Type 0
HaveRoomEach width n records =
    EachField (HasCharactersWithin 1) records
    ⊎ (EachField IsOfTwoColumns records × HasRoomForTwo width n)
