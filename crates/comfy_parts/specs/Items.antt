-- Iterators that return the items of a list.
-- Source: this library's own.
use Rattle.std.specs.Prelude.{List, Option}
use Rattle.std.specs.Iterator.{AlwaysYields, Count, IsFinite}

-- the iterator can be called, ends, and until then returns these items in order
pub record GivesAll {S A : Type 0} (can_next : S → Type 0) (steps : S → Option A → S → Type 0)
    (remaining : S → Count) (from : S) (items : List A) : Type 0 where
  pub can_be_called : can_next from
  pub ends : IsFinite (remaining from)
  pub in_order : AlwaysYields steps (λ x. x) from items
