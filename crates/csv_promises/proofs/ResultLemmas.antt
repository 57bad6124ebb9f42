-- A property of an `Ok` is one of the option that `ok` makes of it.
use Rattle.std.proofs.Common.{◌≡◌, Ok, Err, Option, Result, Some, subst, sym}
use Rattle.std.proofs.lemmas.Option.{none-some, same_Some}
use Rattle.std.specs.Prelude.{IfOk, IfSome}
use Rattle.std.specs.Result.{result_ok}

-- a property of an `Ok` is one of its value
pub of_ok : {X E : Type 0} (P : X → Type 0) (r : Result X E) (x : X) → Some x ≡ result_ok r → IfOk r P → P x
of_ok P (Ok y) x is own = subst P (same_Some y x (sym is)) own
of_ok P (Err e) x is own = absurd (none-some x (sym is))

-- the same for a weaker property
pub then_some : {X E : Type 0} (P Q : X → Type 0) (r : Result X E) (o : Option X) → o ≡ result_ok r → ((x : X) → P x → Q x) → IfOk r P → IfSome o Q
then_some P Q (Ok y) o is gives own = subst (λ o. IfSome o Q) (sym is) (gives y own)
then_some P Q (Err e) o is gives own = subst (λ o. IfSome o Q) (sym is) tt
