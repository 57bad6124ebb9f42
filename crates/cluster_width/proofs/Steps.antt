-- A step of the width rules, from the end of a text: it is the same for two characters of one class, and what it adds
-- doesn't depend on the total.
use Rattle.std.proofs.Common.{◌≡◌, ◌≤◌, ℕ, ◌+◌, ◌-◌, Bool, true, false, Option, Some, None, refl, ap, arith}
use Rattle.std.specs.Prelude.{if◌then◌else◌}
use Rattle.unicode_width.specs.declared.state.After.{After}
use Rattle.unicode_width.specs.declared.state.After.TheVariants.{Nothing}
use Rattle.unicode_width.specs.declared.state.State.{State}
use Rattle.unicode_width.specs.declared.state.Change.{Change}
use Rattle.unicode_width.specs.declared.state.Change.TheVariants.{Less, Same, One, Three}
use Rattle.unicode_width.specs.Width.{Reading, alone, before, before_alef, if_kept, in_context, joined_or, joins, past_emoji, past_selectors, step}
use Rattle.cluster_width.proofs.Classes.{IsLike}

-- each part of a step is the same for two characters of one class
joins-like : (after : After) (c d : ℕ) → IsLike c d → joins false after c ≡ joins false after d
unfolding joins before_alef alone
joins-like Nothing c d like = refl
joins-like _ c d like = cc

alone-like : (c d : ℕ) → IsLike c d → alone false c ≡ alone false d
unfolding alone
alone-like c d like = cc

selectors-like : (c d total : ℕ) (after : After) → IsLike c d → past_selectors false c total after ≡ past_selectors false d total after
unfolding past_selectors
selectors-like c d total after like = cc (joins-like after c d like, alone-like c d like)

context-like : (c d total : ℕ) (s : State) → IsLike c d → in_context false c total s ≡ in_context false d total s
unfolding in_context
context-like c d total s like = cc (selectors-like c d total s.after like)

past-like : (c d total : ℕ) (s : State) → IsLike c d → past_emoji false c total s ≡ past_emoji false d total s
unfolding past_emoji
past-like c d total s like = cc (context-like c d total s like, alone-like c d like)

pub step-like : (c d total : ℕ) (s : State) → IsLike c d → step false c (total, s) ≡ step false d (total, s)
unfolding step
step-like c d total s like = cc (past-like c d total s like, past-like c d total (record (if_kept s) { emoji = false }) like)

-- to any total of at least 1, the function adds what it adds to 1
pub record IsMove (f : ℕ → Reading) : Type 0 where
  pub moves : (t : ℕ) → 1 ≤ t → f t ≡ (t + (f 1).0 - 1, (f 1).1)

-- each part of a step is such a function
move-if : (b : Bool) (f g : ℕ → Reading) → IsMove f → IsMove g → IsMove (λ t. if b then f t else g t)
move-if true f g p q = p
move-if false f g p q = q

move-add : (n : ℕ) (s : State) → IsMove (λ t. (t + n, s))
move-add n s = record { moves = λ t some. let e : t + n ≡ t + (1 + n) - 1 = omega arith in ap (λ m. (m, s)) e }

move-same : (s : State) → IsMove (λ t. (t, s))
move-same s = record { moves = λ t some. let e : t ≡ t + 1 - 1 = omega arith in ap (λ m. (m, s)) e }

move-joined : (j : Option (Change × After)) (own : ℕ × State) → IsMove (λ t. joined_or t j own)
move-joined None own = move-add own.0 own.1
move-joined (Some (Less, next)) own = record { moves = λ t some. let e : t - 1 ≡ t + 0 - 1 = omega arith in ap (λ m. (m, before next)) e }
move-joined (Some (Same, next)) own = move-same (before next)
move-joined (Some (One, next)) own = move-add 1 (before next)
move-joined (Some (Three, next)) own = move-add 3 (before next)

pub step-moves : (c : ℕ) (s : State) → IsMove (λ t. step false c (t, s))
unfolding step past_emoji in_context past_selectors
step-moves c s = search (move-if, move-add, move-same, move-joined) depth 20
