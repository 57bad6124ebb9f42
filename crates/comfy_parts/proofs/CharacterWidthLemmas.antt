-- Each character takes at most two terminal columns, except U+17D8, which takes three.
use Rattle.std.proofs.Common.{◌≢◌, ◌≤◌, ℕ, false, refl, subst, sym, arith}
use Rattle.std.proofs.lemmas.Bool.Decides.{nat_tests}
use Rattle.cluster_width.proofs.SpaceMeasureLemmas.{one_character}
use Rattle.unicode_width.proofs.Computing.{unicode_width}
use Rattle.unicode_width.specs.Kind.{kind}
use Rattle.unicode_width.specs.Width.{alone, of_kind, past_emoji, plain, single, step, str_width}
use Rattle.unicode_width.specs.declared.kind.Kind.{Kind}
use Rattle.unicode_width.specs.declared.kind.Kind.TheVariants as kinds
use Rattle.comfy_parts.specs.Columns.{OneCharacterTakesThree, TakesTwoAtMost}

pub khmer_sign_takes_three : OneCharacterTakesThree
unfolding unicode_width
khmer_sign_takes_three = refl

single-most : (c : ℕ) → c ≢ 0x17D8 → (single false c).0 ≤ 2
single-most c other = grind (arith, nat_tests, other)

of_kind-most : (c : ℕ) (k : Kind) → c ≢ 0x17D8 → (of_kind false c k).0 ≤ 2
of_kind-most c kinds.Single other = single-most c other
of_kind-most c _ other = omega arith

step-most : (c : ℕ) → c ≢ 0x17D8 → (step false c (0, plain)).0 ≤ 2
unfolding step past_emoji alone
step-most c other = let own = of_kind-most c (kind c) other in grind (arith, nat_tests, own)

pub others_take_two : (c : ℕ) → TakesTwoAtMost c
unfolding str_width
others_take_two c scalar other = subst (λ cs. str_width false cs ≤ 2) (sym (one_character c scalar).1) (step-most c other)
