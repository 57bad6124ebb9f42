-- Texts that don't contain a byte b.
use Rattle.std.proofs.Common.{◌≡◌, ◌<◌, ℕ, ◌+◌, ◌/◌, ◌%◌, Bool, true, false, cond, ◌==◌, [], ◌∷◌, ◌++◌, take, drop, encode_utf8, refl, sym, ◌∙◌, subst, arith}
use Rattle.std.specs.List.{list_any}
use Rattle.std.proofs.lemmas.Bool.{or_from, or_parts}
use Rattle.std.proofs.lemmas.Bool.Decides.{nat_tests}
use Rattle.std.proofs.lemmas.List.{take-append-drop}
use Rattle.std.proofs.lemmas.List.Folds.{list_any-append}
use lib.Dec.{ltb}
use lib.Utf8.{encode}
use Rattle.comfy_parts.specs.Text.{HasNo, Text}

module _ (b : ℕ) where
  -- if two texts don't contain b, their concatenation doesn't
  pub HasNo-append : (xs ys : Text) → HasNo b xs → HasNo b ys → HasNo b (xs ++ ys)
  HasNo-append xs ys front back =
      list_any-append (λ x. x == b) xs ys ∙ or_from (list_any (λ x. x == b) xs) (list_any (λ x. x == b) ys) front back

  -- if a concatenation doesn't contain b, neither part does
  pub HasNo-parts : (xs ys : Text) → HasNo b (xs ++ ys) → HasNo b xs × HasNo b ys
  HasNo-parts xs ys clear =
      or_parts (list_any (λ x. x == b) xs) (list_any (λ x. x == b) ys) (sym (list_any-append (λ x. x == b) xs ys) ∙ clear)

  -- if a text doesn't contain b, none of its prefixes does
  pub HasNo-take : (n : ℕ) (text : Text) → HasNo b text → HasNo b (take n text)
  HasNo-take n text clear = (HasNo-parts (take n text) (drop n text) (subst (HasNo b) (sym (take-append-drop n text)) clear)).0

  pub HasNo-drop : (n : ℕ) (text : Text) → HasNo b text → HasNo b (drop n text)
  HasNo-drop n text clear = (HasNo-parts (take n text) (drop n text) (subst (HasNo b) (sym (take-append-drop n text)) clear)).1

-- a number that is greater than b is different from b
greater : (b : ℕ) (c : ℕ) → b < c → (c == b) ≡ false
greater b c high = grind (arith, nat_tests)

-- the UTF-8 of a character other than b doesn't contain b, if b is ASCII
pub encoded_clear : (b c : ℕ) → b < 128 → (c == b) ≡ false → HasNo b (encode_utf8 c)
unfolding encode
encoded_clear b c seven other = by_size (ltb c 128) (ltb c 2048) (ltb c 65536)
  where
    next : (n : ℕ) → ((128 + n % 64) == b) ≡ false
    next n = greater b (128 + n % 64) (omega (arith, seven))

    by_size : (one two three : Bool)
        → HasNo b (cond one (c ∷ []) (cond two ((192 + c / 64) ∷ (128 + c % 64) ∷ []) (cond three ((224 + c / 4096) ∷ (128 + (c / 64) % 64) ∷ (128 + c % 64) ∷ []) ((240 + c / 262144) ∷ (128 + (c / 4096) % 64) ∷ (128 + (c / 64) % 64) ∷ (128 + c % 64) ∷ []))))
    by_size true two three = or_from (c == b) false other refl
    by_size false true three =
        or_from _ _ (greater b (192 + c / 64) (omega (arith, seven))) (or_from _ false (next c) refl)
    by_size false false true =
        or_from _ _ (greater b (224 + c / 4096) (omega (arith, seven))) (or_from _ _ (next (c / 64)) (or_from _ false (next c) refl))
    by_size false false false =
        or_from _ _ (greater b (240 + c / 262144) (omega (arith, seven))) (or_from _ _ (next (c / 4096)) (or_from _ _ (next (c / 64)) (or_from _ false (next c) refl)))
