-- Lists cut into parts.
-- Source: this library's own.
use Rattle.std.specs.Prelude.{ℕ, List, [], ◌∷◌, drop, sum_by, take}

-- the consecutive parts of a list that have these lengths
abbrev pub cut_by : {A : Type 0} → List ℕ → List A → List (List A)
cut_by [] xs = []
cut_by (n ∷ ns) xs = take n xs ∷ cut_by ns (drop n xs)

-- the length of a list that has parts of these lengths
abbrev pub total : List ℕ → ℕ
total ns = sum_by (λ n. n) ns
