-- The text of a row's line as it grows, piece by piece.
use Rattle.std.proofs.Common.{◌≡◌, ◌<◌, ℕ, zero, suc, ◌+◌, Bool, true, List, [], ◌∷◌, ◌++◌, length, map, take, nat_lt, sym, ap, ◌∙◌, arith, append-nil, append_assoc, slice_index_or}
use Rattle.std.proofs.lemmas.Bool.Decides.{nat_tests}
use Rattle.std.proofs.lemmas.List.{take_all}
use Rattle.std.specs.List.{join_by}
use Rattle.std.specs.Prelude.{if◌then◌else◌}
use Rattle.comfy_parts.specs.Text.{Text}
use Rattle.comfy_parts.proofs.CallerLemmas.{join_by-map, join_by_more}
use Rattle.comfy_table.specs.Gaps.{RowGapsValue, gap_line}

-- the gap before the piece at a position
abbrev pub gap_before : ℕ → RowGapsValue → Text
gap_before position gaps = if nat_lt 0 position then gaps.junction else gaps.left

module _ {X : Type 0} (gaps : RowGapsValue) (f : X → Text) where
  -- the first pieces, each with the gap before it
  abbrev pub joined_to : (xs : List X) (i : ℕ) → Text
  joined_to xs i = if nat_lt 0 i then gaps.left ++ join_by f gaps.junction (take i xs) else []

  -- one piece more
  joined_more : (xs : List X) (i : ℕ) (x : X) → i < length xs → x ≡ slice_index_or xs i x → joined_to xs i ++ (gap_before i gaps ++ f x) ≡ joined_to xs (i + 1)
  joined_more [] i x below is = absurd (omega (arith, below))
  joined_more (y ∷ ys) zero x below is = ap (λ (z : X). gaps.left ++ f z) is ∙ ap (λ (t : Text). gaps.left ++ t) (sym (append-nil (f y)))
  joined_more (y ∷ ys) (suc i) x below is =
      let more = join_by_more f gaps.junction (y ∷ ys) (suc i) x below is in
      grind (arith, more, append_assoc)

  -- one piece more, if the text lacks spaces at its end: the next gap takes them
  pub gap_more : (xs : List X) (i : ℕ) (x : X) (start line gap before piece : Text) → i < length xs → x ≡ slice_index_or xs i x
      → line ++ before ≡ start ++ joined_to xs i → gap ≡ gap_before i gaps → piece ≡ f x
      → line ++ (before ++ (gap ++ piece)) ≡ start ++ joined_to xs (i + 1)
  gap_more xs i x start line gap before piece below is made chosen one =
      sym (append_assoc line before (gap ++ piece))
      ∙ ap (λ (t : Text). t ++ (gap ++ piece)) made
      ∙ append_assoc start (joined_to xs i) (gap ++ piece)
      ∙ ap (λ (t : Text). start ++ (joined_to xs i ++ (t ++ piece))) chosen
      ∙ ap (λ (t : Text). start ++ (joined_to xs i ++ (gap_before i gaps ++ t))) one
      ∙ ap (λ (t : Text). start ++ t) (joined_more xs i x below is)

  -- all pieces
  pub joined_all : (xs : List X) → 0 < length xs → joined_to xs (length xs) ++ gaps.right ≡ gap_line gaps (map f xs)
  joined_all xs some =
      let more : nat_lt 0 (length xs) ≡ true = grind (arith, nat_tests, some) in
      ap (λ (b : Bool). (if b then gaps.left ++ join_by f gaps.junction (take (length xs) xs) else []) ++ gaps.right) more
      ∙ ap (λ (ys : List X). (gaps.left ++ join_by f gaps.junction ys) ++ gaps.right) (take_all (length xs) xs (omega arith))
      ∙ append_assoc gaps.left (join_by f gaps.junction xs) gaps.right
      ∙ ap (λ (t : Text). gaps.left ++ (t ++ gaps.right)) (sym (join_by-map (λ (piece : Text). piece) f gaps.junction xs))
