-- A border between two runs of spaces, and the slice that is copied from them.
use Rattle.std.proofs.Common.{◌≡◌, ◌≤◌, ℕ, zero, suc, ◌+◌, ◌-◌, ◌++◌, length, take, drop, refl, ap, sym, subst, ◌∙◌, arith, append_assoc}
use Rattle.std.proofs.Math.Seq.{drop-append_seam, take-append_seam}
use Rattle.std.proofs.lemmas.List.{length-append, length-replicate}
use Rattle.std.proofs.lemmas.Str.{IsCharBoundary-at_seam, IsUtf8-append, IsUtf8-past_char}
use Rattle.std.specs.Prelude.{IsCharBoundary, IsUtf8}
use Rattle.comfy_parts.specs.Text.{Text, spaces}
use Rattle.comfy_table.proofs.SpaceLemmas.{spaces-append, spaces-utf8}

-- a run splits into two
run_of : (n k : ℕ) → k ≤ n → spaces n ≡ spaces (n - k) ++ spaces k
run_of n k within = let e : n ≡ n - k + k = omega (arith, within) in ap spaces e ∙ sym (spaces-append (n - k) k)

-- the text after spaces is UTF-8, if all is
past_spaces : (n : ℕ) (text : Text) → IsUtf8 (spaces n ++ text) → IsUtf8 text
unfolding lib.Utf8.encode
past_spaces zero text whole = whole
past_spaces (suc n) text whole = past_spaces n text (IsUtf8-past_char (spaces (suc n) ++ text) (spaces n ++ text) 0x20 whole refl)

module _ (text border : Text) (n before after : ℕ) (is : text ≡ spaces n ++ (border ++ spaces n)) (whole : IsUtf8 text) (b : before ≤ n) (a : after ≤ n) where
  -- the slice that is copied: spaces, the border, and spaces
  abbrev gap : Text
  gap = spaces before ++ (border ++ spaces after)

  abbrev rest : Text
  rest = spaces before ++ (border ++ spaces n)

  divided : text ≡ spaces (n - before) ++ rest
  divided = is ∙ ap (λ (t : Text). t ++ (border ++ spaces n)) (run_of n before b) ∙ append_assoc (spaces (n - before)) (spaces before) (border ++ spaces n)

  first_length : length (spaces (n - before)) ≡ n - before
  first_length = length-replicate (n - before) 0x20

  pub first_cut : IsCharBoundary text (n - before)
  first_cut =
      subst (IsCharBoundary text) first_length
      (IsCharBoundary-at_seam text (spaces (n - before)) rest divided (IsUtf8-append (spaces before) (border ++ spaces n) (spaces-utf8 before) (past_spaces n (border ++ spaces n) (subst IsUtf8 is whole))))

  pub first_left : drop (n - before) text ≡ rest
  first_left = ap (drop (n - before)) divided ∙ ap (λ i. drop i (spaces (n - before) ++ rest)) (sym first_length) ∙ drop-append_seam (spaces (n - before)) rest

  -- the rest ends with the spaces that aren't copied
  ended : rest ≡ gap ++ spaces (n - after)
  ended =
      let e : n ≡ after + (n - after) = omega (arith, a) in
      ap (λ (t : Text). spaces before ++ (border ++ t)) (ap spaces e ∙ sym (spaces-append after (n - after)))
      ∙ ap (λ (t : Text). spaces before ++ t) (sym (append_assoc border (spaces after) (spaces (n - after))))
      ∙ sym (append_assoc (spaces before) (border ++ spaces after) (spaces (n - after)))

  -- the length of the slice
  gap_length : length gap ≡ before + length border + after
  gap_length = grind (arith, length-append, length-replicate)

  pub second_cut : (left : Text) → left ≡ rest → IsCharBoundary left (before + length border + after)
  second_cut left is =
      subst (IsCharBoundary left) gap_length (IsCharBoundary-at_seam left gap (spaces (n - after)) (is ∙ ended) (spaces-utf8 (n - after)))

  pub copied : (left : Text) → left ≡ rest → take (before + length border + after) left ≡ gap
  copied left is =
      ap (take (before + length border + after)) (is ∙ ended) ∙ ap (λ i. take i (gap ++ spaces (n - after))) (sym gap_length) ∙ take-append_seam gap (spaces (n - after))
