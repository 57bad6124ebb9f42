-- A line ends after the first of its elements for which rule 2 holds, stated by sums over its elements.
use Rattle.std.proofs.Common.{◌≡◌, ◌<◌, ◌≤◌, inl, inr, ℕ, zero, suc, ◌+◌, ◌-◌, ◌*◌, Bool, true, false, List, [], ◌∷◌, length, take, sum_by, ap, ◌∙◌, arith, slice_index_or}
use Rattle.std.specs.Prelude.{encode_utf8, ◌||◌, nat_lt, nat_le}
use Rattle.std.proofs.lemmas.Bool.{cases_Bool}
use Rattle.std.proofs.lemmas.Bool.Decides.{nat_tests}
use Rattle.std.proofs.lemmas.List.Sums.{sum_by-cons}
use Rattle.cluster_width.proofs.SpaceMeasureLemmas.{measure-nil}
use Rattle.comfy_parts.specs.Laws.{EndsAtFirst, FittingLinesEndAtFirst, IsFirstOf, WideElementsAreCut, bytes_to, columns_to, ends_after}
use Rattle.comfy_parts.specs.Text.{Text, elements, measure}
use Rattle.comfy_parts.specs.Wrapping.{bytes_of_line, bytes_taken, head_or_first, line_end, part_taken}

module _ (w d : ℕ) where
  -- the terminal columns that are filled with the first j further elements and the delimiters before them
  abbrev filled_to : ℕ → List Text → ℕ → ℕ
  filled_to filled others j = filled + sum_by measure (take j others) + j * measure (encode_utf8 d)

  -- true if the line ends after j further elements
  abbrev ends_at : ℕ → List Text → ℕ → Bool
  ends_at filled others j =
      nat_lt (w - 2) (filled_to filled others j) || (nat_le (length others) j || nat_lt w (filled_to filled others j + 1 + measure (slice_index_or others j [])))

  -- the line takes the further elements up to the first one after which it ends, and rule 3's part of the one after it
  record EndsAt (filled : ℕ) (others : List Text) : Type 0 where
    pub last : ℕ
    pub is_first : IsFirstOf (ends_at filled others) last
    pub takes : bytes_taken w d filled others ≡ sum_by length (take last others) + last * length (encode_utf8 d) + part_taken w d (filled_to filled others last) (slice_index_or others last [])

  -- the filled columns with one more element
  filled_more : (filled : ℕ) (next : Text) (others : List Text) (j : ℕ)
      → filled_to filled (next ∷ others) (suc j) ≡ filled_to (filled + measure next + measure (encode_utf8 d)) others j
  filled_more filled next others j = let sums = sum_by-cons measure next (take j others) in omega (arith, sums)

  -- a line ends after j + 1 further elements exactly if it ends after j of them, counted from the next one on
  ends_more : (filled : ℕ) (next : Text) (others : List Text) (j : ℕ)
      → ends_at filled (next ∷ others) (suc j) ≡ ends_at (filled + measure next + measure (encode_utf8 d)) others j
  ends_more filled next others j = let more = filled_more filled next others j in grind (arith, nat_tests, more)

  -- zero further elements fill no terminal column
  none_more : (filled : ℕ) (others : List Text) → filled_to filled others 0 ≡ filled
  none_more filled others = omega arith

  -- a line that takes no further element
  at_once : (filled : ℕ) (others : List Text) → ends_at filled others 0 ≡ true → bytes_taken w d filled others ≡ part_taken w d filled (slice_index_or others 0 []) → EndsAt filled others
  at_once filled others ends takes =
      record {
        last = 0;
        is_first = record { holds = ends; before = λ i below. absurd (omega (arith, below)) };
        takes = let part = ap (λ n. part_taken w d n (slice_index_or others 0 [])) (none_more filled others) in grind (arith, takes, part);
      }

  -- a line that takes the first of the further elements
  and_more : (filled : ℕ) (next : Text) (others : List Text) → nat_lt (w - 2) filled ≡ false → nat_lt w (filled + 1 + measure next) ≡ false
      → EndsAt (filled + measure next + measure (encode_utf8 d)) others → EndsAt filled (next ∷ others)
  and_more filled next others ongoing room rest =
      record { last = suc rest.last; is_first = record { holds = ends_more filled next others rest.last ∙ rest.is_first.holds; before = before }; takes = takes }
    where
      before : (i : ℕ) → i < suc rest.last → ends_at filled (next ∷ others) i ≡ false
      before zero below = let none = none_more filled (next ∷ others) in grind (arith, nat_tests, none, ongoing, room)
      before (suc i) below = ends_more filled next others i ∙ rest.is_first.before i (omega (arith, below))

      takes : bytes_taken w d filled (next ∷ others) ≡ sum_by length (next ∷ take rest.last others) + suc rest.last * length (encode_utf8 d) + part_taken w d (filled_to filled (next ∷ others) (suc rest.last)) (slice_index_or others rest.last [])
      takes =
          let sums = sum_by-cons length next (take rest.last others) in
          let part = ap (λ n. part_taken w d n (slice_index_or others rest.last [])) (filled_more filled next others rest.last) in
          grind (arith, ongoing, room, sums, part, rest.takes)

  ends_at_first : (filled : ℕ) (others : List Text) → EndsAt filled others
  ends_at_first filled [] = at_once filled [] (grind (arith, nat_tests)) (let none = measure-nil in grind (arith, nat_tests, none))
  ends_at_first filled (next ∷ others) =
      elim (cases_Bool (nat_lt (w - 2) filled)) [
        | inl full ↦ at_once filled (next ∷ others) (let none = none_more filled (next ∷ others) in grind (arith, nat_tests, none, full)) (grind (arith, nat_tests, full))
        | inr ongoing ↦
            elim (cases_Bool (nat_lt w (filled + 1 + measure next))) [
              | inl wide ↦ at_once filled (next ∷ others) (let none = none_more filled (next ∷ others) in grind (arith, nat_tests, none, wide)) (grind (arith, nat_tests, ongoing, wide))
              | inr room ↦ and_more filled next others ongoing room (ends_at_first (filled + measure next + measure (encode_utf8 d)) others)
            ]
      ]

  -- the columns and bytes of a first element and of further ones
  columns_from : (first : Text) (others : List Text) (j : ℕ) → columns_to d (first ∷ others) j ≡ filled_to (measure first) others j
  columns_from first others j = let sums = sum_by-cons measure first (take j others) in omega (arith, sums)

  bytes_from : (first : Text) (others : List Text) (j : ℕ) → bytes_to d (first ∷ others) j ≡ length first + (sum_by length (take j others) + j * length (encode_utf8 d))
  bytes_from first others j = let sums = sum_by-cons length first (take j others) in omega (arith, sums)

  ends_from : (first : Text) (others : List Text) (j : ℕ) → ends_after w d (first ∷ others) j ≡ ends_at (measure first) others j
  ends_from first others j = let columns = columns_from first others j in grind (arith, nat_tests, columns)

  -- a line of these elements ends by the sums
  of_line : (es : List Text) → measure (slice_index_or es 0 []) ≤ w → EndsAtFirst w d es (bytes_of_line w d es)
  of_line [] fits =
      record {
        last = 0;
        is_first = record { holds = grind (arith, nat_tests); before = λ i below. absurd (omega (arith, below)) };
        takes = let none = measure-nil in grind (arith, nat_tests, none);
      }
  of_line (first ∷ others) fits =
      let rest = ends_at_first (measure first) others in
      let part = ap (λ n. part_taken w d n (slice_index_or others rest.last [])) (columns_from first others rest.last) in
      let bytes = bytes_from first others rest.last in
      record {
        last = rest.last;
        is_first = record { holds = ends_from first others rest.last ∙ rest.is_first.holds; before = λ i below. ends_from first others i ∙ rest.is_first.before i below };
        takes = grind (arith, nat_tests, fits, part, bytes, rest.takes);
      }

  cut_first : (es : List Text) → w < measure (slice_index_or es 0 []) → bytes_of_line w d es ≡ length (head_or_first w (slice_index_or es 0 []))
  cut_first [] wide = let none = measure-nil in absurd (omega (arith, none, wide))
  cut_first (first ∷ others) wide = grind (arith, nat_tests, wide)

pub fitting_end : (w d : ℕ) (text : Text) → FittingLinesEndAtFirst w d text
unfolding line_end
fitting_end w d text fits = of_line w d (elements d text) fits

pub wide_end : (w d : ℕ) (text : Text) → WideElementsAreCut w d text
unfolding line_end
wide_end w d text wide = cut_first w d (elements d text) wide
