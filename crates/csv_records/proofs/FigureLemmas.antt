-- Spaces around a field, and its figure, which goes from its first digit or decimal mark to its last one.
use Rattle.std.proofs.Common.{◌≡◌, ◌⊎◌, inl, inr, ◌<◌, ◌≤◌, ◌+◌, ◌-◌, ◌==◌, ◌||◌, ℕ, zero, suc, Bool, true, false, List, [], ◌∷◌, ◌++◌, Option, IsUtf8, chars, take, get_or, length, length-append, unwrap_or, refl, sym, ap, ◌∙◌, subst, arith, rules, tests}
use Rattle.std.proofs.lemmas.Bool.{and_from, and_parts, cases_lt}
use Rattle.std.proofs.lemmas.List.{reverse-append, reverse-reverse, take-append-le, take_all}
use Rattle.std.proofs.lemmas.List.Sums.{prefix_len-le-length, prefix_len_stops}
use Rattle.std.proofs.lemmas.Slice.Eq.{bytes_eq-Decides}
use Rattle.std.proofs.lemmas.Str.{IsCharBoundary-after_ascii, IsCharBoundary-before_ascii, IsCharBoundary-end, IsCharBoundary-start, scalars-chars}
use mathlib.Core.List.{reverse}
use Rattle.std.specs.Char.{is_ascii_uppercase}
use Rattle.std.specs.List.{list_all, position, prefix_len, suffix_len}
use Rattle.std.specs.Str.{IsCharBoundary, all_scalars, bytes_eq}
use Rattle.comfy_parts.specs.Text.{Text}
use Rattle.csv_records.specs.Number.{begins, currency_codes, is_among, is_code, is_inner, is_one, is_outer, to_other, without_last}
use Rattle.csv_records.proofs.NumberLemmas.{chars-none}

-- ---- the end of a list

module _ (p : ℕ → Bool) (xs : List ℕ) (c : ℕ) where
  reversed : reverse (xs ++ c ∷ []) ≡ c ∷ reverse xs
  reversed = reverse-append xs (c ∷ [])

  -- a last element that passes is taken off
  pub to_other-passes : p c ≡ true → to_other p (xs ++ c ∷ []) ≡ to_other p xs
  to_other-passes is =
      let one : suffix_len p (xs ++ c ∷ []) ≡ 1 + suffix_len p xs = ap (prefix_len p) reversed ∙ (rw is refl) in
      let less : length (xs ++ c ∷ []) - suffix_len p (xs ++ c ∷ []) ≡ length xs - suffix_len p xs = omega (arith, one, length-append xs (c ∷ [])) in
      ap (λ (n : ℕ). take n (xs ++ c ∷ [])) less ∙ take-append-le (length xs - suffix_len p xs) xs (c ∷ []) (omega arith)

  -- a last element that doesn't pass stays, and all before it
  pub to_other-stops : p c ≡ false → to_other p (xs ++ c ∷ []) ≡ xs ++ c ∷ []
  to_other-stops is =
      let none : suffix_len p (xs ++ c ∷ []) ≡ 0 = ap (prefix_len p) reversed ∙ (rw is refl) in
      ap (λ (n : ℕ). take (length (xs ++ c ∷ []) - n) (xs ++ c ∷ [])) none ∙ take_all (length (xs ++ c ∷ []) - 0) (xs ++ c ∷ []) (omega arith)

-- induction on a list from its end
pub by_end : (P : List ℕ → Type 0) → P [] → ((xs : List ℕ) (c : ℕ) → P xs → P (xs ++ c ∷ [])) → (xs : List ℕ) → P xs
by_end P none more xs = subst P (reverse-reverse xs) (over (reverse xs))
  where
    over : (ys : List ℕ) → P (reverse ys)
    over [] = none
    over (y ∷ ys) = subst P (sym (reverse-append (y ∷ []) ys)) (more (reverse ys) y (over ys))

-- a list of characters stays one when it is cut
pub scalars-take : (n : ℕ) (cs : List ℕ) → all_scalars cs ≡ true → all_scalars (take n cs) ≡ true
scalars-take zero cs is = refl
scalars-take (suc n) [] is = refl
scalars-take (suc n) (c ∷ cs) is = let parts = and_parts _ (all_scalars cs) is in and_from _ _ parts.0 (scalars-take n cs parts.1)

pub utf8-without_last : (text : Text) → IsUtf8 text → IsUtf8 (without_last text)
utf8-without_last text utf8 = (take (length (chars text) - 1) (chars text), (scalars-take (length (chars text) - 1) (chars text) (scalars-chars text utf8), refl))

-- ---- the ends of a figure

inner_small : (b : ℕ) → is_outer b ≡ false → b < 128
inner_small b is = search (rules, tests)

-- the place of the first digit or mark, or the end of the text
pub start_at : (text : Text) (place : Option ℕ) → place ≡ position is_inner text → unwrap_or place (length text) ≡ prefix_len is_outer text
start_at text place same = rw same (by_size (cases_lt (prefix_len is_outer text) (length text)))
  where
    by_size : (prefix_len is_outer text < length text) ⊎ (length text ≤ prefix_len is_outer text) → unwrap_or (position is_inner text) (length text) ≡ prefix_len is_outer text
    by_size (inl below) = grind (arith, below)
    by_size (inr none) = let most = prefix_len-le-length is_outer text in grind (arith, none, most)

pub start_boundary : (text : Text) → IsUtf8 text → IsCharBoundary text (prefix_len is_outer text)
start_boundary text utf8 = by_size (cases_lt (prefix_len is_outer text) (length text))
  where
    by_size : (prefix_len is_outer text < length text) ⊎ (length text ≤ prefix_len is_outer text) → IsCharBoundary text (prefix_len is_outer text)
    by_size (inl below) = IsCharBoundary-before_ascii text (prefix_len is_outer text) below (inner_small _ (prefix_len_stops is_outer text 0 below))
    by_size (inr none) =
        let most = prefix_len-le-length is_outer text in
        let same : length text ≡ prefix_len is_outer text = omega (arith, none, most) in
        subst (IsCharBoundary text) same (IsCharBoundary-end text)

-- a character ends after a digit or mark, and at the start of the text
pub boundary_after : (text : Text) (end : ℕ) → IsUtf8 text → end ≤ length text → (0 < end → is_outer (get_or text (end - 1) 0) ≡ false) → IsCharBoundary text end
boundary_after text zero utf8 within inner = IsCharBoundary-start text utf8
boundary_after text (suc n) utf8 within inner =
    let one : suc n - 1 ≡ n = omega arith in
    let more : n + 1 ≡ suc n = omega arith in
    subst (IsCharBoundary text) more (IsCharBoundary-after_ascii text n utf8 (omega (arith, within)) (inner_small (get_or text n 0) (ap (λ (k : ℕ). is_outer (get_or text k 0)) (sym one) ∙ inner (omega arith))))

-- ---- single characters, and codes

-- if nothing follows a character of a text, the text is that character
pub one_alone : (p : ℕ → Bool) (text rest : Text) (c : ℕ) → chars text ≡ c ∷ chars rest → length rest ≡ 0 → p c ≡ is_one p (chars text)
one_alone p text rest c same none = sym (ap (is_one p) (same ∙ ap (λ (cs : List ℕ). c ∷ cs) (chars-none rest none)))

-- a word of a list has the property that all words of the list have
pub among-all : (P : Text → Bool) (words : List Text) (text : Text) → list_all P words ≡ true → is_among words text ≡ true → P text ≡ true
among-all P [] text all is = absurd (cc is)
among-all P (word ∷ words) text all is =
    let parts = and_parts (P word) (list_all P words) all in
    by_first (bytes_eq text word) refl parts.0 (among-all P words text parts.1) is
  where
    by_first : (b : Bool) → bytes_eq text word ≡ b → P word ≡ true → (is_among words text ≡ true → P text ≡ true) → (b || is_among words text) ≡ true → P text ≡ true
    by_first true same one others found = let equal : text ≡ word = (bytes_eq-Decides text word).0 same in subst (λ t. P t ≡ true) (sym equal) one
    by_first false same one others found = others found

-- a code has the property that all codes have
no_code : (P : Text → Bool) (text : Text) → list_all P currency_codes ≡ true → P text ≡ false → false ≡ is_code text
no_code P text all none = by_code (is_code text) refl
  where
    by_code : (b : Bool) → is_code text ≡ b → false ≡ b
    by_code false is = refl
    by_code true is = absurd (cc (none, among-all P currency_codes text all is))

-- codes begin with capitals, and have three letters
pub no_capital : (text : Text) → begins is_ascii_uppercase text ≡ false → false ≡ is_code text
no_capital text none = no_code (begins is_ascii_uppercase) text refl none

pub other_length : (text : Text) → (length text == 3) ≡ false → false ≡ is_code text
other_length text none = no_code (λ word. length word == 3) text refl none
