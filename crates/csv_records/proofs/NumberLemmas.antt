-- The ends of a text, and digits in groups.
use Rattle.std.proofs.Common.{◌≡◌, ◌<◌, ◌≤◌, ◌+◌, ◌-◌, ◌==◌, ◌&&◌, ℕ, Bool, true, false, nat_le, nat_lt, List, [], ◌∷◌, ◌++◌, IsUtf8, chars, drop, take, encode_utf8, encode_utf8_all, length, refl, sym, ap, ◌∙◌, subst, arith, append-nil, length-append}
use Rattle.std.proofs.Math.Seq.{drop-append_seam, take-append_seam}
use Rattle.std.proofs.lemmas.List.Splits.{slice_split-cons_no, slice_split-cons_yes}
use Rattle.std.proofs.lemmas.Str.{IsCharBoundary-from_take, IsUtf8-drop, IsUtf8-past_char, chars-append, chars-nil, chars_past_char, encodes-chars}
use Rattle.std.specs.Bool.{beq}
use Rattle.std.specs.Char.{is_ascii_digit}
use Rattle.std.specs.List.{list_all, onto_first, slice_split}
use Rattle.ucd_category.proofs.GeneralCategoryLemmas.{general_category_stepped}
use Rattle.ucd_category.specs.GeneralCategory.{general_category, general_category_number}
use Rattle.ucd_table.proofs.Computing.{tables}
use Rattle.ucd_table.proofs.Facts.{Stepped-below, same_from_beq}
use Rattle.comfy_parts.specs.Text.{Text}
use Rattle.csv_records.specs.Number.{are_groups, ends, is_currency, is_group, is_group_len, is_grouped, without_first, without_last}

-- ---- currencies

-- the dollar is the only currency symbol of ASCII
pub ascii_currency : (c : ℕ) → c < 128 → is_currency c ≡ (c == 0x24)
unfolding tables general_category_stepped
ascii_currency c small =
    same_from_beq _ _ (Stepped-below general_category general_category_stepped (λ c g. beq (general_category_number g == 19) (c == 0x24)) 128 refl c small)

-- ---- the ends of a text

pub chars-none : (text : Text) → length text ≡ 0 → chars text ≡ []
chars-none [] none = chars-nil
chars-none (b ∷ bs) none = absurd (omega (arith, none))

-- the last character of a list with one more is that one
ends-last : (p : ℕ → Bool) (cs : List ℕ) (c : ℕ) → ends p (cs ++ c ∷ []) ≡ p c
ends-last p [] c = refl
ends-last p (d ∷ []) c = refl
ends-last p (d ∷ e ∷ cs) c = ends-last p (e ∷ cs) c

module _ (text rest : Text) (c : ℕ) (utf8 : IsUtf8 text) (rest_utf8 : IsUtf8 rest) where
  pub after_first : text ≡ encode_utf8 c ++ rest → rest ≡ without_first text
  after_first splits = sym (encodes-chars rest rest_utf8) ∙ sym (ap (λ (cs : List ℕ). encode_utf8_all (drop 1 cs)) (chars_past_char text rest c utf8 splits))

  -- the last character alone is UTF-8
  last_utf8 : text ≡ rest ++ encode_utf8 c → IsUtf8 (encode_utf8 c)
  last_utf8 splits =
      let front : take (length rest) text ≡ rest = ap (take (length rest)) splits ∙ take-append_seam rest (encode_utf8 c) in
      let back : drop (length rest) text ≡ encode_utf8 c = ap (drop (length rest)) splits ∙ drop-append_seam rest (encode_utf8 c) in
      let long = ap length splits ∙ length-append rest (encode_utf8 c) in
      subst IsUtf8 back (IsUtf8-drop text (length rest) utf8 (IsCharBoundary-from_take text (length rest) utf8 (omega (arith, long)) (subst IsUtf8 (sym front) rest_utf8)))

  pub chars-last : text ≡ rest ++ encode_utf8 c → chars text ≡ chars rest ++ c ∷ []
  chars-last splits =
      ap chars splits ∙ chars-append rest (encode_utf8 c) rest_utf8
      ∙ ap (λ (cs : List ℕ). chars rest ++ cs) (chars_past_char (encode_utf8 c) [] c (last_utf8 splits) (sym (append-nil (encode_utf8 c))) ∙ ap (λ (cs : List ℕ). c ∷ cs) chars-nil)

  pub ends-text : text ≡ rest ++ encode_utf8 c → (p : ℕ → Bool) → ends p (chars text) ≡ p c
  ends-text splits p = ap (ends p) (chars-last splits) ∙ ends-last p (chars rest) c

  pub before_last : text ≡ rest ++ encode_utf8 c → rest ≡ without_last text
  before_last splits =
      let cs = chars rest in
      let long : length (cs ++ c ∷ []) - 1 ≡ length cs = omega (arith, length-append cs (c ∷ [])) in
      sym (encodes-chars rest rest_utf8)
      ∙ ap encode_utf8_all (sym (ap (λ (n : ℕ). take n (cs ++ c ∷ [])) long ∙ take-append_seam cs (c ∷ [])))
      ∙ ap (λ (xs : List ℕ). encode_utf8_all (take (length xs - 1) xs)) (sym (chars-last splits))

-- ---- digits in groups

-- A walk has seen `count` digits of a group. The pieces to come are the rest of this group, and the groups after it.
abbrev pub continues : ℕ → Bool → ℕ → List (List ℕ) → Bool
continues size is_first count [] = false
continues size is_first count (piece ∷ others) = (is_group_len size is_first (count + length piece) && list_all is_ascii_digit piece) && list_all (is_group size false) others

module _ (size mark : ℕ) where
  abbrev pieces : List ℕ → List (List ℕ)
  pieces cs = slice_split (λ c. c == mark) cs

  record ArePieces (cs : List ℕ) : Type 0 where
    first : List ℕ
    others : List (List ℕ)
    are : pieces cs ≡ first ∷ others

  pieces_of : (cs : List ℕ) → ArePieces cs
  pieces_of [] = record { first = []; others = []; are = refl }
  pieces_of (c ∷ cs) = by_test (c == mark) refl (pieces_of cs)
    where
      by_test : (t : Bool) → (c == mark) ≡ t → ArePieces cs → ArePieces (c ∷ cs)
      by_test true is more = record { first = []; others = pieces cs; are = slice_split-cons_yes (λ x. x == mark) c cs is }
      by_test false is more =
          record { first = c ∷ more.first; others = more.others; are = slice_split-cons_no (λ x. x == mark) c cs is ∙ ap (onto_first c) more.are }

  -- before any digit of a group, the pieces to come are all its groups
  all_continue : (is_first : Bool) (first : List ℕ) (others : List (List ℕ)) → continues size is_first 0 (first ∷ others) ≡ is_group size is_first first && list_all (is_group size false) others
  all_continue is_first first others =
      let none : 0 + length first ≡ length first = omega arith in
      ap (λ (n : ℕ). (is_group_len size is_first n && list_all is_ascii_digit first) && list_all (is_group size false) others) none

  groups_continue : (cs : List ℕ) → are_groups size (pieces cs) ≡ continues size true 0 (pieces cs)
  groups_continue cs =
      let p = pieces_of cs in
      ap (are_groups size) p.are ∙ sym (all_continue true p.first p.others) ∙ ap (continues size true 0) (sym p.are)

  others_continue : (cs : List ℕ) → list_all (is_group size false) (pieces cs) ≡ continues size false 0 (pieces cs)
  others_continue cs =
      let p = pieces_of cs in
      ap (list_all (is_group size false)) p.are ∙ sym (all_continue false p.first p.others) ∙ ap (continues size false 0) (sym p.are)

  -- after a mark
  past_mark : (is_first : Bool) (count c : ℕ) (cs : List ℕ) → (c == mark) ≡ true → continues size is_first count (pieces (c ∷ cs)) ≡ is_group_len size is_first count && continues size false 0 (pieces cs)
  past_mark is_first count c cs is =
      let none : count + 0 ≡ count = omega arith in
      ap (continues size is_first count) (slice_split-cons_yes (λ x. x == mark) c cs is)
      ∙ ap (λ (n : ℕ). (is_group_len size is_first n && true) && list_all (is_group size false) (pieces cs)) none
      ∙ by_len (is_group_len size is_first count)
    where
      by_len : (fits : Bool) → ((fits && true) && list_all (is_group size false) (pieces cs)) ≡ fits && continues size false 0 (pieces cs)
      by_len false = refl
      by_len true = others_continue cs

  -- after another character
  past_other : (is_first : Bool) (count c : ℕ) (cs : List ℕ) → (c == mark) ≡ false → continues size is_first count (pieces (c ∷ cs)) ≡ is_ascii_digit c && continues size is_first (count + 1) (pieces cs)
  past_other is_first count c cs is =
      let p = pieces_of cs in
      let more : count + length (c ∷ p.first) ≡ (count + 1) + length p.first = omega arith in
      ap (continues size is_first count) (slice_split-cons_no (λ x. x == mark) c cs is ∙ ap (onto_first c) p.are)
      ∙ ap (λ (n : ℕ). (is_group_len size is_first n && (is_ascii_digit c && list_all is_ascii_digit p.first)) && list_all (is_group size false) p.others) more
      ∙ by_digit (is_ascii_digit c) (is_group_len size is_first ((count + 1) + length p.first))
      ∙ ap (λ (ps : List (List ℕ)). is_ascii_digit c && continues size is_first (count + 1) ps) (sym p.are)
    where
      by_digit : (digit fits : Bool) → ((fits && (digit && list_all is_ascii_digit (pieces_of cs).first)) && list_all (is_group size false) (pieces_of cs).others)
          ≡ digit && ((fits && list_all is_ascii_digit (pieces_of cs).first) && list_all (is_group size false) (pieces_of cs).others)
      by_digit true fits = refl
      by_digit false true = refl
      by_digit false false = refl

  -- no group has more digits than its size
  too_long : (is_first : Bool) (count : ℕ) (ps : List (List ℕ)) → size < count → continues size is_first count ps ≡ false
  too_long is_first count [] more = refl
  too_long true count (p ∷ ps) more = let none : nat_le (count + length p) size ≡ false = grind (arith, more) in rw none (by_len (nat_lt 0 (count + length p)))
    where
      by_len : (some : Bool) → (((some && false) && list_all is_ascii_digit p) && list_all (is_group size false) ps) ≡ false
      by_len true = refl
      by_len false = refl
  too_long false count (p ∷ ps) more = let none : ((count + length p) == size) ≡ false = grind (arith, more) in rw none refl

  -- a walk over a text has seen `count` digits of a group, and `rest` follows them
  pub record IsWalked (text rest : Text) (is_first : Bool) (count : ℕ) : Type 0 where
    pub utf8 : IsUtf8 rest
    pub value : is_grouped size mark text ≡ continues size is_first count (pieces (chars rest))

  pub walked-none : (text : Text) → IsUtf8 text → IsWalked text text true 0
  walked-none text utf8 = record { utf8 = utf8; value = groups_continue (chars text) }

  module _ (text rest later : Text) (is_first : Bool) (count c : ℕ) (walked : IsWalked text rest is_first count) (splits : rest ≡ encode_utf8 c ++ later) where
    value_past : is_grouped size mark text ≡ continues size is_first count (pieces (c ∷ chars later))
    value_past = walked.value ∙ ap (λ (cs : List ℕ). continues size is_first count (pieces cs)) (chars_past_char rest later c walked.utf8 splits)

    by_mark : (c == mark) ≡ true → is_grouped size mark text ≡ is_group_len size is_first count && continues size false 0 (pieces (chars later))
    by_mark is = value_past ∙ past_mark is_first count c (chars later) is

    by_other : (c == mark) ≡ false → is_grouped size mark text ≡ is_ascii_digit c && continues size is_first (count + 1) (pieces (chars later))
    by_other is = value_past ∙ past_other is_first count c (chars later) is

    pub walked-mark : (c == mark) ≡ true → is_group_len size is_first count ≡ true → IsWalked text later false 0
    walked-mark is fits =
        record { utf8 = IsUtf8-past_char rest later c walked.utf8 splits; value = by_mark is ∙ ap (λ b. b && continues size false 0 (pieces (chars later))) fits }

    pub walked-digit : (c == mark) ≡ false → is_ascii_digit c ≡ true → IsWalked text later is_first (count + 1)
    walked-digit is digit =
        record { utf8 = IsUtf8-past_char rest later c walked.utf8 splits; value = by_other is ∙ ap (λ b. b && continues size is_first (count + 1) (pieces (chars later))) digit }

    pub broken-mark : (c == mark) ≡ true → is_group_len size is_first count ≡ false → false ≡ is_grouped size mark text
    broken-mark is fits = sym (by_mark is ∙ ap (λ b. b && continues size false 0 (pieces (chars later))) fits)

    pub broken-other : (c == mark) ≡ false → is_ascii_digit c ≡ false → false ≡ is_grouped size mark text
    broken-other is other = sym (by_other is ∙ ap (λ b. b && continues size is_first (count + 1) (pieces (chars later))) other)

    pub broken-long : (c == mark) ≡ false → size ≤ count → false ≡ is_grouped size mark text
    broken-long is long = sym (by_other is ∙ ap (λ b. is_ascii_digit c && b) (too_long is_first (count + 1) (pieces (chars later)) (omega (arith, long))) ∙ by_digit (is_ascii_digit c))
      where
        by_digit : (digit : Bool) → (digit && false) ≡ false
        by_digit true = refl
        by_digit false = refl

  pub walked-end : (text rest : Text) (is_first : Bool) (count : ℕ) → IsWalked text rest is_first count → length rest ≡ 0 → is_group_len size is_first count ≡ is_grouped size mark text
  walked-end text rest is_first count walked none =
      let all : count + 0 ≡ count = omega arith in
      sym (walked.value ∙ ap (λ (cs : List ℕ). continues size is_first count (pieces cs)) (chars-none rest none) ∙ ap (λ (n : ℕ). (is_group_len size is_first n && true) && true) all ∙ by_len (is_group_len size is_first count))
    where
      by_len : (fits : Bool) → ((fits && true) && true) ≡ fits
      by_len true = refl
      by_len false = refl
