-- A space, and each character like it, adds one terminal column between any texts.
use Rattle.std.proofs.Common.{◌≡◌, ◌<◌, ℕ, zero, suc, ◌+◌, Bool, true, false, cond, List, [], ◌∷◌, ◌++◌, ◌&&◌, length, replicate, not, refl, sym, ap, ◌∙◌, arith, append-nil, zero-add, add_comm}
use Rattle.std.specs.Char.{IsScalar}
use Rattle.std.specs.Int.{is_in_range}
use Rattle.std.specs.List.{list_all}
use Rattle.std.specs.Prelude.{chars, encode_utf8, IsUtf8}
use Rattle.std.proofs.lemmas.List.{length-replicate}
use Rattle.std.proofs.lemmas.Str.{chars-append, encode_ascii, IsUtf8-nil, chars-encodes}
use Rattle.unicode_width.specs.declared.state.State.{State}
use Rattle.unicode_width.specs.Width.{plain, if_kept, past_emoji, step, read_before, str_width}
use Rattle.unicode_width.proofs.Computing.{unicode_width}
use Rattle.unicode_width.proofs.Rules.{is_simple, str_width-append_simple}
use Rattle.unicode_width.proofs.WidthLemmas.{read_before-printable}
use Rattle.cluster_width.specs.ClusterSums.{Text, measure}
use Rattle.cluster_width.proofs.Sums.{read_before-append}
use Rattle.std.specs.Str.{all_scalars}

-- the UTF-8 of a character is a text of this character
pub one_character : (d : ℕ) → IsScalar d → IsUtf8 (encode_utf8 d) × (chars (encode_utf8 d) ≡ d ∷ [])
one_character d scalar =
    let scalars : all_scalars (d ∷ []) ≡ true = ap (λ s. s && true) scalar in
    let text : IsUtf8 (encode_utf8 d) = (d ∷ [], (scalars, append-nil (encode_utf8 d))) in
    (text, ap chars (sym (append-nil (encode_utf8 d))) ∙ chars-encodes (d ∷ []) scalars)

-- n spaces, as characters
abbrev blanks : ℕ → List ℕ
blanks n = replicate n 0x20

printable-blanks : (n : ℕ) → list_all (is_in_range 0x20 0x7E) (blanks n) ≡ true
printable-blanks zero = refl
printable-blanks (suc n) = printable-blanks n

read-blanks : (n : ℕ) → (n, plain) ≡ read_before false (blanks n) (0, plain)
read-blanks n =
    ap (λ (m : ℕ). (m, plain)) (sym (zero-add (length (blanks n)) ∙ length-replicate n 0x20)) ∙ read_before-printable false (blanks n) [] 0 (printable-blanks n) refl
    ∙ ap (λ l. read_before false l (0, plain)) (append-nil (blanks n))

-- a text adds its width to any total after it, if no character is joined at its end
read-from : (xs : List ℕ) (n : ℕ) → (read_before false xs (n, plain)).0 ≡ str_width false xs + n
unfolding str_width
read-from xs n =
    ap (λ r. (read_before false xs r).0) (read-blanks n) ∙ sym (ap (λ r. r.0) (read_before-append xs (blanks n) (0, plain)))
    ∙ str_width-append_simple false xs (blanks n) (all_simple n)
    ∙ ap (λ m. str_width false xs + m) (sym (ap (λ r. r.0) (read-blanks n)))
  where
    all_simple : (n : ℕ) → list_all is_simple (blanks n) ≡ true
    all_simple zero = refl
    all_simple (suc n) = all_simple n

-- the character adds one terminal column when it is read, and leaves the initial state
abbrev pub Seals : ℕ → Type 0
Seals c = (n : ℕ) (s : State) → step false c (n, s) ≡ (n + 1, plain)

-- a space does so
pub space_seals : Seals 0x20
unfolding unicode_width
space_seals n s = by_flag s.emoji s
  where
    by_flag : (b : Bool) (s : State) → cond (not b) (past_emoji false 0x20 n s) (past_emoji false 0x20 n (record (if_kept s) { emoji = false })) ≡ (n + 1, plain)
    by_flag true s = refl
    by_flag false s = refl

-- such a character adds one terminal column between any two lists of characters
width-sealed : (c : ℕ) (xs ys : List ℕ) → Seals c → str_width false (xs ++ c ∷ ys) ≡ str_width false xs + (1 + str_width false ys)
unfolding str_width
width-sealed c xs ys seals =
    let r = read_before false ys (0, plain) in
    let more : r.0 + 1 ≡ 1 + r.0 = add_comm r.0 1 in
    ap (λ q. q.0) (read_before-append xs (c ∷ ys) (0, plain)) ∙ ap (λ q. (read_before false xs q).0) (seals r.0 r.1) ∙ read-from xs (r.0 + 1)
    ∙ ap (λ n. str_width false xs + n) more

-- such a character adds one terminal column between any two texts
pub measure-sealed : (c : ℕ) (front back : Text) → IsScalar c → Seals c → IsUtf8 front → measure (front ++ (encode_utf8 c ++ back)) ≡ measure front + (1 + measure back)
measure-sealed c front back scalar seals utf8 =
    let one = one_character c scalar in
    ap (str_width false) (chars-append front (encode_utf8 c ++ back) utf8 ∙ ap (λ cs. chars front ++ cs) (chars-append (encode_utf8 c) back one.0 ∙ ap (λ cs. cs ++ chars back) one.1))
    ∙ width-sealed c (chars front) (chars back) seals

-- a space adds one terminal column between any two texts
pub measure-space : (front back : Text) → IsUtf8 front → measure (front ++ 0x20 ∷ back) ≡ measure front + (1 + measure back)
measure-space front back utf8 =
    ap (λ (c : Text). measure (front ++ (c ++ back))) (sym (encode_ascii 0x20 (omega arith))) ∙ measure-sealed 0x20 front back refl space_seals utf8

-- ---- n spaces

pub measure-nil : measure [] ≡ 0
unfolding unicode_width
measure-nil = refl

-- n spaces add n terminal columns between any two texts
pub measure-spaces : (front : Text) (n : ℕ) (back : Text) → IsUtf8 front → 0 < n → measure (front ++ (replicate n 0x20 ++ back)) ≡ measure front + (n + measure back)
measure-spaces front zero back utf8 some = absurd (omega (arith, some))
measure-spaces front (suc zero) back utf8 some = measure-space front back utf8
measure-spaces front (suc (suc n)) back utf8 some =
    let rest = measure-spaces [] (suc n) back IsUtf8-nil (omega arith) in
    let none = measure-nil in
    measure-space front (replicate (suc n) 0x20 ++ back) utf8 ∙ omega (arith, rest, none)

-- spaces before a text add their number to its measure
pub measure-spaces_before : (n : ℕ) (text : Text) → measure (replicate n 0x20 ++ text) ≡ n + measure text
measure-spaces_before zero text = omega arith
measure-spaces_before (suc n) text = let none = measure-nil in measure-spaces [] (suc n) text IsUtf8-nil (omega arith) ∙ omega (arith, none)
