-- Each character of a text is on one of its wrapped lines or is the delimiter, so it is at most as wide as the widest
-- line.
use Rattle.std.proofs.Common.{◌≡◌, ◌≤◌, ℕ, Bool, true, false, not, ◌==◌, nat_le, List, [], ◌∷◌, filter, max, refl, sym, ap, ◌∙◌, append-nil, arith}
use Rattle.std.specs.Prelude.{if◌then◌else◌, chars, encode_utf8, IsUtf8}
use Rattle.std.specs.Char.{IsScalar}
use Rattle.std.specs.List.{All, concat, list_all}
use Rattle.std.proofs.lemmas.Bool.{and_from, and_parts, eqb-true, leb-true}
use Rattle.std.proofs.lemmas.List.Elements.{All-cons, All-head, All-nil, All-tail}
use Rattle.std.proofs.lemmas.List.Folds.{list_all-append}
use Rattle.std.proofs.lemmas.Str.{chars-append, chars-nil}
use Rattle.unicode_width.proofs.Computing.{unicode_width}
use Rattle.cluster_width.specs.ClusterSums.{Text, measure}
use Rattle.comfy_parts.proofs.CallerLemmas.{lines_keep_the_text}
use Rattle.comfy_parts.proofs.WholeLineLemmas.{HoldsOfParts, lines_of_text-each, lines_of_text-utf8}
use Rattle.comfy_parts.specs.Laws.{characters_without}
use Rattle.comfy_parts.specs.Wrapping.{lines_of_text}
use Rattle.csv_promises.proofs.AtLeastLemmas.{leb-from, text_wide_as_each_or_one}

-- a test that each element except d passes, and d too, is passed by all
all-but : (p : ℕ → Bool) (d : ℕ) → p d ≡ true → (cs : List ℕ) → list_all p (filter (λ c. not (c == d)) cs) ≡ true → list_all p cs ≡ true
all-but p d own [] all = refl
all-but p d own (c ∷ cs) all = go (c == d) refl (all-but p d own cs) all
  where
    go : (b : Bool) → (c == d) ≡ b → (list_all p (filter (λ c. not (c == d)) cs) ≡ true → list_all p cs ≡ true)
        → list_all p (if not b then c ∷ filter (λ c. not (c == d)) cs else filter (λ c. not (c == d)) cs) ≡ true → list_all p (c ∷ cs) ≡ true
    go true is others rest = and_from (p c) (list_all p cs) (ap p (eqb-true c d is) ∙ own) (others rest)
    go false is others rest =
        let parts = and_parts (p c) (list_all p (filter (λ c. not (c == d)) cs)) rest in
        and_from (p c) (list_all p cs) parts.0 (others parts.1)

-- a test that all elements pass is passed by those that aren't d
all-filter : (p : ℕ → Bool) (d : ℕ) (cs : List ℕ) → list_all p cs ≡ true → list_all p (filter (λ c. not (c == d)) cs) ≡ true
all-filter p d [] all = refl
all-filter p d (c ∷ cs) all = let parts = and_parts (p c) (list_all p cs) all in go (c == d) parts.0 (all-filter p d cs parts.1)
  where
    go : (b : Bool) → p c ≡ true → list_all p (filter (λ c. not (c == d)) cs) ≡ true
        → list_all p (if not b then c ∷ filter (λ c. not (c == d)) cs else filter (λ c. not (c == d)) cs) ≡ true
    go true own rest = rest
    go false own rest = and_from _ _ own rest

all-weaker : (p q : ℕ → Bool) → ((c : ℕ) → p c ≡ true → q c ≡ true) → (cs : List ℕ) → list_all p cs ≡ true → list_all q cs ≡ true
all-weaker p q each [] all = refl
all-weaker p q each (c ∷ cs) all =
    let parts = and_parts (p c) (list_all p cs) all in and_from _ _ (each c parts.0) (all-weaker p q each cs parts.1)

-- each character of the text passes
abbrev Passes : (ℕ → Bool) → Text → Type 0
Passes p text = list_all p (chars text) ≡ true

-- a character other than U+FE0E
abbrev is_no_selector : ℕ → Bool
is_no_selector c = not (c == 0xFE0E)

-- a character takes at most n terminal columns alone
abbrev fits : ℕ → ℕ → Bool
fits n c = nat_le (measure (encode_utf8 c)) n

abbrev Fits : ℕ → Text → Type 0
Fits n text = measure text ≤ n

-- a test that each character of each line passes is passed by the concatenated lines
all-concat : (p : ℕ → Bool) (lines : List Text) → All IsUtf8 lines → All (Passes p) lines → Passes p (concat lines)
all-concat p [] utf8 each = ap (list_all p) chars-nil
all-concat p (line ∷ lines) utf8 each =
    ap (list_all p) (chars-append line (concat lines) (All-head IsUtf8 line lines utf8)) ∙ list_all-append p (chars line) (chars (concat lines))
    ∙ and_from _ _ (All-head (Passes p) line lines each) (all-concat p lines (All-tail IsUtf8 line lines utf8) (All-tail (Passes p) line lines each))

holds-of_parts : (p : ℕ → Bool) → HoldsOfParts (Passes p)
holds-of_parts p xs ys front back whole =
    and_parts (list_all p (chars xs)) (list_all p (chars ys)) (sym (list_all-append p (chars xs) (chars ys)) ∙ ap (list_all p) (sym (chars-append xs ys front)) ∙ whole)

-- the characters of a line fit n columns
characters-fit : (n : ℕ) (line : Text) → 1 ≤ n → IsUtf8 line → Passes is_no_selector line → Fits n line → Passes (fits n) line
characters-fit n line some utf8 shown bound =
    all-weaker (fits (max 1 (measure line))) (fits n)
    (λ c h. let le = leb-true (measure (encode_utf8 c)) (max 1 (measure line)) h in leb-from (measure (encode_utf8 c)) n (omega (arith, le, bound, some)))
    (chars line) (text_wide_as_each_or_one line utf8 shown)

-- so do those of each line
lines-fit : (n : ℕ) → 1 ≤ n → (lines : List Text) → All IsUtf8 lines → All (Passes is_no_selector) lines → All (Fits n) lines → All (Passes (fits n)) lines
lines-fit n some [] utf8 shown fit = All-nil (Passes (fits n))
lines-fit n some (line ∷ lines) utf8 shown fit =
    All-cons (Passes (fits n)) line lines
    (characters-fit n line some (All-head IsUtf8 line lines utf8) (All-head (Passes is_no_selector) line lines shown) (All-head (Fits n) line lines fit))
    (lines-fit n some lines (All-tail IsUtf8 line lines utf8) (All-tail (Passes is_no_selector) line lines shown) (All-tail (Fits n) line lines fit))

-- if each line of a text takes at most n terminal columns, so does each of its characters
pub lines_as_wide_as_each : (w d : ℕ) (text : Text) → IsUtf8 text → IsScalar d → measure (encode_utf8 d) ≤ 1 → list_all (λ c. not (c == 0xFE0E)) (chars text) ≡ true
    → (n : ℕ) → All (λ line. measure line ≤ n) (lines_of_text w d text) → 1 ≤ n → list_all (λ c. nat_le (measure (encode_utf8 c)) n) (chars text) ≡ true
lines_as_wide_as_each w d text utf8 scalar one shown n fit some =
    let lines = lines_of_text w d text in
    let whole = lines_of_text-utf8 w d text utf8 in
    let shown_lines = lines_of_text-each (Passes is_no_selector) (holds-of_parts is_no_selector) w d text utf8 shown in
    let each = all-concat (fits n) lines whole (lines-fit n some lines whole shown_lines fit) in
    let kept : characters_without d (concat lines) ≡ characters_without d text =
    ap (λ ls. characters_without d (concat ls)) (sym (append-nil lines))
    ∙ lines_keep_the_text w d (text ∷ []) scalar (All-cons IsUtf8 text [] utf8 (All-nil IsUtf8))
    ∙ ap (characters_without d) (append-nil text) in
    all-but (fits n) d (leb-from (measure (encode_utf8 d)) n (omega (arith, one, some))) (chars text)
    (ap (list_all (fits n)) (sym kept) ∙ all-filter (fits n) d (chars (concat lines)) each)

-- a space is such a delimiter
pub space_measures_one : measure (encode_utf8 0x20) ≡ 1
unfolding unicode_width
space_measures_one = refl
