-- A line for Markdown is split at its bars, and its parts are read.
use Rattle.std.proofs.Common.{◌≡◌, ◌==◌, ◌&&◌, ◌||◌, ℕ, zero, suc, Bool, true, false, List, [], ◌∷◌, ◌++◌, Option, Some, None, cond, codes, refl, ap, sym, ◌∙◌, append_assoc, append-nil, eqb-true}
use Rattle.std.proofs.lemmas.Bool.{or_parts}
use Rattle.std.specs.List.{list_any}
use Rattle.comfy_parts.specs.Text.{spaces}
use Rattle.csv_tables.specs.Markdown.{begins_markup, escaped, escaped_after, escaped_character, is_mark, is_marked_at, is_paired, is_special, unescaped}
use Rattle.csv_tables.specs.MarkdownLines.{before_spaces, parts_between_bars, parts_from, read_part, without_first_spaces, without_last_spaces, without_outer_spaces}

-- ---- cutting

-- characters that stay within a part, whatever is around them
abbrev Stays : List ℕ → Type 0
Stays cs = (part rest : List ℕ) → parts_from false part (cs ++ rest) ≡ parts_from false (part ++ cs) rest

Stays-nil : Stays []
Stays-nil part rest = ap (λ (p : List ℕ). parts_from false p rest) (sym (append-nil part))

Stays-append : (xs ys : List ℕ) → Stays xs → Stays ys → Stays (xs ++ ys)
Stays-append xs ys one other part rest =
    ap (parts_from false part) (append_assoc xs ys rest) ∙ one part (ys ++ rest) ∙ other (part ++ xs) rest ∙ ap (λ (p : List ℕ). parts_from false p rest) (append_assoc part xs ys)

-- a character other than a bar and a backslash
Stays-one : (c : ℕ) → (c == 0x7C) ≡ false → (c == 0x5C) ≡ false → Stays (c ∷ [])
Stays-one c bar backslash part rest = rw (bar, backslash) refl

-- any character after a backslash
Stays-escaped : (c : ℕ) → Stays (0x5C ∷ c ∷ [])
Stays-escaped c part rest = ap (λ (p : List ℕ). parts_from false p rest) (append_assoc part (0x5C ∷ []) (c ∷ []))

Stays-spaces : (n : ℕ) → Stays (spaces n)
Stays-spaces zero = Stays-nil
Stays-spaces (suc n) = Stays-append (0x20 ∷ []) (spaces n) (Stays-one 0x20 refl refl) (Stays-spaces n)

-- a character that isn't special is no such mark
not_special : (is_marked : Bool) (before : Option ℕ) (c : ℕ) (rest : List ℕ) (mark : ℕ) → is_special is_marked before c rest ≡ false → is_mark mark ≡ true → (c == mark) ≡ false
not_special is_marked before c rest mark none is_one = by_test (c == mark) refl
  where
    no_markup : begins_markup before c rest ≡ false
    no_markup = (or_parts (begins_markup before c rest) _ none).0

    no_mark : is_mark c ≡ false
    no_mark = (or_parts (is_mark c) _ (or_parts (is_mark c || (is_paired before c && list_any (λ d. d == c) rest)) _ no_markup).0).0

    by_test : (b : Bool) → (c == mark) ≡ b → (c == mark) ≡ false
    by_test false is = is
    by_test true is = let same : is_mark c ≡ true = ap is_mark (eqb-true c mark is) ∙ is_one in absurd (let both : true ≡ false = sym same ∙ no_mark in cc both)

-- an escaped text stays within a part
Stays-escaped_after : (is_marked : Bool) (before : Option ℕ) (text : List ℕ) → Stays (escaped_after is_marked before text)
Stays-escaped_after is_marked before [] = Stays-nil
Stays-escaped_after is_marked before (c ∷ text) =
    Stays-append (escaped_character (is_special here before c text) c) (escaped_after here (Some c) text) (by_tests (c == 0x0A) (is_special here before c text) refl) (Stays-escaped_after here (Some c) text)
  where
    here : Bool
    here = is_marked_at is_marked before (c ∷ text)

    by_tests : (feed special : Bool) → is_special here before c text ≡ special → Stays (cond feed (codes "<br>") (cond special (0x5C ∷ c ∷ []) (c ∷ [])))
    by_tests true special is = λ part rest. ap (λ (p : List ℕ). parts_from false p rest)
        (append_assoc ((part ++ 0x3C ∷ []) ++ 0x62 ∷ []) (0x72 ∷ []) (0x3E ∷ []) ∙ append_assoc (part ++ 0x3C ∷ []) (0x62 ∷ []) (0x72 ∷ 0x3E ∷ []) ∙ append_assoc part (0x3C ∷ []) (0x62 ∷ 0x72 ∷ 0x3E ∷ []))
    by_tests false true is = Stays-escaped c
    by_tests false false is = Stays-one c (not_special here before c text 0x7C is refl) (not_special here before c text 0x5C is refl)

-- ---- what a part reads

-- an escaped text between spaces
abbrev pub spaced : ℕ → List ℕ → ℕ → List ℕ
spaced a text b = spaces a ++ (escaped text ++ spaces b)

Stays-spaced : (a : ℕ) (text : List ℕ) (b : ℕ) → Stays (spaced a text b)
Stays-spaced a text b = Stays-append (spaces a) (escaped text ++ spaces b) (Stays-spaces a) (Stays-append (escaped text) (spaces b) (Stays-escaped_after false None text) (Stays-spaces b))

-- a character other than a backslash and `<`, before others
other-unescaped : (c : ℕ) (rest : List ℕ) → (c == 0x5C) ≡ false → (c == 0x3C) ≡ false → unescaped (c ∷ rest) ≡ c ∷ unescaped rest
other-unescaped c [] a b = refl
other-unescaped c (x ∷ []) a b = rw a refl
other-unescaped c (x ∷ y ∷ []) a b = rw a refl
other-unescaped c (x ∷ y ∷ z ∷ rest) a b = rw (a, b) refl

after_backslash : (c : ℕ) (rest : List ℕ) → unescaped (0x5C ∷ c ∷ rest) ≡ c ∷ unescaped rest
after_backslash c [] = refl
after_backslash c (x ∷ []) = refl
after_backslash c (x ∷ y ∷ rest) = refl

-- an escaped text is read back, whatever follows it
escaped-unescaped : (is_marked : Bool) (before : Option ℕ) (text rest : List ℕ) → unescaped (escaped_after is_marked before text ++ rest) ≡ text ++ unescaped rest
escaped-unescaped is_marked before [] rest = refl
escaped-unescaped is_marked before (c ∷ text) rest =
    ap unescaped (append_assoc (escaped_character (is_special here before c text) c) (escaped_after here (Some c) text) rest)
    ∙ by_tests (c == 0x0A) (is_special here before c text) refl refl ∙ ap (λ (t : List ℕ). c ∷ t) (escaped-unescaped here (Some c) text rest)
  where
    here : Bool
    here = is_marked_at is_marked before (c ∷ text)

    more : List ℕ
    more = escaped_after here (Some c) text ++ rest

    by_tests : (feed special : Bool) → (c == 0x0A) ≡ feed → is_special here before c text ≡ special → unescaped (cond feed (codes "<br>") (cond special (0x5C ∷ c ∷ []) (c ∷ [])) ++ more) ≡ c ∷ unescaped more
    by_tests true special feed is = ap (λ (n : ℕ). n ∷ unescaped more) (sym (eqb-true c 0x0A feed))
    by_tests false true feed is = after_backslash c more
    by_tests false false feed is = other-unescaped c more (not_special here before c text 0x5C is refl) (not_special here before c text 0x3C is refl)

spaces-unescaped : (n : ℕ) (rest : List ℕ) → unescaped (spaces n ++ rest) ≡ spaces n ++ unescaped rest
spaces-unescaped zero rest = refl
spaces-unescaped (suc n) rest = other-unescaped 0x20 (spaces n ++ rest) refl refl ∙ ap (λ (t : List ℕ). 0x20 ∷ t) (spaces-unescaped n rest)

spaced-unescaped : (a : ℕ) (text : List ℕ) (b : ℕ) → unescaped (spaced a text b) ≡ spaces a ++ (text ++ spaces b)
spaced-unescaped a text b =
    spaces-unescaped a (escaped text ++ spaces b)
    ∙ ap (λ (t : List ℕ). spaces a ++ t) (escaped-unescaped false None text (spaces b) ∙ ap (λ (t : List ℕ). text ++ t) (ap unescaped (sym (append-nil (spaces b))) ∙ spaces-unescaped b [] ∙ append-nil (spaces b)))

-- ---- outer spaces

none_last : (n : ℕ) → without_last_spaces (spaces n) ≡ []
none_last zero = refl
none_last (suc n) = ap (before_spaces 0x20) (none_last n)

last-append : (text : List ℕ) (n : ℕ) → without_last_spaces (text ++ spaces n) ≡ without_last_spaces text
last-append [] n = none_last n
last-append (c ∷ text) n = ap (before_spaces c) (last-append text n)

first-append : (n : ℕ) (text : List ℕ) → without_outer_spaces (spaces n ++ text) ≡ without_outer_spaces text
first-append zero text = refl
first-append (suc n) text = one_less (without_last_spaces (spaces n ++ text)) ∙ first-append n text
  where
    one_less : (cs : List ℕ) → without_first_spaces (before_spaces 0x20 cs) ≡ without_first_spaces cs
    one_less [] = refl
    one_less (c ∷ cs) = refl

outer-spaced : (a : ℕ) (text : List ℕ) (b : ℕ) → without_outer_spaces (spaces a ++ (text ++ spaces b)) ≡ without_outer_spaces text
outer-spaced a text b = first-append a (text ++ spaces b) ∙ ap without_first_spaces (last-append text b)

-- the text is read from such a part
pub spaced-read : (a : ℕ) (text : List ℕ) (b : ℕ) → read_part (spaced a text b) ≡ without_outer_spaces text
spaced-read a text b = ap without_outer_spaces (spaced-unescaped a text b) ∙ outer-spaced a text b

-- ---- lines of parts

-- a part, and a bar that ends it
pub part_and_bar : (a : ℕ) (text : List ℕ) (b : ℕ) (rest : List ℕ) → parts_between_bars (spaced a text b ++ 0x7C ∷ rest) ≡ spaced a text b ∷ parts_between_bars rest
part_and_bar a text b rest = Stays-spaced a text b [] (0x7C ∷ rest)
