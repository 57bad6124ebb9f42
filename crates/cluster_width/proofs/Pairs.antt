-- Two readings from the end of a text, of which one has to be at most the other: the pairs of states that they reach
-- together.
use Rattle.std.proofs.Common.{◌≡◌, ◌≤◌, ℕ, zero, suc, ◌+◌, Bool, true, false, ◌&&◌, ◌==◌, nat_le, List, [], ◌∷◌, ◌++◌, inl, inr, slice_index_or, refl, sym, ap, ap₂, ◌∙◌, subst}
use Rattle.std.specs.Bool.{beq}
use Rattle.std.specs.Prelude.{if◌then◌else◌}
use Rattle.std.specs.List.{filter, flat_map, list_all, list_any}
use Rattle.std.proofs.lemmas.Bool.{and_parts, eqb-true, leb-true}
use Rattle.ucd_table.proofs.Facts.{same_from_beq}
use Rattle.unicode_width.specs.declared.state.After.{After}
use Rattle.unicode_width.specs.declared.state.After.TheVariants.{Nothing, LineFeed, EmojiModifier, RegionalIndicator, RegionalIndicators, Emoji, ZwjEmoji, KeycapZwjEmoji, IndicatorZwj, EvenIndicatorsZwj, OddIndicatorsZwj, TagEnd, TagDigit1, TagDigit2, TagDigit3, TagLetter1, TagLetter2, TagLetter3, TagLetter4, TagLetter5, TagLetter6, KiratE, KiratAi, Alef, Solidus, SolidusAlef, Lamed, ZwjLamed, Ya, ZwjYa, VowelZwjYa, Tifinagh, ZwjTifinagh, JoinerTifinagh, LisuTone, OrkhonI, ZwjOrkhonI, KhmerLetter}
use Rattle.unicode_width.specs.declared.state.State.{State}
use Rattle.unicode_width.specs.Width.{Reading, step}
use Rattle.cluster_width.proofs.Classes.{IsIn, each, examples, found}

-- two readings, a character of the class of the next character, and a mark; each reading counts from its total where
-- the pairs begin, and 1 more for each character
pub record Pair : Type 0 where
  pub less : Reading
  pub more : Reading
  pub right : ℕ
  pub mark : Bool

-- the reading with one more character at the front
abbrev pub on : ℕ → Reading → Reading
on d r = let s = step false d (1, r.1) in (r.0 + s.0, s.1)

-- the number of a state, and the state of a number
abbrev pub number_of : After → ℕ
number_of = elim [
  | Nothing ↦ 0
  | LineFeed ↦ 1
  | EmojiModifier ↦ 2
  | RegionalIndicator ↦ 3
  | RegionalIndicators ↦ 4
  | Emoji ↦ 5
  | ZwjEmoji ↦ 6
  | KeycapZwjEmoji ↦ 7
  | IndicatorZwj ↦ 8
  | EvenIndicatorsZwj ↦ 9
  | OddIndicatorsZwj ↦ 10
  | TagEnd ↦ 11
  | TagDigit1 ↦ 12
  | TagDigit2 ↦ 13
  | TagDigit3 ↦ 14
  | TagLetter1 ↦ 15
  | TagLetter2 ↦ 16
  | TagLetter3 ↦ 17
  | TagLetter4 ↦ 18
  | TagLetter5 ↦ 19
  | TagLetter6 ↦ 20
  | KiratE ↦ 21
  | KiratAi ↦ 22
  | Alef ↦ 23
  | Solidus ↦ 24
  | SolidusAlef ↦ 25
  | Lamed ↦ 26
  | ZwjLamed ↦ 27
  | Ya ↦ 28
  | ZwjYa ↦ 29
  | VowelZwjYa ↦ 30
  | Tifinagh ↦ 31
  | ZwjTifinagh ↦ 32
  | JoinerTifinagh ↦ 33
  | LisuTone ↦ 34
  | OrkhonI ↦ 35
  | ZwjOrkhonI ↦ 36
  | KhmerLetter ↦ 37
]

abbrev afters : List After
afters =
    Nothing ∷ LineFeed ∷ EmojiModifier ∷ RegionalIndicator ∷ RegionalIndicators ∷ Emoji ∷ ZwjEmoji ∷ KeycapZwjEmoji ∷ IndicatorZwj
    ∷ EvenIndicatorsZwj ∷ OddIndicatorsZwj ∷ TagEnd ∷ TagDigit1 ∷ TagDigit2 ∷ TagDigit3 ∷ TagLetter1 ∷ TagLetter2 ∷ TagLetter3 ∷ TagLetter4
    ∷ TagLetter5 ∷ TagLetter6 ∷ KiratE ∷ KiratAi ∷ Alef ∷ Solidus ∷ SolidusAlef ∷ Lamed ∷ ZwjLamed ∷ Ya ∷ ZwjYa ∷ VowelZwjYa ∷ Tifinagh
    ∷ ZwjTifinagh ∷ JoinerTifinagh ∷ LisuTone ∷ OrkhonI ∷ ZwjOrkhonI ∷ KhmerLetter ∷ []

after_back : (a : After) → slice_index_or afters (number_of a) Nothing ≡ a
after_back Nothing = refl
after_back _ = refl

-- the two states are the same
abbrev pub same_state : State → State → Bool
same_state x y = (number_of x.after == number_of y.after) && (beq x.emoji y.emoji && (beq x.text y.text && beq x.quote y.quote))

same_state-true : (x y : State) → same_state x y ≡ true → x ≡ y
same_state-true x y h =
    let one = and_parts (number_of x.after == number_of y.after) _ h in
    let two = and_parts (beq x.emoji y.emoji) _ one.1 in
    let three = and_parts (beq x.text y.text) _ two.1 in
    let after = sym (after_back x.after) ∙ ap (λ n. slice_index_or afters n Nothing) (eqb-true _ _ one.0) ∙ after_back y.after in
    ap₂ (λ a e. record { after = a; emoji = e; text = x.text; quote = x.quote }) after (same_from_beq _ _ two.0)
    ∙ ap₂ (λ t q. record { after = y.after; emoji = y.emoji; text = t; quote = q }) (same_from_beq _ _ three.0) (same_from_beq _ _ three.1)

-- z covers y: the states are the same, and `more` exceeds `less` in z by at most as much as in y
abbrev covers : Pair → Pair → Bool
covers z y =
    (z.right == y.right) && (same_state z.less.1 y.less.1 && (same_state z.more.1 y.more.1 && (beq z.mark y.mark
    && nat_le (z.more.0 + y.less.0) (y.more.0 + z.less.0))))

pub record Covers (z y : Pair) : Type 0 where
  pub right : z.right ≡ y.right
  pub less : z.less.1 ≡ y.less.1
  pub more : z.more.1 ≡ y.more.1
  pub mark : z.mark ≡ y.mark
  pub totals : z.more.0 + y.less.0 ≤ y.more.0 + z.less.0

covers-true : (z y : Pair) → covers z y ≡ true → Covers z y
covers-true z y h =
    let one = and_parts (z.right == y.right) _ h in
    let two = and_parts (same_state z.less.1 y.less.1) _ one.1 in
    let three = and_parts (same_state z.more.1 y.more.1) _ two.1 in
    let four = and_parts (beq z.mark y.mark) _ three.1 in
    record {
      right = eqb-true _ _ one.0;
      less = same_state-true _ _ two.0;
      more = same_state-true _ _ three.0;
      mark = same_from_beq _ _ four.0;
      totals = leb-true _ _ four.1;
    }

-- ---- pairs that steps lead to

-- an argument is computed again wherever it is read: these functions pass on its value
abbrev with_after : {A : Type 0} → After → (After → A) → A
with_after Nothing f = f Nothing
with_after a f = f a

abbrev with_flag : {A : Type 0} → Bool → (Bool → A) → A
with_flag b f = elim b [ true ↦ f true | false ↦ f false ]

abbrev with_total : {A : Type 0} → ℕ → (ℕ → A) → A
with_total zero f = f zero
with_total (suc n) f = f (suc n)

abbrev with_reading : {A : Type 0} → Reading → (Reading → A) → A
with_reading r f =
    with_total r.0 (λ n. with_after r.1.after (λ a. with_flag r.1.emoji (λ e. with_flag r.1.text (λ t. with_flag r.1.quote (λ q.
    f (n, record { after = a; emoji = e; text = t; quote = q }))))))

-- the pairs that no pair of `seen` covers
abbrev fresh : List Pair → List Pair → List Pair
fresh [] seen = []
fresh (y ∷ ys) seen =
    elim (list_any (λ z. covers z y) seen) [
      | true ↦ fresh ys seen
      | false ↦ with_reading y.less (λ l. with_reading y.more (λ m. let z = record y { less = l; more = m } in z ∷ fresh ys (z ∷ seen)))
    ]

-- the pairs whose next character is d
abbrev at : ℕ → List Pair → List Pair
at d = filter (λ z. z.right == d)

-- the pairs of `seen`, and those to which at most n rounds of steps lead from `new`
abbrev pub close : (ℕ → Pair → List Pair) → ℕ → List Pair → List Pair → List Pair
close next zero seen new = seen
close next (suc n) seen [] = seen
close next (suc n) seen (x ∷ xs) =
    let more = flat_map (λ d. let here = at d seen in fresh (flat_map (next d) (x ∷ xs)) here) examples in close next n (seen ++ more) more

-- a pair of the list covers y
abbrev is_covered : List Pair → Pair → Bool
is_covered zs y = list_any (λ z. covers z y) zs

abbrev are_covered : (ℕ → Pair → List Pair) → List Pair → ℕ → Bool
are_covered next pairs d = let zs = at d pairs in list_all (λ x. list_all (is_covered zs) (next d x)) pairs

abbrev pub is_closed : (ℕ → Pair → List Pair) → List Pair → Bool
is_closed next pairs = list_all (are_covered next pairs) examples

-- each member of a filtered list is a member of the list
in_filter : (p : Pair → Bool) (xs : List Pair) (x : Pair) → IsIn (filter p xs) x → IsIn xs x
in_filter p [] x none = none
in_filter p (y ∷ ys) x known = go (p y) (in_filter p ys x) known
  where
    go : (b : Bool) → (IsIn (filter p ys) x → IsIn ys x) → IsIn (if b then y ∷ filter p ys else filter p ys) x → IsIn (y ∷ ys) x
    go true rest (inl same) = inl same
    go true rest (inr later) = inr (rest later)
    go false rest later = inr (rest later)

-- from a pair of a closed list, each step leads to a pair that one of the list covers
pub leads : (next : ℕ → Pair → List Pair) (pairs : List Pair) → is_closed next pairs ≡ true
    → (d : ℕ) (x y : Pair) → IsIn examples d → IsIn pairs x → IsIn (next d x) y → (z : Pair) × IsIn pairs z × Covers z y
leads next pairs closed d x y d_in x_in y_in =
    let zs = at d pairs in
    let here = each (are_covered next pairs) examples closed d d_in in
    let it = found (λ z. covers z y) zs (each (is_covered zs) (next d x) (each (λ u. list_all (is_covered zs) (next d u)) pairs here x x_in) y y_in) in
    (it.0, in_filter _ pairs it.0 it.1, covers-true it.0 y it.2)

-- ---- members of lists of choices

-- true and false
abbrev pub choices : List Bool
choices = true ∷ false ∷ []

pub chosen : (b : Bool) → IsIn choices b
chosen true = inl refl
chosen false = inr (inl refl)

-- the pairs if the test is true, and otherwise none; they are computed only if it is true
abbrev pub only : Bool → (Unit {0} → List Pair) → List Pair
only b f = elim b [ true ↦ f tt | false ↦ [] ]

pub in_only : (b : Bool) (f : Unit {0} → List Pair) (y : Pair) → b ≡ true → IsIn (f tt) y → IsIn (only b f) y
in_only true f y is known = known
in_only false f y is known = absurd (cc is)

in_front : {X : Type 0} (xs ys : List X) (x : X) → IsIn xs x → IsIn (xs ++ ys) x
in_front [] ys x none = absurd none
in_front (y ∷ xs) ys x (inl same) = inl same
in_front (y ∷ xs) ys x (inr later) = inr (in_front xs ys x later)

in_back : {X : Type 0} (xs ys : List X) (x : X) → IsIn ys x → IsIn (xs ++ ys) x
in_back [] ys x known = known
in_back (y ∷ xs) ys x known = inr (in_back xs ys x known)

pub in_flat : {X Y : Type 0} (f : X → List Y) (xs : List X) (x : X) (y : Y) → IsIn xs x → IsIn (f x) y → IsIn (flat_map f xs) y
in_flat f [] x y none known = absurd none
in_flat f (u ∷ xs) x y (inl same) known = in_front (f u) (flat_map f xs) y (subst (λ v. IsIn (f v) y) same known)
in_flat f (u ∷ xs) x y (inr later) known = in_back (f u) (flat_map f xs) y (in_flat f xs x y later known)

-- the pairs of `seen` are kept
pub kept : (next : ℕ → Pair → List Pair) (n : ℕ) (seen new : List Pair) (x : Pair) → IsIn seen x → IsIn (close next n seen new) x
kept next zero seen new x known = known
kept next (suc n) seen [] x known = known
kept next (suc n) seen (y ∷ ys) x known = kept next n _ _ x (in_front seen _ x known)
