-- The number of terminal columns that a text adds before other texts, and so the terminal columns of a framed line.
use Rattle.std.proofs.Common.{◌≡◌, ℕ, zero, suc, ◌+◌, ◌-◌, Bool, true, false, List, [], ◌∷◌, ◌++◌, length, sum, refl, ap, ◌∙◌, subst, arith, append_assoc, append-nil}
use Rattle.std.specs.List.{repeat, join_by, flat_map, AllZip}
use Rattle.std.specs.Prelude.{if◌then◌else◌, encode_utf8}
use Rattle.std.specs.Str.{IsUtf8}
use Rattle.std.proofs.lemmas.Str.{IsUtf8-nil}
use Rattle.comfy_parts.specs.Text.{Text, measure, spaces}
use Rattle.comfy_parts.proofs.CallerLemmas.{measure-nil, measure-space, measure-spaces_before}
use Rattle.comfy_parts.specs.Columns.{AddsOneColumn, IsApart}
use Rattle.comfy_table.proofs.CountLemmas.{sum-between, sum-separated}

-- any text
abbrev pub IsAny : Text → Type 0
IsAny rest = Unit {0}

-- a text may follow: an empty one may, and one that begins with a character that adds one terminal column
pub record IsFollowing (Follows : Text → Type 0) : Type 0 where
  pub ends : Follows []
  pub seals : (c : ℕ) → AddsOneColumn c → (rest : Text) → Follows (encode_utf8 c ++ rest)
  pub spaced : (rest : Text) → Follows (0x20 ∷ rest)

pub any_follows : IsFollowing IsAny
any_follows = record { ends = tt; seals = λ c adds rest. tt; spaced = λ rest. tt }

pub apart_follows : IsFollowing IsApart
apart_follows =
    record {
      ends = λ text utf8. let none = measure-nil in ap measure (append-nil text) ∙ omega (arith, none);
      seals = λ c adds rest text utf8. let alone = adds [] rest IsUtf8-nil in let none = measure-nil in adds text rest utf8 ∙ omega (arith, alone, none);
      spaced = λ rest text utf8. let alone = measure-space [] rest IsUtf8-nil in let none = measure-nil in measure-space text rest utf8 ∙ omega (arith, alone, none);
    }

-- the text adds n terminal columns before any rest that may follow
pub record HasMeasure (Follows : Text → Type 0) (n : ℕ) (text : Text) : Type 0 where
  pub measures : (rest : Text) → Follows rest → measure (text ++ rest) ≡ n + measure rest

-- the text may follow, before any rest that may follow
abbrev pub Fronts : (Text → Type 0) → Text → Type 0
Fronts Follows text = (rest : Text) → Follows rest → Follows (text ++ rest)

-- so the text measures n
pub measure-is : (Follows : Text → Type 0) (n : ℕ) (text : Text) → IsFollowing Follows → HasMeasure Follows n text → measure text ≡ n
measure-is Follows n text follows has = grind (arith, measure-nil, append-nil)

-- a number that equals n may take the place of n
pub HasMeasure-same : (Follows : Text → Type 0) (m n : ℕ) (text : Text) → m ≡ n → HasMeasure Follows m text → HasMeasure Follows n text
HasMeasure-same Follows m n text same has = subst (λ k. HasMeasure Follows k text) same has

-- a text that adds n before every text adds n before these
pub HasMeasure-any : (Follows : Text → Type 0) (n : ℕ) (text : Text) → HasMeasure IsAny n text → HasMeasure Follows n text
HasMeasure-any Follows n text has = record { measures = λ rest _. has.measures rest tt }

-- ---- characters and texts

-- a character that adds one terminal column
pub HasMeasure-character : (c : ℕ) → AddsOneColumn c → HasMeasure IsAny 1 (encode_utf8 c)
HasMeasure-character c adds =
    record { measures = λ rest _. let all = adds [] rest IsUtf8-nil in let none = measure-nil in omega (arith, all, none) }

-- an empty text adds no terminal columns
pub HasMeasure-nil : HasMeasure IsAny 0 []
HasMeasure-nil = record { measures = λ rest _. omega arith }

-- a text adds its measure before a text that can't join it
pub HasMeasure-text : (text : Text) → IsUtf8 text → HasMeasure IsApart (measure text) text
HasMeasure-text text utf8 = record { measures = λ rest apart. apart text utf8 }

-- n spaces add n terminal columns
pub HasMeasure-spaces : (n : ℕ) → HasMeasure IsAny n (spaces n)
HasMeasure-spaces n = record { measures = λ rest _. measure-spaces_before n rest }

-- two texts add the sum of what they add, if the second may follow the first
pub HasMeasure-append : (Follows : Text → Type 0) (m n : ℕ) (xs ys : Text) → HasMeasure Follows m xs → Fronts Follows ys → HasMeasure Follows n ys → HasMeasure Follows (m + n) (xs ++ ys)
HasMeasure-append Follows m n xs ys front fronts back = grind (arith, append_assoc)

-- two texts add the sum, if the first adds its terminal columns before every text
pub HasMeasure-after : (Follows : Text → Type 0) (m n : ℕ) (xs ys : Text) → HasMeasure IsAny m xs → HasMeasure Follows n ys → HasMeasure Follows (m + n) (xs ++ ys)
HasMeasure-after Follows m n xs ys front back = grind (arith, append_assoc)

-- a text of one terminal column, repeated n times, adds n
pub HasMeasure-repeat : (n : ℕ) (text : Text) → HasMeasure IsAny 1 text → HasMeasure IsAny n (repeat n text)
HasMeasure-repeat zero text one = HasMeasure-nil
HasMeasure-repeat (suc n) text one =
    HasMeasure-same IsAny (1 + n) (suc n) (repeat (suc n) text) (omega arith) (HasMeasure-after IsAny 1 n text (repeat n text) one (HasMeasure-repeat n text one))

-- ---- framed lines

-- a character that is written only if `b` is true
pub HasMeasure-when : (b : Bool) (text : Text) → HasMeasure IsAny 1 text → HasMeasure IsAny (if b then 1 else 0) (if b then text else [])
HasMeasure-when true text one = one
HasMeasure-when false text one = HasMeasure-nil

-- a character that is drawn or not may follow
pub Fronts-when : (Follows : Text → Type 0) (b : Bool) (c : ℕ) → IsFollowing Follows → AddsOneColumn c → Fronts Follows (if b then encode_utf8 c else [])
Fronts-when Follows true c follows adds rest may = follows.seals c adds rest
Fronts-when Follows false c follows adds rest may = may

-- a piece of this width, which may follow another piece with a separator between them
pub record IsPiece (Follows : Text → Type 0) (between : Text) (width : ℕ) (piece : Text) : Type 0 where
  pub has : HasMeasure Follows width piece
  pub fronts : Fronts Follows (between ++ piece)

module _ (Follows : Text → Type 0) (b : Bool) (separator : Text) (one : HasMeasure IsAny 1 separator) where
  -- the separator between two pieces
  abbrev between : Text
  between = if b then separator else []

  -- pieces with a separator before each
  Fronts-separated : (widths : List ℕ) (pieces : List Text) → AllZip (IsPiece Follows between) widths pieces → Fronts Follows (flat_map (λ (piece : Text). between ++ piece) pieces)
  Fronts-separated [] [] each rest may = may
  Fronts-separated [] (piece ∷ pieces) each rest may = absurd each
  Fronts-separated (w ∷ widths) [] each rest may = absurd each
  Fronts-separated (w ∷ widths) (piece ∷ pieces) (first, more) rest may = grind (arith, append_assoc, Fronts-separated widths pieces more rest may)

  HasMeasure-separated : (widths : List ℕ) (pieces : List Text) → AllZip (IsPiece Follows between) widths pieces
      → HasMeasure Follows ((if b then length widths else 0) + sum widths) (flat_map (λ (piece : Text). between ++ piece) pieces)
  HasMeasure-separated [] [] each = HasMeasure-any Follows _ [] (HasMeasure-same IsAny 0 _ [] (none b) HasMeasure-nil)
    where
      none : (b : Bool) → 0 ≡ (if b then 0 else 0) + 0
      none true = refl
      none false = refl
  HasMeasure-separated [] (piece ∷ pieces) each = absurd each
  HasMeasure-separated (w ∷ widths) [] each = absurd each
  HasMeasure-separated (w ∷ widths) (piece ∷ pieces) (first, more) =
      HasMeasure-same Follows (((if b then 1 else 0) + w) + ((if b then length widths else 0) + sum widths)) ((if b then suc (length widths) else 0) + sum (w ∷ widths)) _ (sum-separated w widths b)
      (HasMeasure-append Follows _ _ (between ++ piece) (flat_map (λ (piece : Text). between ++ piece) pieces)
      (HasMeasure-after Follows _ w between piece (HasMeasure-when b separator one) first.has) (Fronts-separated widths pieces more) (HasMeasure-separated widths pieces more))

  -- pieces with a separator between each two
  pub HasMeasure-between : (widths : List ℕ) (pieces : List Text) → AllZip (IsPiece Follows between) widths pieces
      → HasMeasure Follows ((if b then length widths - 1 else 0) + sum widths) (join_by (λ (piece : Text). piece) between pieces)
  HasMeasure-between [] [] each = HasMeasure-any Follows _ [] (HasMeasure-same IsAny 0 _ [] (none b) HasMeasure-nil)
    where
      none : (b : Bool) → 0 ≡ (if b then 0 - 1 else 0) + 0
      none true = refl
      none false = refl
  HasMeasure-between [] (piece ∷ pieces) each = absurd each
  HasMeasure-between (w ∷ widths) [] each = absurd each
  HasMeasure-between (w ∷ widths) (piece ∷ pieces) (first, more) =
      HasMeasure-same Follows (w + ((if b then length widths else 0) + sum widths)) ((if b then suc (length widths) - 1 else 0) + sum (w ∷ widths)) _ (sum-between w widths b)
      (HasMeasure-append Follows w _ piece (flat_map (λ (piece : Text). between ++ piece) pieces) first.has (Fronts-separated widths pieces more) (HasMeasure-separated widths pieces more))
