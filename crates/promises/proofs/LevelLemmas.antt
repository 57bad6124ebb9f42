-- The widths of columns without constraints, if a width is kept.
use Rattle.std.proofs.Common.{if◌then◌else◌, ◌≡◌, ◌<◌, ◌≤◌, ℕ, ◌+◌, ◌/◌, ◌==◌, ◌&&◌, Bool, true, false, List, [], ◌∷◌, length, map, max, nat_le, nat_lt, replicate, sum_by, MatchBool, refl, sym, ◌∙◌, subst, arith, eq-zero-or-pos, inl, inr, ◌⊎◌}
use Rattle.std.specs.List.{All, AllZip}
use Rattle.std.proofs.Math.Nat.{div-eq_of_lt}
use Rattle.std.proofs.lemmas.Bool.{cond_both}
use Rattle.std.proofs.lemmas.Bool.Decides.{nat_tests}
use Rattle.std.proofs.lemmas.List.Elements.{All-cons, All-nil}
use Rattle.comfy_table.proofs.BudgetLemmas.{length-contents_after}
use Rattle.comfy_table.proofs.FitLemmas.{contents_that_fit_are_kept}
use Rattle.comfy_table.proofs.LevelledLemmas.{dynamic_is_levelled}
use Rattle.comfy_table.proofs.SpreadLemmas.{length-even_spread}
use Rattle.comfy_table.specs.Dynamic.{IsDynamicLayout, added, contents_after, content_room, even_columns, room_left}
use Rattle.comfy_table.specs.Levels.{HasLevel, IsLevelledColumn, IsShrunkOrLevel, IsUnconstrained}
use Rattle.comfy_table.specs.Widths.{ColumnNeeds, even_spread}
use Rattle.promises.specs.Headline.{IsAsWide}

-- adding numbers makes none smaller
added_at_least : (xs ys : List ℕ) → length xs ≡ length ys → AllZip (λ (x w : ℕ). x ≤ w) xs (added xs ys)
added_at_least [] ys same = tt
added_at_least (x ∷ xs) [] same = absurd (omega (arith, same))
added_at_least (x ∷ xs) (y ∷ ys) same = (omega arith, added_at_least xs ys (omega (arith, same)))

same_at_least : (xs : List ℕ) → AllZip (λ (x w : ℕ). x ≤ w) xs xs
same_at_least [] = tt
same_at_least (x ∷ xs) = (omega arith, same_at_least xs)

-- a content keeps to a level, or both are 1
abbrev IsKept : ℕ → ColumnNeeds → ℕ → Type 0
IsKept level column x = IsLevelledColumn level column x ⊎ ((level ≡ 1) × (x ≡ 1))

-- a property of contents holds of widths that are as wide, if it can be passed on
grow : (full : Bool) (R S : ColumnNeeds → ℕ → Type 0) → ((column : ColumnNeeds) (x w : ℕ) → IsAsWide full x w → R column x → S column w) → (columns : List ColumnNeeds) (xs ws : List ℕ) → AllZip R columns xs → AllZip (IsAsWide full) xs ws → AllZip S columns ws
grow full R S more [] [] [] zip least = tt
grow full R S more [] [] (w ∷ ws) zip least = absurd least
grow full R S more [] (x ∷ xs) ws zip least = absurd zip
grow full R S more (column ∷ columns) [] ws zip least = absurd zip
grow full R S more (column ∷ columns) (x ∷ xs) [] zip least = absurd least
grow full R S more (column ∷ columns) (x ∷ xs) (w ∷ ws) zip least = (more column x w least.0 zip.0, grow full R S more columns xs ws zip.1 least.1)

no_less : (full : Bool) (x w : ℕ) → IsAsWide full x w → x ≤ w
no_less false x w same = omega (arith, same)
no_less true x w least = least

-- a width that is as wide as a content
as_wide : (full : Bool) (content x w : ℕ) → IsAsWide full x w → x ≡ content → IsAsWide full content w
as_wide full content x w own same = subst (λ (n : ℕ). IsAsWide full n w) same own

-- a relation between two functions of each element
pub zip_maps : {X A B : Type 0} (R : A → B → Type 0) (f : X → A) (g : X → B) (xs : List X) → AllZip R (map f xs) (map g xs) → All (λ x. R (f x) (g x)) xs
zip_maps R f g [] zip = All-nil (λ x. R (f x) (g x))
zip_maps R f g (x ∷ xs) zip = All-cons (λ x. R (f x) (g x)) x xs zip.0 (zip_maps R f g xs zip.1)

module _ (room : ℕ) (columns : List ColumnNeeds) (full : Bool) (free : All IsUnconstrained columns) (widths : List ℕ) (layout : IsDynamicLayout room columns full widths) where
  -- the widths before the rest of the room is spread
  abbrev before : List ℕ
  before = contents_after room columns layout.0

  dynamic : IsDynamicLayout room columns false before
  dynamic = (layout.0, record { lower_taken = layout.1.lower_taken; level_found = layout.1.level_found; shrunk_taken = layout.1.shrunk_taken; widths_are = refl })

  -- so the final widths are as wide
  grown : AllZip (IsAsWide full) before widths
  grown = by_full full layout.1.widths_are
    where
      spread : List ℕ
      spread = even_spread (room_left room columns layout.0) (length columns)

      none : Bool
      none = length (even_columns room columns layout.0) == 0

      all_same : (xs : List ℕ) → AllZip (λ (x w : ℕ). w ≡ x) xs xs
      all_same [] = tt
      all_same (x ∷ xs) = (refl, all_same xs)

      by_full : (b : Bool) → widths ≡ (if b && none then added before spread else before) → AllZip (IsAsWide b) before widths
      by_full false are = subst (AllZip (λ (x w : ℕ). w ≡ x) before) (sym are) (all_same before)
      by_full true are =
          subst (AllZip (λ (x w : ℕ). x ≤ w) before) (sym are)
          (cond_both none (added before spread) before (AllZip (λ (x w : ℕ). x ≤ w) before) (λ _. added_at_least before spread (length-contents_after room columns layout.0 ∙ sym (length-even_spread (room_left room columns layout.0) (length columns)))) (λ _. same_at_least before))

  -- contents that have room are kept
  pub contents_keep : sum_by (λ (column : ColumnNeeds). max 1 column.content + column.padding) columns ≤ room → AllZip (λ (column : ColumnNeeds) w. IsAsWide full (max 1 column.content) w) columns widths
  contents_keep enough =
      grow full (λ column x. x ≡ max 1 column.content) (λ column w. IsAsWide full (max 1 column.content) w) (λ column x w own same. as_wide full (max 1 column.content) x w own same) columns before widths
      (each columns before (contents_that_fit_are_kept room columns before free enough dynamic)) grown
    where
      each : (cs : List ColumnNeeds) (xs : List ℕ) → xs ≡ map (λ (column : ColumnNeeds). max 1 column.content) cs → AllZip (λ (column : ColumnNeeds) x. x ≡ max 1 column.content) cs xs
      each [] [] same = tt
      each [] (x ∷ xs) same = absurd (cc same)
      each (column ∷ cs) [] same = absurd (cc same)
      each (column ∷ cs) (x ∷ xs) same = (cc same, each cs xs (cc same))

  -- a content of at most the level is kept, and any other column has the level, or room for its longest line at a width
  -- of at least the level
  pub record KeepsLevel (level : ℕ) (column : ColumnNeeds) (w : ℕ) : Type 0 where
    pub narrow : column.content ≤ level → IsAsWide full (max 1 column.content) w
    pub wide : level < column.content → (level ≤ w) ⊎ ((b : ℕ) × (level ≤ b) × (column.longest b ≤ w))

  pub record HasKeptLevel : Type 0 where
    pub level : ℕ
    pub share : content_room room columns / length columns ≤ level
    pub keeps : AllZip (KeepsLevel level) columns widths

  pub level_keeps : HasKeptLevel
  level_keeps = by_count (eq-zero-or-pos (length columns))
    where
      -- the column keeps to the level, if its content does or both are 1
      kept : (level : ℕ) (column : ColumnNeeds) (x w : ℕ) → IsAsWide full x w → IsKept level column x → KeepsLevel level column w
      kept level column x w own (inr (one, small)) = record { narrow = λ few. as_wide full (max 1 column.content) x w own (omega (arith, few, one, small)); wide = λ more. inl (let least = no_less full x w own in omega (arith, one, small, least)) }
      kept level column x w own (inl is) =
          record {
            narrow = λ few.
                let fits : nat_le column.content level ≡ true = grind (arith, nat_tests, few) in
                as_wide full (max 1 column.content) x w own (subst (λ (b : Bool). MatchBool b (x ≡ max 1 column.content) (IsShrunkOrLevel level column x)) fits is);
            wide = λ more.
                let fails : nat_le column.content level ≡ false = grind (arith, nat_tests, more) in
                by_level (subst (λ (b : Bool). MatchBool b (x ≡ max 1 column.content) (IsShrunkOrLevel level column x)) fails is);
          }
        where
          least : x ≤ w
          least = no_less full x w own

          by_level : IsShrunkOrLevel level column x → (level ≤ w) ⊎ ((b : ℕ) × (level ≤ b) × (column.longest b ≤ w))
          by_level (inl (b, at_least, three, small)) = inr (b, at_least, omega (arith, small, least))
          by_level (inr high) = inl (omega (arith, high, least))

      ones : (cs : List ColumnNeeds) (xs : List ℕ) → xs ≡ replicate (length cs) 1 → AllZip (IsKept 1) cs xs
      ones [] [] same = tt
      ones [] (x ∷ xs) same = absurd (cc same)
      ones (column ∷ cs) [] same = absurd (cc same)
      ones (column ∷ cs) (x ∷ xs) same = (inr (refl, cc same), ones cs xs (cc same))

      levelled : (level : ℕ) (cs : List ColumnNeeds) (xs : List ℕ) → AllZip (IsLevelledColumn level) cs xs → AllZip (IsKept level) cs xs
      levelled level [] [] zip = tt
      levelled level [] (x ∷ xs) zip = absurd zip
      levelled level (column ∷ cs) [] zip = absurd zip
      levelled level (column ∷ cs) (x ∷ xs) zip = (inl zip.0, levelled level cs xs zip.1)

      of_none : (level : ℕ) (cs : List ColumnNeeds) (ws : List ℕ) → length cs ≡ 0 → AllZip (IsAsWide full) before ws → length before ≡ length cs → AllZip (KeepsLevel level) cs ws
      of_none level [] [] none own same = tt
      of_none level [] (w ∷ ws) none own same = absurd (too_many before own same)
        where
          too_many : (xs : List ℕ) → AllZip (IsAsWide full) xs (w ∷ ws) → ¬ (length xs ≡ 0)
          too_many [] zip short = zip
          too_many (x ∷ xs) zip short = absurd (omega (arith, short))
      of_none level (column ∷ cs) ws none own same = absurd (omega (arith, none))

      by_test : (b : Bool) → nat_lt (content_room room columns) (length columns) ≡ b → MatchBool b (before ≡ replicate (length columns) 1) (HasLevel room columns before) → HasKeptLevel
      by_test true short own =
          let few : content_room room columns < length columns = grind (arith, nat_tests, short) in
          let none = div-eq_of_lt few in
          record { level = 1; share = omega (arith, none); keeps = grow full (IsKept 1) (KeepsLevel 1) (kept 1) columns before widths (ones columns before own) grown }
      by_test false enough own =
          record {
            level = own.level;
            share = own.levelled.at_least_share;
            keeps = grow full (IsKept own.level) (KeepsLevel own.level) (kept own.level) columns before widths (levelled own.level columns before own.levelled.each_column) grown;
          }

      by_count : (length columns ≡ 0) ⊎ (0 < length columns) → HasKeptLevel
      by_count (inl none) =
          record { level = content_room room columns / length columns; share = omega arith; keeps = of_none (content_room room columns / length columns) columns widths none grown (length-contents_after room columns layout.0) }
      by_count (inr some) = by_test (nat_lt (content_room room columns) (length columns)) refl (dynamic_is_levelled room columns before free some dynamic)
