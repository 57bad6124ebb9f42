-- The number of columns that are drawn of records.
use Rattle.std.proofs.Common.{◌≡◌, ◌≤◌, ◌<◌, ◌==◌, ◌&&◌, ℕ, ◌+◌, ◌-◌, Bool, true, false, List, [], ◌∷◌, Option, Some, None, Ok, drop, get_or, length, map, nat_le, nat_lt, option_map, string_bytes, take, unwrap_or, refl, sym, ap, ap₂, ◌∙◌, subst, arith}
use Rattle.std.specs.List.{All, list_any, range_with_len}
use Rattle.std.specs.Option.{option_map_or, option_or}
use Rattle.std.specs.Prelude.{String, if◌then◌else◌, not}
use Rattle.std.proofs.lemmas.List.FromFn.{get_or-range_with_len, length-range_with_len}
use Rattle.std.proofs.lemmas.List.Elements.{All-filter, All-nil}
use Rattle.comfy_parts.proofs.CallerLemmas.{All-every, All-flat_map}
use Rattle.comfy_parts.specs.Text.{Text}
use Rattle.csv_command.specs.Columns.{column_by, column_of, columns_chosen, columns_for, end_of, first_answer, positions_between, range_at, range_of, rising, single_or}
use Rattle.csv_command.specs.Drawn.{layout_with}
use Rattle.csv_command.specs.declared.arguments.Options.{Options}
use Rattle.csv_records.specs.Numerals.{number_for}
use Rattle.csv_tables.specs.Columns.{ColumnsValue, count_of, filled_count}
use Rattle.csv_tables.specs.Drawn.{SelectedValue, columns_of, selected_of, drawn_rows, names_or_none}
use Rattle.csv_tables.specs.declared.options.ColumnPlan.{ColumnPlan}
use Rattle.csv_promises.proofs.DrawnColumnLemmas.{AreBelow, placed, some_drawn}
use Rattle.csv_promises.proofs.PositionLemmas.{at_sides, chosen, found_by, kept_positions, some_kept}
use Rattle.csv_promises.specs.Fields.{columns_of_options, positions_by, positions_by_each, positions_in}
use Rattle.csv_promises.specs.Width.{all_columns, columns_in}

-- ---- positions

-- without names, words choose positions before the last column
module _ (count : ℕ) where
  abbrev Below : ℕ → Type 0
  Below k = k < count

  range_below : (a n : ℕ) → a + n ≤ count → All Below (range_with_len a n)
  range_below a n within k default below = omega (arith, within, below, length-range_with_len a n, get_or-range_with_len a n k default)

  column-below : (word : Text) (k : ℕ) → column_of [] count word ≡ Some k → k < count
  column-below word k is = by_number (number_for 64 word) is
    where
      by_numbered : (number : ℕ) (b : Bool) → (nat_lt 0 number && nat_le number count) ≡ b → option_or (if b then Some (number - 1) else None) None ≡ Some k → k < count
      by_numbered number true test own = let same : number - 1 ≡ k = cc own in grind (arith, test, same)
      by_numbered number false test own = absurd (cc own)

      by_number : (o : Option ℕ) → column_by [] count word o ≡ Some k → k < count
      by_number None own = absurd (cc own)
      by_number (Some number) own = by_numbered number (nat_lt 0 number && nat_le number count) refl own

  end-below : (word : Text) (end : ℕ) → end_of [] count word ≡ Some end → end ≤ count
  end-below word end is = by_length (length word == 0) is
    where
      by_column : (o : Option ℕ) → column_of [] count word ≡ o → option_map (λ (position : ℕ). position + 1) o ≡ Some end → end ≤ count
      by_column None own found = absurd (cc found)
      by_column (Some k) own found = let same : k + 1 ≡ end = cc found in let below = column-below word k own in omega (arith, same, below)

      by_length : (b : Bool) → (if b then Some count else option_map (λ (position : ℕ). position + 1) (column_of [] count word)) ≡ Some end → end ≤ count
      by_length true own = let same : count ≡ end = cc own in omega (arith, same)
      by_length false own = by_column (column_of [] count word) refl own

  -- a range ends with the last column at the latest
  rising-below : (word : Text) (a : Option ℕ) (ends : ℕ × ℕ) → rising a (end_of [] count word) ≡ Some ends → ends.1 ≤ count
  rising-below word a ends is = by_end a (end_of [] count word) (end-below word) is
    where
      by_end : (a b : Option ℕ) → ((end : ℕ) → b ≡ Some end → end ≤ count) → rising a b ≡ Some ends → ends.1 ≤ count
      by_end None b below own = absurd (cc own)
      by_end (Some start) None below own = absurd (cc own)
      by_end (Some start) (Some end) below own = by_order (nat_lt start end) own
        where
          by_order : (b : Bool) → (if b then Some (start, end) else None) ≡ Some ends → ends.1 ≤ count
          by_order true found = let same : (start, end) ≡ ends = cc found in subst (λ (p : ℕ × ℕ). p.1 ≤ count) same (below end refl)
          by_order false found = absurd (cc found)

  range_at-below : (word : Text) (at : ℕ) (ends : ℕ × ℕ) → range_at [] count word at ≡ Some ends → ends.1 ≤ count
  range_at-below word at ends is = by_hyphen (get_or word at 0 == 0x2D) is
    where
      by_hyphen : (b : Bool) → (if b then rising (column_of [] count (take at word)) (end_of [] count (drop (at + 1) word)) else None) ≡ Some ends → ends.1 ≤ count
      by_hyphen true own = rising-below (drop (at + 1) word) (column_of [] count (take at word)) ends own
      by_hyphen false own = absurd (cc own)

  range-below : (word : Text) (places : List ℕ) (ends : ℕ × ℕ) → first_answer (range_at [] count word) places ≡ Some ends → ends.1 ≤ count
  range-below word [] ends is = absurd (cc is)
  range-below word (at ∷ places) ends is = by_first (range_at [] count word at) (range_at-below word at ends) is (range-below word places ends)
    where
      by_first : (o : Option (ℕ × ℕ)) → (o ≡ Some ends → ends.1 ≤ count) → option_or o (first_answer (range_at [] count word) places) ≡ Some ends → (first_answer (range_at [] count word) places ≡ Some ends → ends.1 ≤ count) → ends.1 ≤ count
      by_first None own found later = later found
      by_first (Some first) own found later = own found

  abbrev by_word : Text → List ℕ
  by_word word = unwrap_or (option_map positions_between (columns_chosen [] count word)) []

  word-below : (word : Text) → All Below (by_word word)
  word-below word = by_column (column_of [] count word) refl
    where
      between : (ends : ℕ × ℕ) → ends.1 ≤ count → All Below (positions_between ends)
      between ends within = by_order (nat_le ends.0 ends.1) refl
        where
          by_order : (b : Bool) → nat_le ends.0 ends.1 ≡ b → All Below (positions_between ends)
          by_order true order = range_below ends.0 (ends.1 - ends.0) (grind (arith, order, within))
          by_order false order = let none : ends.1 - ends.0 ≡ 0 = grind (arith, order) in subst (λ (n : ℕ). All Below (range_with_len ends.0 n)) (sym none) (All-nil Below)

      by_range : (o : Option (ℕ × ℕ)) → range_of [] count word ≡ o → All Below (unwrap_or (option_map positions_between o) [])
      by_range None own = All-nil Below
      by_range (Some ends) own = between ends (range-below word (range_with_len 0 (length word)) ends own)

      by_column : (o : Option ℕ) → column_of [] count word ≡ o → All Below (unwrap_or (option_map positions_between (single_or o (range_of [] count word))) [])
      by_column None own = by_range (range_of [] count word) refl
      by_column (Some k) own = let below = column-below word k own in between (k, k + 1) (omega (arith, below))

  each-below : {A : Type 0} (words : List (String A)) → All Below (positions_by_each [] count words)
  each-below {A} words = All-flat_map Below (λ (word : String A). by_word (string_bytes word)) words (All-every (λ (word : String A). All Below (by_word (string_bytes word))) words (λ word. word-below (string_bytes word)))

  words-below : {A : Type 0} (words : List (String A)) → All Below (positions_by [] count words)
  words-below words = by_test (nat_lt (length words) 2)
    where
      by_test : (b : Bool) → All Below (option_map_or (λ (position : ℕ). positions_between (position, position + 1)) (if b then None else None) (positions_by_each [] count words))
      by_test true = each-below words
      by_test false = each-below words

-- so do the positions that options choose
positions-below : (options : Options) (rows : List (List Text)) → All (Below (count_of [] rows)) (positions_in options [] rows)
positions-below options rows =
    All-filter (λ (position : ℕ). not (list_any (λ (other : ℕ). other == position) (positions_by [] count options.columns.dropped.items))) (Below count) _ (by_words (length options.columns.chosen.items == 0))
  where
    count : ℕ
    count = count_of [] rows

    by_words : (b : Bool) → All (Below count) (if b then range_with_len 0 (filled_count [] rows) else positions_by [] count options.columns.chosen.items)
    by_words true = range_below count 0 (filled_count [] rows) (omega arith)
    by_words false = words-below count options.columns.chosen.items

-- ---- contents

module _ (options : Options) (records : List (List Text)) (own : ColumnsValue) (found : columns_for options records ≡ Ok own) where
  abbrev names : List Text
  names = names_or_none options.selection records

  abbrev rows : List (List Text)
  rows = drawn_rows options.selection records

  pub positions : own.drawn ≡ positions_in options names rows
  positions = kept_positions names (count_of names rows) (filled_count names rows) options.columns.chosen.items options.columns.dropped.items own.drawn (chosen names _ _ _ own found)

  -- the columns and their alignments are those that options choose
  pub are_columns_chosen : own ≡ columns_of_options options names rows
  are_columns_chosen =
      let sides = at_sides names _ _ _ own found in
      let count = count_of names rows in
      let right = found_by names count options.columns.right.items own.right sides.0 in
      let left = found_by names count options.columns.left.items own.left sides.1 in
      ap (λ (ps : List ℕ). record { drawn = ps; right = own.right; left = own.left }) positions
      ∙ ap₂ (λ (r l : List ℕ). record { drawn = positions_in options names rows; right = r; left = l }) right left

  pub some_position : 1 ≤ length own.drawn
  some_position = some_kept names (count_of names rows) (filled_count names rows) options.columns.chosen.items options.columns.dropped.items own.drawn (chosen names _ _ _ own found)

  pub are_below : AreBelow names rows own.drawn
  are_below unnamed = subst (All (Below (count_of [] rows))) (sym (positions ∙ ap (λ (ns : List Text). positions_in options ns rows) unnamed)) (positions-below options rows)

  -- as many columns are drawn as options choose
  pub counted : columns_in (layout_with options own) ≡ all_columns options records
  counted = ap (λ (ps : List ℕ). length ps + (if options.selection.is_numbered then 1 else 0)) positions

  module _ (known : Option ℕ) (content : SelectedValue) (is : selected_of known (layout_with options own) records ≡ content) where
    -- the positions of the drawn columns are those that options choose
    pub chosen_positions : map (λ (column : ColumnPlan). column.position) (columns_of (layout_with options own) records) ≡ positions_in options names rows
    chosen_positions = placed (layout_with options own) records known content is ∙ positions

    pub some_column : 1 ≤ length content.columns
    some_column = some_drawn (layout_with options own) records known content is some_position
