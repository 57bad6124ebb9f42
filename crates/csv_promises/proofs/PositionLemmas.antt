-- The positions of the columns that are drawn are those that the words of options choose.
use Rattle.std.proofs.Common.{◌≡◌, ◌==◌, ◌≤◌, ◌+◌, ℕ, Bool, true, false, List, [], ◌∷◌, ◌++◌, Option, Some, None, Result, Ok, Err, fold, length, sym, ap, ap₂, ◌∙◌, append-nil, append_assoc, arith, refl, subst}
use Rattle.std.specs.List.{range_with_len}
use Rattle.std.specs.Option.{option_map_or}
use Rattle.std.specs.Prelude.{String, if◌then◌else◌, ok_or, option_map, string_bytes, unwrap_or}
use Rattle.std.proofs.lemmas.Bool.Decides.{nat_tests}
use Rattle.comfy_parts.specs.Text.{Text}
use Rattle.csv_command.specs.Columns.{ColumnFault, at_two_sides, chosen_columns, columns_chosen, columns_with, joined, kept_columns, less, positions_between, positions_of, positions_of_each, placed_columns, positions_of_word, some_left, whole_name, without}
use Rattle.csv_command.specs.Columns.ColumnFault.{missing, none_left}
use Rattle.csv_command.specs.Hints.{hint_for}
use Rattle.csv_promises.specs.Fields.{positions_by, positions_by_each}
use Rattle.csv_tables.specs.Columns.{ColumnsValue}

module _ {A : Type 0} (names : List Text) (count : ℕ) where
  abbrev step : Result (List ℕ) ColumnFault → String A → Result (List ℕ) ColumnFault
  step found word = joined found (positions_of_word names count (string_bytes word))

  -- a fault remains
  still_faulty : (fault : ColumnFault) (words : List (String A)) (ps : List ℕ) → ¬ (fold step (Err fault) words ≡ Ok ps)
  still_faulty fault [] ps is = cc is
  still_faulty fault (word ∷ words) ps is = still_faulty fault words ps is

  -- without a fault, each word chooses columns
  each_found : (words : List (String A)) (before ps : List ℕ) → fold step (Ok before) words ≡ Ok ps → ps ≡ before ++ positions_by_each names count words
  each_found [] before ps is = let same : before ≡ ps = cc is in sym same ∙ sym (append-nil before)
  each_found (word ∷ words) before ps is = by_word (option_map positions_between (columns_chosen names count (string_bytes word))) (λ own. each_found words (before ++ own) ps) is
    where
      by_word : (o : Option (List ℕ)) → ((own : List ℕ) → fold step (Ok (before ++ own)) words ≡ Ok ps → ps ≡ (before ++ own) ++ positions_by_each names count words)
          → fold step (joined (Ok before) (ok_or o (missing (string_bytes word) (hint_for names count (string_bytes word))))) words ≡ Ok ps → ps ≡ before ++ (unwrap_or o [] ++ positions_by_each names count words)
      by_word (Some own) more is = more own is ∙ append_assoc before own (positions_by_each names count words)
      by_word None more is = absurd (still_faulty (missing (string_bytes word) (hint_for names count (string_bytes word))) words ps is)

  -- the words are a name together, or each chooses columns
  pub found_by : (words : List (String A)) (ps : List ℕ) → positions_of names count words ≡ Ok ps → ps ≡ positions_by names count words
  found_by words ps = by_name (whole_name names words)
    where
      by_name : (o : Option ℕ) → option_map_or (λ position. Ok (positions_between (position, position + 1))) o (positions_of_each names count words) ≡ Ok ps → ps ≡ option_map_or (λ position. positions_between (position, position + 1)) o (positions_by_each names count words)
      by_name None is = each_found words [] ps is
      by_name (Some position) is = let same : positions_between (position, position + 1) ≡ ps = cc is in sym same

  all_or_chosen : (filled : ℕ) (words : List (String A)) (ps : List ℕ) → chosen_columns names (record { all = count; filled = filled }) words ≡ Ok ps → ps ≡ (if length words == 0 then range_with_len 0 filled else positions_by names count words)
  all_or_chosen filled words ps = by_test (length words == 0)
    where
      by_test : (b : Bool) → (if b then Ok (range_with_len 0 filled) else positions_of names count words) ≡ Ok ps → ps ≡ (if b then range_with_len 0 filled else positions_by names count words)
      by_test true is = let same : range_with_len 0 filled ≡ ps = cc is in sym same
      by_test false is = found_by words ps is

-- positions that are left are unchanged, and there is at least one
left_as_they_are : (positions kept : List ℕ) → some_left positions ≡ Ok kept → (kept ≡ positions) × (1 ≤ length kept)
left_as_they_are positions kept = by_test (length positions == 0) refl
  where
    by_test : (b : Bool) → (length positions == 0) ≡ b → (if b then Err none_left else Ok positions) ≡ Ok kept → (kept ≡ positions) × (1 ≤ length kept)
    by_test true test is = absurd (cc is)
    by_test false test is = let same : positions ≡ kept = cc is in (sym same, subst (λ (own : List ℕ). 1 ≤ length own) same (grind (arith, nat_tests, test)))

pub kept_positions : {A : Type 0} (names : List Text) (all filled : ℕ) (words dropped : List (String A)) (kept : List ℕ) → kept_columns names (record { all = all; filled = filled }) words dropped ≡ Ok kept
    → kept ≡ without (if length words == 0 then range_with_len 0 filled else positions_by names all words) (positions_by names all dropped)
kept_positions {A} names all filled words dropped kept is = by_lists (chosen_columns names (record { all = all; filled = filled }) words) (positions_of names all dropped) (all_or_chosen names all filled words) (found_by names all dropped) is
  where
    by_lists : (chosen left : Result (List ℕ) ColumnFault) → ((ps : List ℕ) → chosen ≡ Ok ps → ps ≡ (if length words == 0 then range_with_len 0 filled else positions_by names all words)) → ((ps : List ℕ) → left ≡ Ok ps → ps ≡ positions_by names all dropped) → less chosen left ≡ Ok kept
        → kept ≡ without (if length words == 0 then range_with_len 0 filled else positions_by names all words) (positions_by names all dropped)
    by_lists (Ok ps) (Ok qs) all some is = (left_as_they_are (without ps qs) kept is).0 ∙ ap₂ (λ (a b : List ℕ). without a b) (all ps refl) (some qs refl)
    by_lists (Ok ps) (Err fault) all some is = absurd (cc is)
    by_lists (Err fault) left all some is = absurd (cc is)

-- at least one position is left
some_are_left : (chosen dropped : Result (List ℕ) ColumnFault) (kept : List ℕ) → less chosen dropped ≡ Ok kept → 1 ≤ length kept
some_are_left (Err fault) dropped kept is = absurd (cc is)
some_are_left (Ok ps) (Err fault) kept is = absurd (cc is)
some_are_left (Ok ps) (Ok qs) kept is = (left_as_they_are (without ps qs) kept is).1

pub some_kept : {A : Type 0} (names : List Text) (all filled : ℕ) (words dropped : List (String A)) (kept : List ℕ) → kept_columns names (record { all = all; filled = filled }) words dropped ≡ Ok kept → 1 ≤ length kept
some_kept names all filled words dropped kept is = some_are_left (chosen_columns names (record { all = all; filled = filled }) words) (positions_of names all dropped) kept is

placed : (names : List Text) (made columns : ColumnsValue) (fault : Option ℕ) → placed_columns names made fault ≡ Ok columns → made ≡ columns
placed names made columns (Some p) is = absurd (cc is)
placed names made columns None is = cc is

-- the columns that are drawn are those that were kept
pub chosen : (names : List Text) (kept right left : Result (List ℕ) ColumnFault) (columns : ColumnsValue) → columns_with names kept right left ≡ Ok columns → kept ≡ Ok columns.drawn
chosen names (Ok ps) (Ok right) (Ok left) columns is = ap (λ (own : ColumnsValue). Ok own.drawn) (placed names (record { drawn = ps; right = right; left = left }) columns (at_two_sides right left) is)
chosen names (Ok ps) (Ok right) (Err fault) columns is = absurd (cc is)
chosen names (Ok ps) (Err fault) left columns is = absurd (cc is)
chosen names (Err fault) right left columns is = absurd (cc is)

-- the right-aligned and the left-aligned columns are those that words choose
pub at_sides : (names : List Text) (kept right left : Result (List ℕ) ColumnFault) (columns : ColumnsValue) → columns_with names kept right left ≡ Ok columns → (right ≡ Ok columns.right) × (left ≡ Ok columns.left)
at_sides names (Ok ps) (Ok right) (Ok left) columns is =
    let same = placed names (record { drawn = ps; right = right; left = left }) columns (at_two_sides right left) is in
    (ap (λ (own : ColumnsValue). Ok own.right) same, ap (λ (own : ColumnsValue). Ok own.left) same)
at_sides names (Ok ps) (Ok right) (Err fault) columns is = absurd (cc is)
at_sides names (Ok ps) (Err fault) left columns is = absurd (cc is)
at_sides names (Err fault) right left columns is = absurd (cc is)
