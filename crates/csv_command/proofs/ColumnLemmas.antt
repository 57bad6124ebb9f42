-- Choices of columns, one after another.
use Rattle.std.proofs.Common.{◌≡◌, ◌<◌, ◌+◌, ◌-◌, ℕ, suc, List, [], Option, Result, Ok, Err, String, get_or, length, string_bytes, take, refl, sym, arith}
use Rattle.std.proofs.lemmas.List.Folds.{fold_stuck}
use Rattle.std.specs.List.{range_with_len}
use Rattle.std.specs.Option.{option_or}
use Rattle.comfy_parts.specs.Text.{Text}
use Rattle.csv_command.specs.Columns.{ColumnFault, IsColumnsRefusal, first_answer, joined, positions_of_each, positions_of_word}
use Rattle.csv_command.specs.Columns.ColumnFault.{missing, none_left, two_sided}
use Rattle.csv_command.specs.declared.error.ColumnsError.{ColumnsError}
use Rattle.csv_command.specs.declared.error.ColumnsError.TheVariants.{NoColumn, NoneLeft, OutOfMemory, TwoSides}

then_fault : (found more : Result (List ℕ) ColumnFault) (xs : List ℕ) (fault : ColumnFault) → found ≡ Ok xs → more ≡ Err fault → joined found more ≡ Err fault
then_fault found more xs fault before at_fault = rw (before, at_fault) refl

module _ {A : Type 0} (names : List Text) (count : ℕ) (words : List (String A)) (i : ℕ) (d : String A) (xs : List ℕ) where
  -- the fault of the first word that chooses no column is the fault of the list
  stopped : (fault : ColumnFault) → i < length words → positions_of_each names count (take i words) ≡ Ok xs
      → positions_of_word names count (string_bytes (get_or words i d)) ≡ Err fault → positions_of_each names count words ≡ Err fault
  stopped fault within before at_fault =
      sym (fold_stuck (λ (found : Result (List ℕ) ColumnFault) (word : String A). joined found (positions_of_word names count (string_bytes word))) (Err fault) (λ x. refl) (Ok []) words i d within (then_fault (positions_of_each names count (take i words)) _ xs fault before at_fault))

  pub refused_word : (e : ColumnsError) → i < length words → positions_of_each names count (take i words) ≡ Ok xs
      → IsColumnsRefusal e (positions_of_word names count (string_bytes (get_or words i d))) → IsColumnsRefusal e (positions_of_each names count words)
  refused_word (NoColumn word hint) within before at_fault = stopped (missing (string_bytes word) (string_bytes hint)) within before at_fault
  refused_word NoneLeft within before at_fault = stopped none_left within before at_fault
  refused_word (TwoSides name) within before at_fault = stopped (two_sided (string_bytes name)) within before at_fault
  refused_word OutOfMemory within before at_fault = tt

-- the first answer among the numbers that are left, given the next number
pub next_answer : {A : Type 0} (f : ℕ → Option A) (i n : ℕ) → i < n → first_answer f (range_with_len i (n - i)) ≡ option_or (f i) (first_answer f (range_with_len (i + 1) (n - (i + 1))))
next_answer f i n below = let one : n - i ≡ suc (n - (i + 1)) = omega arith in rw one refl
