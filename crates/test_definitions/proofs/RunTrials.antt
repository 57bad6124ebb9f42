-- Results of `draw` that are possible, and some that aren't.
use Rattle.std.proofs.Common.{◌≡◌, inl, inr, ◌<◌, ◌≤◌, ◌^◌, ℕ, zero, suc, true, false, Err, List, Some, None, [], ◌∷◌, ap, arith, codes, length, map, refl, replicate}
use Rattle.std.proofs.Math.Pow.{pow_mono}
use Rattle.std.specs.Fmt.{digits}
use Rattle.std.specs.Str.{chars, is_utf8}
use Rattle.std.proofs.lemmas.List.{length-replicate}
use Rattle.std.proofs.lemmas.Str.{is_utf8-from_IsUtf8}
use Rattle.comfy_parts.specs.Text.{Text}
use Rattle.csv_records.specs.Beginning.{whole_lines}
use Rattle.csv_records.specs.declared.encoding.Encoding.TheVariants.{Utf8}
use Rattle.csv_tables.specs.Drawn.{note_for}
use Rattle.csv_tables.specs.declared.selection.Noun.TheVariants.{Record}
use Rattle.csv_command.specs.Drawn.{AreEnough, IsNotEnough}
use Rattle.csv_command.proofs.FirstRowLemmas.{whole_no_memory}
use Rattle.csv_command.specs.Run.{IsAfter, IsAfterIn}
use Rattle.csv_command.specs.declared.error.CsvError.TheVariants.{OutOfMemory}
use Rattle.csv_command.specs.declared.arguments.Options.{Options}
use Rattle.devices.proofs.TestedLemmas.{tested_some}
use Rattle.devices.specs.Outcome.{IsByBeginning, NoneIsEnough, RunFacts, Whole, tested_at, tested_front}

-- ---- want of memory

-- an input of one byte that isn't UTF-8 was read whole
abbrev facts : RunFacts
facts = record { input = 0xFF ∷ []; end_was_read = true; written = []; read_failed = false; write_failed = false }

-- it is read as UTF-8, with any limit
abbrev in_utf8 : Options → Options
in_utf8 options = record options { input = record options.input { skip = 0; encoding = Some Utf8 } }

-- so the result isn't a lack of memory
out_of_memory : (options : Options) → ¬ (IsAfter {T = ℕ} (in_utf8 options) (Err OutOfMemory) facts)
unfolding chars is_utf8
out_of_memory options (inl after) = by_time after.says
  where
    by_time : IsAfterIn {T = ℕ} (in_utf8 options) (Err OutOfMemory) Whole facts → ⊥
    by_time (inl nothing) = let is : false ≡ true = is_utf8-from_IsUtf8 (0xFF ∷ []) (nothing.fine refl refl) in cc is
    by_time (inr part) =
        let text = part.part.is_output.are_records in
        let is : false ≡ true = is_utf8-from_IsUtf8 (0xFF ∷ []) (whole_no_memory (in_utf8 options) (0xFF ∷ []) text.text text.is_text refl) in
        cc is
out_of_memory options (inr part) = let unread : true ≡ false = part.unread in cc unread

-- a beginning of a longer input may have this result, if its rest wasn't read
abbrev limited : Options → Options
limited options = record options { counts_all = false; selection = record options.selection { limit = Some 3 } }

abbrev begun : RunFacts
begun = record { input = replicate 65536 0xFF; end_was_read = false; written = []; read_failed = false; write_failed = false }

out_of_memory_by_beginning : (options : Options) → IsAfter {T = ℕ} (limited options) (Err OutOfMemory) begun
out_of_memory_by_beginning options =
    inr (record {
      n = 0;
      is_tested = record { reaches = omega (arith, length-replicate {A = ℕ} 65536 0xFF); none_before = λ m below. absurd (omega (arith, below)) };
      unread = refl;
      says = inl (record { no_device_failed = record { no_read_failed = refl; no_write_failed = refl }; nothing_written = refl; fine = λ whole. record { limit = 3; is = refl; uncounted = refl } });
    })

-- ---- beginnings

tested : map tested_at (0 ∷ 1 ∷ 2 ∷ []) ≡ 65536 ∷ 131072 ∷ 262144 ∷ []
tested = refl

-- no beginning has three times 65536 bytes
three_blocks : (n : ℕ) → ¬ (tested_at n ≡ 196608)
three_blocks zero is = absurd (omega (arith, is))
three_blocks (suc zero) is = absurd (omega (arith, is))
three_blocks (suc (suc n)) is = absurd (let more : 2 ^ 2 ≤ 2 ^ suc (suc n) = pow_mono {i = 2} {j = suc (suc n)} (omega arith) in omega (arith, is, more))

-- no beginning of a shorter input is drawn, not even of an empty one
short : (options : Options) (Says : RunFacts → Type 0) → ¬ (IsByBeginning (IsNotEnough options) Says facts)
short options Says part = absurd (omega (arith, tested_some part.n, part.is_tested.reaches))

-- if the first beginning is enough, neither a longer one is drawn nor the whole input
later : (options : Options) (facts : RunFacts) (records : List (List Text)) → AreEnough options (whole_lines (tested_front 0 facts.input)) records → (Says : RunFacts → Type 0) → (part : IsByBeginning (IsNotEnough options) Says facts) → part.n ≡ 0
later options facts records enough Says part = by_turn part.n part.is_tested.none_before
  where
    by_turn : (n : ℕ) → ((m : ℕ) → m < n → IsNotEnough options (tested_front m facts.input)) → n ≡ 0
    by_turn zero none = refl
    by_turn (suc n) none = absurd (none 0 (omega arith) records enough)

whole : (options : Options) (input : Text) (records : List (List Text)) → 65536 ≤ length input → AreEnough options (whole_lines (tested_front 0 input)) records → ¬ (NoneIsEnough (IsNotEnough options) input)
whole options input records long enough none = none 0 long records enough

lines : map whole_lines (codes "a\nb\nc" ∷ codes "a\n" ∷ codes "ab" ∷ codes "\n\n\r" ∷ []) ≡ codes "a\nb\n" ∷ codes "a\n" ∷ [] ∷ codes "\n\n" ∷ []
lines = refl

-- a known count isn't drawn as an unknown one
two_notes : ¬ (note_for Record false (Some 3) (Some 12) ≡ note_for Record false (Some 3) None)
unfolding digits
two_notes is = let differ : 16 ≡ 32 = ap length is in absurd (omega (arith, differ))
