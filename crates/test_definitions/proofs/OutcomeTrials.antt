-- Results of `run` on an empty input and on half a character.
use Rattle.std.proofs.Common.{◌≡◌, ◌+◌, ◌∙◌, [], ◌∷◌, ap, length, length-append, refl, Global, None, true, false, arith}
use Rattle.std.specs.Prelude.{codes}
use Rattle.comfy_parts.proofs.Computing.{wrapping}
use Rattle.comfy_parts.specs.Presets.{ascii_full}
use Rattle.comfy_parts.specs.declared.style.table.ContentArrangement.TheVariants.{Disabled}
use Rattle.std.proofs.lemmas.List.Elements.{All-nil}
use Rattle.comfy_parts.specs.CellValue.{IsColumn, IsRow}
use Rattle.comfy_parts.specs.Text.{Text}
use Rattle.comfy_run.specs.Input.{RendersInput, input_table}
use Rattle.comfy_table.proofs.HeadlineLemmas.{table_drawing, utf8_indicator}
use Rattle.comfy_table.specs.TableValue.{KeepsParts, TableValue}
use Rattle.comfy_run.specs.Run.{IsDrawnFrom}
use Rattle.comfy_run.specs.declared.settings.Settings.{Settings}
use Rattle.devices.specs.Outcome.{IsAfterOk, IsAfterRead, IsAfterWrite, IsBeginningOnly, RunFacts}
use Rattle.test_definitions.proofs.TrialTables.{at_widths}

-- the settings of these runs
abbrev plain : Settings
plain = record { width = None; arrangement = Disabled; style = ascii_full }

-- the table of an empty input
abbrev no_table : TableValue
no_table = input_table None Disabled ascii_full []

kept : KeepsParts no_table
kept = record { columns = All-nil IsColumn; header = tt; rows = All-nil IsRow; delimiter = tt }

abbrev both_lines : RendersInput None Disabled ascii_full [] (codes "++\n++\n")
unfolding wrapping
both_lines = (codes "++" ∷ codes "++" ∷ [], table_drawing no_table [] (codes "++" ∷ codes "++" ∷ []) (utf8_indicator {A = Global} None) kept ([], at_widths refl refl refl, refl) refl, refl)

abbrev all_written : RunFacts
all_written = record { input = []; end_was_read = true; written = codes "++\n++\n"; read_failed = false; write_failed = false }

after_ok : IsAfterOk (IsDrawnFrom plain) all_written
after_ok = record { no_device_failed = record { no_read_failed = refl; no_write_failed = refl }; whole = refl; output = (([], (refl, refl)), both_lines) }

-- the writer failed after the first line
abbrev half_written : RunFacts
half_written = record { input = []; end_was_read = true; written = codes "++\n"; read_failed = false; write_failed = true }

after_write : IsAfterWrite (IsDrawnFrom plain) half_written
after_write =
    record {
      failed = refl;
      no_read_failed = refl;
      part = record { whole = refl; output = codes "++\n++\n"; is_output = (([], (refl, refl)), both_lines); beginning = record { rest = codes "++\n"; joins = refl; some_are_missing = omega arith } };
    }

-- a whole output isn't a proper prefix of itself
no_part : (output : Text) → ¬ (IsBeginningOnly output output)
no_part output part = let longer : length output ≡ length output + length part.rest = ap length part.joins ∙ length-append output part.rest in absurd (omega (arith, longer, part.some_are_missing))

-- the reader failed, before the end or after all bytes
abbrev half_read : RunFacts
half_read = record { input = 0xE2 ∷ 0x9C ∷ []; end_was_read = false; written = []; read_failed = true; write_failed = false }

after_read : IsAfterRead half_read
after_read = record { failed = refl; no_write_failed = refl; nothing_written = refl; nothing_left = λ whole. absurd (cc whole) }
