-- The visible text of a drawing has no control character, if its texts, its style and its indicator have none.
use Rattle.std.proofs.Common.{◌≡◌, ℕ, false, ◌==◌, List, Option, length, refl, unwrap_or, arith}
use Rattle.std.specs.Char.{is_control}
use Rattle.std.specs.List.{All}
use Rattle.std.specs.Str.{IsUtf8}
use Rattle.std.proofs.lemmas.List.Elements.{All-from_recursion, All-weaker}
use Rattle.std.proofs.lemmas.List.Folds.{list_any_none}
use Rattle.std.proofs.lemmas.Str.{NoCharPasses-append, NoCharPasses-nil}
use Rattle.comfy_parts.proofs.CallerLemmas.{All-none, every-first, none_by_characters, unlike}
use Rattle.comfy_parts.specs.Columns.{style_characters}
use Rattle.comfy_parts.specs.Text.{Text}
use Rattle.comfy_table.proofs.KeptDrawingLemmas.{keeps_drawing}
use Rattle.comfy_table.proofs.MeasuredLemmas.{IsRowOf}
use Rattle.comfy_table.proofs.ShownTextLemmas.{drawn_of_shown, shown_weaker}
use Rattle.comfy_table.proofs.StyledLemmas.{KeptByDrawing}
use Rattle.comfy_table.proofs.TextKindLemmas.{character_kind, character_style}
use Rattle.comfy_table.specs.Drawing.{drawing, infos_of}
use Rattle.comfy_table.specs.Laws.{HasNoControl, HasNoEscape, IsFreeOfControls, IsFreeOfEscapes, unstyled}
use Rattle.comfy_table.specs.TableValue.{TableValue, measured_rows}

-- a text without control characters has no ESC
no_escape : (text : Text) → HasNoControl text → HasNoEscape text
no_escape = none_by_characters is_control 0x1B (omega arith) refl

pub free_of_escapes : (table : TableValue) → IsFreeOfControls table → IsFreeOfEscapes table
free_of_escapes table free =
    record {
      text_lines = shown_weaker HasNoControl HasNoEscape table no_escape free.text_lines;
      style = record {
        indicator = no_escape table.indicator free.indicator;
        characters = list_any_none (λ (c : Option ℕ). unwrap_or c 0x20 == 0x1B) (style_characters table.style)
            (All-weaker (λ (c : Option ℕ). is_control (unwrap_or c 0x20) ≡ false) (λ (c : Option ℕ). (unwrap_or c 0x20 == 0x1B) ≡ false) (λ c fails. unlike is_control (unwrap_or c 0x20) 0x1B refl (λ _. fails)) (style_characters table.style)
            (All-none (λ (c : Option ℕ). is_control (unwrap_or c 0x20)) (style_characters table.style) free.characters));
      };
    }

-- the visible text has none, however the text is drawn
controls_kept : KeptByDrawing HasNoControl (λ shown text. HasNoControl shown)
controls_kept =
    record {
      joins = record { kind = character_kind is_control refl; of_kind = λ text none. none; of_both = λ shown others xs ys. NoCharPasses-append is_control shown others };
      of_sequence = λ code all. NoCharPasses-nil is_control;
      of_measured = λ text none. none;
      of_closed = λ text none. none;
    }

-- so no line has one without styling
pub without_controls : (table : TableValue) (widths : List ℕ) → length widths ≡ length table.columns → All (IsRowOf IsUtf8) (measured_rows table) → IsFreeOfControls table → All HasNoControl (drawing (unstyled table) widths)
without_controls table widths long whole free =
    All-from_recursion HasNoControl (drawing (unstyled table) widths)
    (every-first HasNoControl (drawing (unstyled table) widths) (drawing table widths)
    (keeps_drawing HasNoControl (λ shown text. HasNoControl shown) controls_kept table (infos_of table widths) free.indicator (character_style is_control table.style free.characters) whole (drawn_of_shown HasNoControl table widths long free.text_lines)))
