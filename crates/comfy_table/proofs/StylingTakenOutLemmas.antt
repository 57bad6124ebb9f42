-- Without their sequences, the styled lines of a drawing are its unstyled lines.
use Rattle.std.proofs.Common.{◌≡◌, ℕ, List, [], ◌∷◌, length, map, refl, sym, ap₂, ◌∙◌, subst, arith}
use Rattle.std.specs.List.{All, AllZip}
use Rattle.std.specs.Str.{IsUtf8}
use Rattle.comfy_parts.proofs.CallerLemmas.{Shows, Shows-append, Shows-clear, Shows-visible, Shows-sequence, visible-closed, visible_text-is}
use Rattle.comfy_parts.specs.Text.{Text}
use Rattle.comfy_parts.specs.VisibleText.{closed, visible_text}
use Rattle.comfy_table.proofs.KeptDrawingLemmas.{keeps_drawing}
use Rattle.comfy_table.proofs.MeasuredLemmas.{IsRowOf}
use Rattle.comfy_table.proofs.ShownTextLemmas.{drawn_of_shown}
use Rattle.comfy_table.proofs.StyledLemmas.{KeptByDrawing}
use Rattle.comfy_table.proofs.TextKindLemmas.{byte_kind, byte_style}
use Rattle.comfy_table.specs.Drawing.{drawing, infos_of}
use Rattle.comfy_table.specs.Laws.{HasNoEscape, IsFreeOfEscapes, unstyled}
use Rattle.comfy_table.specs.TableValue.{TableValue, measured_rows}

-- the visible part of a text without ESC stays the same as the text is drawn
shows_kept : KeptByDrawing HasNoEscape Shows
shows_kept =
    record {
      joins = record { kind = byte_kind 0x1B refl; of_kind = Shows-clear; of_both = Shows-append };
      of_sequence = Shows-sequence;
      of_measured = Shows-visible;
      of_closed = λ text clear.
          let same : visible_text (closed text) ≡ text = visible-closed text ∙ visible_text-is text text (Shows-clear text clear) in
          subst (λ s. Shows s (closed text)) same (Shows-visible (closed text) (subst HasNoEscape (sym same) clear));
    }

-- if these are the visible parts of lines, they are their visible texts
visible_texts-are : (shown texts : List Text) → AllZip Shows shown texts → map visible_text texts ≡ shown
visible_texts-are [] [] each = refl
visible_texts-are [] (text ∷ texts) each = absurd each
visible_texts-are (s ∷ shown) [] each = absurd each
visible_texts-are (s ∷ shown) (text ∷ texts) each =
    ap₂ (λ x xs. x ∷ xs) (visible_text-is s text each.0) (visible_texts-are shown texts each.1)

-- without their sequences, the drawn lines are the unstyled lines. Texts have to be UTF-8: other bytes could be cut so
-- that an ESC comes to be.
pub styling_taken_out : (table : TableValue) (widths : List ℕ) → length widths ≡ length table.columns → All (IsRowOf IsUtf8) (measured_rows table) → IsFreeOfEscapes table → map visible_text (drawing table widths) ≡ drawing (unstyled table) widths
styling_taken_out table widths long whole free =
    visible_texts-are (drawing (unstyled table) widths) (drawing table widths) (keeps_drawing HasNoEscape Shows shows_kept table (infos_of table widths) free.style.indicator (byte_style 0x1B table.style (omega arith) free.style.characters) whole (drawn_of_shown HasNoEscape table widths long free.text_lines))
