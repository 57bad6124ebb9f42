-- No drawn line has a line feed, if neither the style nor the indicator has one. So splitting a text at line feeds
-- gives its lines.
use Rattle.std.proofs.Common.{◌≡◌, ℕ, ◌==◌, List, [], ◌∷◌, ◌++◌, refl, sym, ap, ◌∙◌, subst, arith, append_assoc}
use Rattle.std.specs.List.{All, slice_split}
use Rattle.std.specs.Str.{IsUtf8}
use Rattle.std.proofs.lemmas.List.Elements.{All-from_recursion, All-head, All-tail}
use Rattle.std.proofs.lemmas.List.Splits.{slice_split_at, slice_split_none}
use Rattle.comfy_parts.proofs.CallerLemmas.{All-none, HasNo-append, HasNo-visible, breaks_are_visible, every-second, visible-closed, sequence_clear}
use Rattle.comfy_parts.specs.Text.{Text}
use Rattle.comfy_parts.specs.VisibleText.{closed}
use Rattle.comfy_table.proofs.KeptDrawingLemmas.{drawn_of_all, keeps_drawing}
use Rattle.comfy_table.proofs.MeasuredLemmas.{IsRowOf}
use Rattle.comfy_table.proofs.StyledLemmas.{KeptByDrawing}
use Rattle.comfy_table.proofs.TextKindLemmas.{byte_kind, byte_style}
use Rattle.comfy_table.specs.Drawing.{drawing, infos_of, terminated_text_of, text_of}
use Rattle.comfy_table.specs.Laws.{HasNoBreak, HasUnbrokenStyle, JoinedLinesAreFound, TerminatedLinesAreFound, unstyled}
use Rattle.comfy_table.specs.TableValue.{TableValue, measured_rows}

-- texts without line feeds stay so as they are drawn
breaks_kept : KeptByDrawing HasNoBreak (λ shown text. HasNoBreak text)
breaks_kept =
    record {
      joins = record { kind = byte_kind 0x0A refl; of_kind = λ text clear. clear; of_both = λ shown others xs ys. HasNo-append 0x0A xs ys };
      of_sequence = sequence_clear;
      of_measured = breaks_are_visible;
      of_closed = λ text clear. breaks_are_visible (closed text) (subst HasNoBreak (sym (visible-closed text)) (HasNo-visible 0x0A text clear));
    }

-- so no line of a drawing has a line feed
pub without_breaks : (table : TableValue) (widths : List ℕ) → All (IsRowOf IsUtf8) (measured_rows table) → All (IsRowOf HasNoBreak) (measured_rows table) → HasUnbrokenStyle table → All HasNoBreak (drawing table widths)
without_breaks table widths whole clear style =
    All-from_recursion HasNoBreak (drawing table widths)
    (every-second HasNoBreak (drawing (unstyled table) widths) (drawing table widths) (keeps_drawing HasNoBreak (λ shown text. HasNoBreak text) breaks_kept table (infos_of table widths) style.indicator (byte_style 0x0A table.style (omega arith) style.characters) whole (drawn_of_all HasNoBreak (infos_of table widths) (measured_rows table) clear)))

-- ---- texts of lines

-- splitting at line feeds gives the line before the first one, and then splits the rest
first_line : (line rest : Text) → HasNoBreak line → slice_split (λ b. b == 0x0A) (line ++ 0x0A ∷ rest) ≡ line ∷ slice_split (λ b. b == 0x0A) rest
first_line line rest clear = slice_split_at (λ b. b == 0x0A) line 0x0A rest (All-none (λ b. b == 0x0A) line clear) refl

pub joined_lines : (lines : List Text) → JoinedLinesAreFound lines
joined_lines [] some each = absurd (omega (arith, some))
joined_lines (line ∷ []) some each = slice_split_none (λ b. b == 0x0A) line (All-none (λ b. b == 0x0A) line (All-head HasNoBreak line [] each))
joined_lines (line ∷ next ∷ more) some each =
    first_line line (text_of (next ∷ more)) (All-head HasNoBreak line (next ∷ more) each)
    ∙ ap (λ parts. line ∷ parts) (joined_lines (next ∷ more) (omega arith) (All-tail HasNoBreak line (next ∷ more) each))

pub terminated_lines : (lines : List Text) → TerminatedLinesAreFound lines
terminated_lines [] each = refl
terminated_lines (line ∷ more) each =
    ap (slice_split (λ b. b == 0x0A)) (append_assoc line (0x0A ∷ []) (terminated_text_of more))
    ∙ first_line line (terminated_text_of more) (All-head HasNoBreak line more each)
    ∙ ap (λ parts. line ∷ parts) (terminated_lines more (All-tail HasNoBreak line more each))
