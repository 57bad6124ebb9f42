use Rattle.std.proofs.Common.{◌==◌, [], ◌∷◌, ap, arith, string_bytes, refl, subst, sym, true, ◌∙◌}
use Rattle.std.specs.List.{All, slice_split}
use Rattle.std.proofs.lemmas.List.Elements.{All-append, All-cons, All-nil}
use Rattle.std.proofs.lemmas.Grind.{common_steps}
use Rattle.std.proofs.lemmas.Result.{IfOk-weaker}
use Rattle.comfy_parts.specs.Presets.{ascii_full}
use Rattle.comfy_table.specs.Headline.{IsTableDrawing, TerminatesLines}
use Rattle.comfy_table.specs.Laws.{LeavesNoneOpen}
use Rattle.comfy_table.specs.TableValue.{TableValue, new_table, with_header, with_row}
use Rattle.test_callers.proofs.uses.sequences.printed_closed.Goals as goal

pub returns : goal.returns
returns c =
    IfOk-weaker c.to_terminated_text.result _ _
    (λ text printed.
    let table : TableValue = record (with_row c.args.row (with_header c.args.header (new_table ascii_full))) { custom_styling = true } in
    let ended : TerminatesLines table (string_bytes text) = subst (λ (t : TableValue). TerminatesLines t (string_bytes text)) (grind (arith, common_steps)) printed in
    let drawn : IsTableDrawing table ended.0 = ended.1 in
    let closed : All LeavesNoneOpen ended.0 = c.new_tables_leave_no_sequence_open.ensures ascii_full c.args.header (c.args.row ∷ []) ended.0 refl drawn in
    let found = c.lines_are_found_in_their_texts.ensures.terminated ended.0 (drawn.controls.without_breaks (record { indicator = refl; characters = refl })) in
    subst (All LeavesNoneOpen) (sym (ap (slice_split (λ b. b == 0x0A)) ended.2 ∙ found)) (All-append LeavesNoneOpen ended.0 ([] ∷ []) closed (All-cons LeavesNoneOpen [] [] refl (All-nil LeavesNoneOpen))))
    c.to_terminated_text.ensures
