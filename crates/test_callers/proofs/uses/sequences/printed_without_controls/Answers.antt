use Rattle.std.proofs.Common.{◌≡◌, ◌==◌, [], ◌∷◌, ap, arith, map, string_bytes, refl, subst, sym, ◌∙◌}
use Rattle.std.specs.List.{All, slice_split}
use Rattle.std.proofs.lemmas.List.Elements.{All-append, All-cons, All-map, All-nil}
use Rattle.std.proofs.lemmas.Grind.{common_steps}
use Rattle.std.proofs.lemmas.Result.{IfOk-weaker}
use Rattle.comfy_parts.specs.VisibleText.{visible_text}
use Rattle.comfy_table.specs.Headline.{IsTableDrawing, TerminatesLines}
use Rattle.comfy_table.specs.Laws.{HasNoControl}
use Rattle.comfy_table.specs.TableValue.{TableValue}
use Rattle.test_callers.specs.Uses.{table_of_two}
use Rattle.test_callers.proofs.uses.sequences.printed_without_controls.Goals as goal

pub returns : goal.returns
returns c =
    IfOk-weaker c.to_terminated_text.result _ _
    (λ text printed free.
    let table : TableValue = table_of_two c.args.header c.args.row in
    let ended : TerminatesLines table (string_bytes text) = subst (λ (t : TableValue). TerminatesLines t (string_bytes text)) (grind (arith, common_steps)) printed in
    let drawn : IsTableDrawing table ended.0 = ended.1 in
    let visible : map visible_text ended.0 ≡ ended.0 = drawn.sequences.without_sequences (c.tables_without_controls_have_no_escape.ensures table free) ∙ sym (drawn.edges.unstyled_lines refl refl) in
    let none : All HasNoControl ended.0 = subst (All HasNoControl) visible (All-map HasNoControl visible_text ended.0 (drawn.controls.without_controls free)) in
    let found = c.lines_are_found_in_their_texts.ensures.terminated ended.0 (drawn.controls.without_breaks (record { indicator = refl; characters = refl })) in
    subst (All HasNoControl) (sym (ap (slice_split (λ b. b == 0x0A)) ended.2 ∙ found)) (All-append HasNoControl ended.0 ([] ∷ []) none (All-cons HasNoControl [] [] ([], refl, tt) (All-nil HasNoControl))))
    c.to_terminated_text.ensures
