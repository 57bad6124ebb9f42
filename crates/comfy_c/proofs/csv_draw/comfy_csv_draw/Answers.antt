use Rattle.std.proofs.Common.{◌≡◌, ◌∙◌, ap, length, rules, string_bytes, subst, sym, tests}
use Rattle.csv_command.specs.declared.drawing.Refusal.{Refusal}
use Rattle.csv_command.specs.declared.drawing.Refusal.TheVariants.{Input}
use Rattle.comfy_parts.specs.Text.{Text}
use Rattle.comfy_c.proofs.CallLemmas.{in_front, returned}
use Rattle.comfy_c.specs.Calls.{IsCsvDrawing, IsCsvRefusal, IsInputMessage}
use Rattle.comfy_c.proofs.csv_draw.comfy_csv_draw.Goals as goal

pub returns-then-put-clause-drawn : goal.returns-then-put-clause-drawn
returns-then-put-clause-drawn c is = (
  search (rules, tests),
  in_front (IsCsvDrawing c.args.arguments.now c.args.input.now) c.as_bytes-in-Ok-drawing_for.result.now c.args.output.now c.put-in-Ok-drawing_for.ensures.needed c.put-in-Ok-drawing_for.ensures.output c.as_bytes-in-Ok-drawing_for.ensures.value
      (subst (λ (arguments : Text). IsCsvDrawing arguments c.args.input.now (string_bytes c.in-Ok-drawing_for.drawing)) c.in-Ok.ensures.cases.0 c.in-Ok-drawing_for.ensures.drawn) (sym c.put-in-Ok-drawing_for.ensures.fits ∙ c.if-put.true),
)

pub returns-in-Ok-drawing_for-clause-room_too_small : goal.returns-in-Ok-drawing_for-clause-room_too_small
returns-in-Ok-drawing_for-clause-room_too_small c is = (
  search (rules, tests),
  string_bytes c.in-Ok-drawing_for.drawing,
  c.put-in-Ok-drawing_for.ensures.needed ∙ ap length c.as_bytes-in-Ok-drawing_for.ensures.value,
  subst (λ (arguments : Text). IsCsvDrawing arguments c.args.input.now (string_bytes c.in-Ok-drawing_for.drawing)) c.in-Ok.ensures.cases.0 c.in-Ok-drawing_for.ensures.drawn,
)

pub returns-in-Err-Input-clause-input_refused : goal.returns-in-Err-Input-clause-input_refused
returns-in-Err-Input-clause-input_refused c is =
    let line = c.in-Err-Input.line in
    let of_input : c.in-Err-Input.field-0 ≡ Input line = search rules in
    let known : IsInputMessage c.in-Ok.text.now c.args.input.now (string_bytes line) = subst (λ (refusal : Refusal). IsCsvRefusal c.in-Ok.text.now c.args.input.now refusal) of_input c.in-Err-Input.ensures.refused in
    returned (IsInputMessage c.args.arguments.now c.args.input.now) c.as_bytes-in-Err-Input.result.now c.args.output.now c.put-in-Err-Input.ensures.needed c.put-in-Err-Input.ensures.output c.as_bytes-in-Err-Input.ensures.value
    (subst (λ (arguments : Text). IsInputMessage arguments c.args.input.now (string_bytes line)) c.in-Ok.ensures.cases.0 known)
