use Rattle.std.proofs.Common.{None, map, subst, sym, string_bytes, ◌≡◌}
use Rattle.csv_command.specs.Refusals.{IsMessageOnInput, IsRefusedFor}
use Rattle.csv_command.specs.declared.drawing.Refusal.{Refusal}
use Rattle.csv_command.specs.declared.drawing.Refusal.TheVariants.{Input}
use Rattle.csv_promises.proofs.MessageLemmas.{message}
use Rattle.csv_promises.proofs.harmless.harmless_message.Goals as goal
use Rattle.csv_promises.specs.Messages.{IsTameLine}

pub returns-in-Err-Input : goal.returns-in-Err-Input
returns-in-Err-Input c =
    let same : c.in-Err-Input.field-0 ≡ Input c.in-Err-Input.message = c.in-Err-Input.field-0-is in
    let known : IsMessageOnInput _ c.args.input.now (string_bytes c.in-Err-Input.message) = subst (λ (r : Refusal). IsRefusedFor (map (λ w. w.now) c.args.arguments.now) c.args.input.now r) same c.in-Err-Input.ensures.refused in
    subst IsTameLine (sym known.is_line) (message known.invocation None known.error)
