use Rattle.std.proofs.Common.{string_bytes, subst}
use Rattle.comfy_parts.specs.Text.{Text}
use Rattle.csv_command.proofs.RefusalLemmas.{refused_input, refused_arguments}
use Rattle.csv_command.specs.Drawn.{RendersInput}
use Rattle.csv_command.specs.Run.{IsInputRefusal}
use Rattle.csv_command.proofs.drawing.render_csv.Goals as goal

pub returns-in-Ok-output_of_input-clause-drawn : goal.returns-in-Ok-output_of_input-clause-drawn
returns-in-Ok-output_of_input-clause-drawn c =
    record {
      invocation = c.in-Ok.invocation;
      is_parsed = c.in-Ok.ensures.ok;
      is_output = subst (λ (bytes : Text). RendersInput c.in-Ok.invocation.options bytes (string_bytes c.in-Ok-output_of_input.output)) c.in_ok-input.ensures.items c.in-Ok-output_of_input.ensures.output;
    }

pub returns-clause-refused : goal.returns-clause-refused
returns-clause-refused c =
    let e = c.in-Err-output_of_input.error in
    refused_input _ c.args.input.now c.in-Ok.invocation c.in-Ok.ensures.ok e
    (subst (λ (bytes : Text). IsInputRefusal c.in-Ok.invocation.options bytes e) c.in_ok-input.ensures.items c.in-Err-output_of_input.ensures.refused) c.refusal_of_input.result c.refusal_of_input.ensures

pub returns-in-Err-clause-refused : goal.returns-in-Err-clause-refused
returns-in-Err-clause-refused c = refused_arguments _ c.args.input.now c.in-Err.error c.in-Err.ensures.refused c.refusal_of_arguments.result c.refusal_of_arguments.ensures
