use Rattle.std.proofs.Common.{rules, subst, string_bytes}
use Rattle.std.specs.Prelude.{◌≡◌, Option, ℕ}
use Rattle.std.proofs.lemmas.Result.{IfOk-weaker}
use Rattle.comfy_parts.specs.Text.{Text}
use Rattle.comfy_parts.specs.declared.style.table.ContentArrangement.{ContentArrangement}
use Rattle.comfy_parts.specs.declared.style.table_style.TableStyle.{TableStyle}
use Rattle.comfy_run.specs.Input.{RendersInput, input_table}
use Rattle.comfy_table.specs.Headline.{TerminatesLines}
use Rattle.comfy_table.specs.TableValue.{TableValue}
use Rattle.comfy_run.proofs.run.transfer.render_tsv.Goals as goal

-- the text of this table is the output for the input
output_of : (width : Option ℕ) (arrangement : ContentArrangement) (style : TableStyle) (input : Text) (table : TableValue) (output : Text) → table ≡ input_table width arrangement style input
    → TerminatesLines table output → RendersInput width arrangement style input output
output_of width arrangement style input table output same = subst (λ t. TerminatesLines t output) same

pub returns : goal.returns
returns c =
    IfOk-weaker c.to_terminated_text.result _ _
    (λ output. output_of c.args.settings.width c.args.settings.arrangement c.args.settings.style c.args.text.now _ (string_bytes output) (search rules)) c.to_terminated_text.ensures
