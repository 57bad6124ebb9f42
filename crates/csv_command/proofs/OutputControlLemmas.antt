-- No control character is visible in the drawing of an input.
use Rattle.std.proofs.Common.{List, [], ◌∷◌, Some}
use Rattle.std.specs.List.{All}
use Rattle.std.proofs.lemmas.Str.{NoCharPasses-nil}
use Rattle.comfy_parts.specs.Text.{Text}
use Rattle.comfy_parts.specs.VisibleText.{visible_text}
use Rattle.csv.specs.Records.{AllText}
use Rattle.csv_command.proofs.StyleLemmas.{parsed_style_without_controls}
use Rattle.csv_command.specs.Drawn.{RendersCounted, RendersInput, layout_with}
use Rattle.csv_command.specs.Refusals.{IsRendered, not_a_terminal}
use Rattle.csv_command.specs.declared.arguments.Options.{Options}
use Rattle.csv_tables.proofs.OutputControlLemmas.{output_without_controls}
use Rattle.csv_records.specs.Cleaning.{is_harmful}
use Rattle.csv_tables.specs.Controls.{HasNothingHarmful, IsHarmlessStyle}
use Rattle.csv_tables.specs.Drawn.{count_below}

-- the records of an input are UTF-8
pub input_without_controls : (options : Options) (input output : Text) → IsHarmlessStyle options.look.style → RendersInput options input output → HasNothingHarmful (visible_text output)
input_without_controls options input output look made = any made.records made.are_records.are_records.are_records.are_text made.is_output
  where
    any : (records : List (List Text)) → All AllText records → RendersCounted options records output → HasNothingHarmful (visible_text output)
    any [] text is = rw is (NoCharPasses-nil is_harmful)
    any (first ∷ rest) text is = output_without_controls (Some (count_below options.selection (first ∷ rest))) (layout_with options is.columns) (first ∷ rest) output look text is.is_output

-- nor in the drawing for arguments
pub drawn_without_controls : (arguments : List Text) (input drawing : Text) → IsRendered arguments input drawing → HasNothingHarmful (visible_text drawing)
drawn_without_controls arguments input drawing drawn =
    input_without_controls drawn.invocation.options input drawing (parsed_style_without_controls arguments not_a_terminal drawn.invocation drawn.is_parsed) drawn.is_output
