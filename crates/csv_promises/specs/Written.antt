-- Private: the output for arguments and an input.
-- Source: this library's own.
use Rattle.std.specs.Prelude.{◌≡◌, Bool, false, List}
use Rattle.comfy_parts.specs.Text.{Text}
use Rattle.csv_command.specs.Arguments.{IsParsed}
use Rattle.csv_command.specs.declared.arguments.Invocation.{Invocation}
use Rattle.csv_command.specs.declared.arguments.OutputContext.{OutputContext}
use Rattle.csv_records.specs.Reading.{AreRecordsFor}
use Rattle.csv_command.specs.Drawn.{IsDrawnOf}

-- The arguments request a table for Markdown, or another one, in which no sequences are kept.
-- `records` are the records of the input, and `output` is its output.
pub record IsWritten (is_markdown : Bool) (arguments : List Text) (context : OutputContext)
    (invocation : Invocation) (input : Text) (records : List (List Text)) (output : Text)
    : Type 0 where
  pub is_parsed : IsParsed arguments context invocation
  pub unkept : invocation.options.look.has_sequences ≡ false
  pub kind : invocation.options.look.is_markdown ≡ is_markdown
  pub are : AreRecordsFor invocation.options.input input records
  pub made : IsDrawnOf invocation.options input output
