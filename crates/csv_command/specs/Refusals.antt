-- The result for arguments and an input, if the output goes to no terminal: a drawing, or a reason
-- for its absence.
-- Source: this library's own.
use Rattle.std.specs.Prelude.{◌≡◌, ◌≢◌, ◌⊎◌, false, List, None, string_bytes}
use Rattle.clap.specs.declared.error.kind.ErrorKind.{ErrorKind}
use Rattle.clap.specs.declared.error.kind.ErrorKind.TheVariants as kind
use Rattle.comfy_parts.specs.Text.{Text}
use Rattle.csv_command.specs.Arguments.{AreFoundInVain, AreNotTaken, IsParsed}
use Rattle.csv_command.specs.declared.arguments.Invocation.{Invocation}
use Rattle.csv_command.specs.declared.arguments.OutputContext.{OutputContext}
use Rattle.csv_command.specs.declared.error.CsvError.{CsvError}
use Rattle.csv_command.specs.declared.error.CsvError.TheVariants as err
use Rattle.csv_command.specs.Drawn.{RendersInput}
use Rattle.csv_command.specs.Ending.{IsHarmless, message_for}
use Rattle.csv_command.specs.Run.{IsInputFault}
use Rattle.csv_command.specs.declared.drawing.Refusal.{Refusal}
use Rattle.csv_command.specs.declared.drawing.Refusal.TheVariants.{Arguments, Input, OutOfMemory}

-- a destination that is no terminal, without COLUMNS and NO_COLOR
abbrev pub not_a_terminal : OutputContext
not_a_terminal = record { is_terminal = false; columns = None; no_color = None }

-- `drawing` is the output for the input that the arguments request
pub record IsRendered (arguments : List Text) (input drawing : Text) : Type 0 where
  pub invocation : Invocation
  pub is_parsed : IsParsed arguments not_a_terminal invocation
  pub is_output : RendersInput invocation.options input drawing

-- `message` is the line about an input that can't be drawn as the arguments request
pub record IsMessageOnInput (arguments : List Text) (input message : Text) : Type 0 where
  pub invocation : Invocation
  pub is_parsed : IsParsed arguments not_a_terminal invocation
  pub error : CsvError
  pub is_fault : IsInputFault invocation.options input error
  pub is_line : message ≡ message_for invocation None error

-- `message` is the text for arguments that request no drawing
pub record IsMessageOnArguments (arguments : List Text) (message : Text) : Type 0 where
  pub in_vain : ((kind : ErrorKind) × AreNotTaken arguments kind) ⊎ AreFoundInVain arguments
  pub harmless : IsHarmless message

-- the reason for a missing drawing
abbrev pub IsRefusedFor : List Text → Text → Refusal → Type 0
IsRefusedFor arguments input (Arguments message) =
    IsMessageOnArguments arguments (string_bytes message)
IsRefusedFor arguments input (Input message) =
    IsMessageOnInput arguments input (string_bytes message)
IsRefusedFor arguments input OutOfMemory = Unit {0}

-- the refusal of arguments for which clap has a text, by its kind
abbrev pub IsRefusalByKind : ErrorKind → Refusal → Type 0
IsRefusalByKind found (Arguments message) =
    (found ≢ kind.OutOfMemory) × IsHarmless (string_bytes message)
IsRefusalByKind found (Input message) = ⊥
IsRefusalByKind found OutOfMemory = Unit {0}

-- the refusal of an input, by its error
abbrev pub IsRefusalOfInput : Invocation → CsvError → Refusal → Type 0
IsRefusalOfInput invocation e (Arguments message) = ⊥
IsRefusalOfInput invocation e (Input message) =
    (e ≢ err.OutOfMemory) × (string_bytes message ≡ message_for invocation None e)
IsRefusalOfInput invocation e OutOfMemory = Unit {0}
