-- Messages about arguments that request no drawing, and about an input that can't be drawn as they request.
use Rattle.std.proofs.Common.{◌≡◌, ◌≢◌, ◌⊎◌, inl, inr, List, refl}
use Rattle.clap.specs.Words.{kind_of}
use Rattle.clap.specs.declared.error.Error.{Error}
use Rattle.clap.specs.declared.error.kind.ErrorKind.{ErrorKind}
use Rattle.clap.specs.declared.error.kind.ErrorKind.TheVariants as kind
use Rattle.comfy_parts.specs.Text.{Text}
use Rattle.csv_command.specs.Refusals.{IsRefusalByKind, IsRefusalOfInput, IsRefusedFor, not_a_terminal}
use Rattle.csv_command.specs.Run.{IsInputFault, IsInputRefusal}
use Rattle.csv_command.specs.declared.drawing.Refusal.{Refusal}
use Rattle.csv_command.specs.declared.drawing.Refusal.TheVariants.{Arguments, Input, OutOfMemory}
use Rattle.csv_command.specs.Arguments.{AreFoundInVain, AreNotTaken, IsParsed, IsRefusedBy}
use Rattle.csv_command.specs.declared.arguments.Invocation.{Invocation}
use Rattle.csv_command.specs.declared.error.CsvError.{CsvError}
use Rattle.csv_command.specs.declared.error.CsvError.TheVariants as err
use Rattle.csv_command.specs.declared.arguments.Options.{Options}

-- unless memory ran out, the input is at fault
fault_of : (options : Options) (input : Text) (e : CsvError) → e ≢ err.OutOfMemory → IsInputRefusal options input e → IsInputFault options input e
fault_of options input err.OutOfMemory other why = absurd (other refl)
fault_of options input e other why = why

-- so the refusal is one of the input
pub refused_input : (arguments : List Text) (input : Text) (invocation : Invocation) → IsParsed arguments not_a_terminal invocation → (e : CsvError) → IsInputRefusal invocation.options input e → (refusal : Refusal) → IsRefusalOfInput invocation e refusal → IsRefusedFor arguments input refusal
refused_input arguments input invocation is_parsed e why (Arguments message) is = absurd is
refused_input arguments input invocation is_parsed e why (Input message) is = record { invocation = invocation; is_parsed = is_parsed; error = e; is_fault = fault_of invocation.options input e is.0 why; is_line = is.1 }
refused_input arguments input invocation is_parsed e why OutOfMemory is = tt

-- if clap has a text, the arguments are at fault
pub refused_arguments : (arguments : List Text) (input : Text) (e : Error) → IsRefusedBy arguments e → (refusal : Refusal) → IsRefusalByKind (kind_of e) refusal → IsRefusedFor arguments input refusal
refused_arguments arguments input e why (Arguments message) is = record { in_vain = by_reason (why is.0); harmless = is.1 }
  where
    by_reason : (AreNotTaken arguments (kind_of e) ⊎ (AreFoundInVain arguments × (kind_of e ≡ kind.InvalidValue))) → ((k : ErrorKind) × AreNotTaken arguments k) ⊎ AreFoundInVain arguments
    by_reason (inl not_taken) = inl (kind_of e, not_taken)
    by_reason (inr in_vain) = inr in_vain.0
refused_arguments arguments input e why (Input message) is = absurd is
refused_arguments arguments input e why OutOfMemory is = tt
