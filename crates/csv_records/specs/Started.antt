-- Private: a reader of records that hasn't read any.
-- Source: this library's own.
use Rattle.std.specs.Borrow.{Bor}
use Rattle.std.specs.Prelude.{◌≡◌, ℕ, Bool, true, Some}
use Rattle.comfy_parts.specs.Text.{Text}
use Rattle.csv.specs.Reading.{Ready, is_flexible, source_of, strip_bom}
use Rattle.csv.specs.declared.parser.State.TheVariants as st
use Rattle.csv.specs.declared.reader.Reader.{Reader}
use Rattle.csv.specs.declared.reader.Trim.TheVariants as trim
use Rattle.csv_records.specs.Input.{config_for}

-- `reader` is at the start of a text with this delimiter. Records may differ in their number of
-- fields.
pub record IsStarted (delimiter : ℕ) (has_quotes : Bool) (text : Text)
    (reader : Reader (Bor Text)) : Type 0 where
  pub trim : reader.trim ≡ trim.None
  pub ready : Ready reader
  pub flexible : is_flexible reader ≡ true
  pub config : reader.config ≡ config_for delimiter has_quotes
  pub source : source_of (λ s. Some s.now) reader ≡ Some (strip_bom text)
  pub state : reader.state ≡ st.StartRecord
