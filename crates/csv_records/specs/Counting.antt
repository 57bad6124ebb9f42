-- Private: the number of fields of a record, found byte by byte as csv's reader finds it.
-- Source: the crate csv.
use Rattle.std.specs.Prelude.{ℕ, ◌+◌, Bool, true, false, [], ◌∷◌, Option, Some, None, if◌then◌else◌}
use Rattle.comfy_parts.specs.Text.{Text}
use Rattle.csv.specs.Machine as csv
use Rattle.csv.specs.declared.parser.Action.{Action}
use Rattle.csv.specs.declared.parser.Action.TheVariants as act
use Rattle.csv.specs.declared.parser.Config.{Config}
use Rattle.csv.specs.declared.parser.State.{State as ReaderState}
use Rattle.csv.specs.declared.parser.State.TheVariants as st
use Rattle.csv_records.specs.declared.counting.State.{State}
use Rattle.csv_records.specs.declared.counting.State.TheVariants as own

-- the state of csv's reader for one of our own states
abbrev pub state_at : State → ReaderState
state_at own.StartRecord = st.StartRecord
state_at own.StartField = st.StartField
state_at own.InField = st.InField
state_at own.InQuoted = st.InQuoted
state_at own.AfterQuote = st.AfterQuote

-- the state after an action of csv's reader, and true if the action ends a field; `None` if it ends
-- the record
abbrev pub after_action : Action → ReaderState → Option (ReaderState × Bool)
after_action act.EndRecord state = None
after_action act.EndField state = Some (state, true)
after_action act.Skip state = Some (state, false)
after_action act.Copy state = Some (state, false)

abbrev pub after_step : ReaderState × Action → Option (ReaderState × Bool)
after_step next = after_action next.1 next.0

-- the state after a byte, and true if the byte ends a field; `None` if it ends the record
abbrev pub step : Config → ReaderState → ℕ → Option (ReaderState × Bool)
step config state b = after_step (csv.step config state b)

-- the number of fields, and the text after the record, after a byte with this step: the byte ends
-- the record, or `more` counts on
abbrev pub count_after : (ReaderState → ℕ → Option (ℕ × Text)) → ℕ → Text
    → Option (ReaderState × Bool) → Option (ℕ × Text)
count_after more count rest None = Some (count, rest)
count_after more count rest (Some next) = more next.0 (count + (if next.1 then 1 else 0))

-- the number of fields of a record of which `count` fields have begun before this text, and the
-- text after the record
unfoldable pub count_from : Config → ReaderState → ℕ → Text → Option (ℕ × Text)
count_from config state count [] = if csv.ends_at_end state then Some (count, []) else None
count_from config state count (b ∷ rest) =
    count_after (λ state count. count_from config state count rest) count rest
    (step config state b)
