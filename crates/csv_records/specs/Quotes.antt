-- Quotes that are never closed.
-- Source: RFC 4180, as the crate csv reads it.
use Rattle.std.specs.Prelude.{ℕ, Bool, true, false, ◌≡◌, ◌≤◌, ◌∷◌, ◌++◌, fold, length, take}
use Rattle.comfy_parts.specs.Text.{Text}
use Rattle.csv.specs.Machine.{step}
use Rattle.csv.specs.declared.parser.State.{State}
use Rattle.csv.specs.declared.parser.State.TheVariants as st
use Rattle.csv_records.specs.Input.{config_for}

-- the state of csv's reader after a text
abbrev pub state_after : ℕ → Text → State
state_after delimiter text =
    fold (λ (state : State) (b : ℕ). (step (config_for delimiter true) state b).0) st.StartRecord
    text

-- true if a field begins in this state
abbrev pub is_field_start : State → Bool
is_field_start st.StartRecord = true
is_field_start st.StartField = true
is_field_start st.AfterCr = true
is_field_start _ = false

-- true within the quotes of a field, or after a quote that may close them or be the first of two
abbrev pub is_in_quoted_field : State → Bool
is_in_quoted_field st.InQuoted = true
is_in_quoted_field st.AfterQuote = true
is_in_quoted_field _ = false

-- `rest` begins with a quote that opens a field, and the text ends within the quotes of this field
pub record IsUnclosed (delimiter : ℕ) (text rest : Text) : Type 0 where
  pub before : Text
  pub parts : text ≡ before ++ rest
  pub after : Text
  pub quote : rest ≡ 0x22 ∷ after
  -- a field begins at the quote
  pub opens : is_field_start (state_after delimiter before) ≡ true
  -- after any number of bytes after the quote, the reader is still in this field
  pub goes_on : (n : ℕ) → n ≤ length after
      → is_in_quoted_field (state_after delimiter (before ++ 0x22 ∷ take n after)) ≡ true
  pub is_open : state_after delimiter text ≡ st.InQuoted
