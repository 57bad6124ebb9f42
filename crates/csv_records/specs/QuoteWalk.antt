-- Private: a walk from quote to quote.
-- Source: this library's own.
use Rattle.std.specs.Prelude.{ℕ, zero, suc, Bool, true, false, ◌≡◌, ◌<◌, ◌≤◌, ◌==◌, ◌||◌, length, slice_index, take}
use Rattle.comfy_parts.specs.Text.{Text}
use Rattle.csv.specs.Machine.{ends_with}
use Rattle.csv.specs.declared.parser.State.TheVariants as st
use Rattle.csv.specs.declared.parser.Terminator.TheVariants as term
use Rattle.csv_records.specs.Quotes.{is_in_quoted_field, state_after}

-- true if this byte, outside quotes, ends a field or a record
abbrev pub ends_field : ℕ → ℕ → Bool
ends_field delimiter b = (b == delimiter) || ends_with term.CRLF b

-- true if a quote outside quotes opens a field at this place: it is at the start of the text, or
-- after a byte that ends a field
abbrev pub is_opening : ℕ → Text → ℕ → Bool
is_opening delimiter text zero = true
is_opening delimiter text (suc before) = ends_field delimiter (slice_index text before)

-- quotes that are open at place `from` of a text are open up to place `to`
pub record StaysQuoted (delimiter : ℕ) (text : Text) (from to : ℕ) : Type 0 where
  pub goes_on : (n : ℕ) → from ≤ n → n ≤ to
      → is_in_quoted_field (state_after delimiter (take n text)) ≡ true
  pub is_open : state_after delimiter (take to text) ≡ st.InQuoted

-- the quote before this place closes quotes, since no quote follows it
pub record ClosesAt (delimiter : ℕ) (text : Text) (at : ℕ) : Type 0 where
  pub closes : state_after delimiter (take at text) ≡ st.AfterQuote
  pub is_alone : at < length text → (slice_index text at == 0x22) ≡ false
