-- Records of UTF-8, and a record that a delimiter splits.
use Rattle.std.proofs.Common.{◌≡◌, ◌⊎◌, inl, inr, ◌<◌, ◌≤◌, ℕ, zero, suc, arith, Bool, true, List, [], ◌∷◌, ◌++◌, Option, Some, None, All, refl, sym, subst}
use Rattle.std.proofs.lemmas.Bool.{cases_lt}
use Rattle.std.proofs.lemmas.List.Elements.{All-append}
use Rattle.std.specs.Str.{IsUtf8}
use Rattle.comfy_parts.specs.Text.{Text}
use Rattle.csv.specs.Machine.{Read as FoundRecord, next_record}
use Rattle.csv.specs.Reading.{NextIs, Reached, ReadRecord, ReadsNext, source_of, strip_bom}
use Rattle.csv.specs.Records.{AllText}
use Rattle.csv.specs.declared.parser.Config.{Config}
use Rattle.csv.specs.declared.parser.State.{State}
use Rattle.csv.specs.declared.parser.State.TheVariants as st
use Rattle.csv.specs.declared.reader.Reader.{Reader}
use Rattle.csv_records.proofs.TextLemmas.{text_read}
use Rattle.csv_records.specs.Input.{SplitsCharacter, config_for}

-- the record that was read is the next one
is_next : (next : Option FoundRecord) (fields : List Text) (s : State) (rest : Text) → NextIs next true fields s rest → (p : FoundRecord) × (next ≡ Some p) × (fields ≡ p.0)
is_next None fields s rest h = absurd (cc h)
is_next (Some p) fields s rest h = (p, refl, h.1)

took : (cfg : Config) (s : State) (text : Text) (after : Option Text) (fields : List Text) (s2 : State) → ReadsNext cfg s (Some text) after true fields s2
    → (p : FoundRecord) × (next_record cfg s [] [] text ≡ Some p) × (fields ≡ p.0)
took cfg s text None fields s2 h = absurd h
took cfg s text (Some rest) fields s2 h = is_next (next_record cfg s [] [] text) fields s2 rest h

module _ {R : Type 0} (rem : R → Option Text) (a b : Reader R) (delimiter : ℕ) (has_quotes : Bool) (input text : Text) (before : List (List Text)) (fields : List Text)
    (config : a.config ≡ config_for delimiter has_quotes) (source : source_of rem a ≡ Some text) (reached : Reached (config_for delimiter has_quotes) st.StartRecord (strip_bom input) before a.state text) (read : ReadRecord rem a b true fields) where
  found : (p : FoundRecord) × (next_record (config_for delimiter has_quotes) a.state [] [] text ≡ Some p) × (fields ≡ p.0)
  found = took (config_for delimiter has_quotes) a.state text _ fields b.state (rw (config, source) at read.0)

  -- the fields that were read are UTF-8; only a delimiter that isn't ASCII needs a check
  pub is_text : IsUtf8 input → (128 ≤ delimiter → AllText fields) → AllText fields
  is_text utf8 looked_at = by_size (cases_lt delimiter 128)
    where
      by_size : (delimiter < 128) ⊎ (128 ≤ delimiter) → AllText fields
      by_size (inr high) = looked_at high
      by_size (inl ascii) = subst AllText (sym found.2) (text_read delimiter has_quotes ascii input before a.state text found.0 utf8 reached found.1)

  -- otherwise the delimiter splits a character
  pub splits : All AllText before → 128 ≤ delimiter → ¬ (AllText fields) → SplitsCharacter delimiter has_quotes input
  splits are_text no_ascii no_text = record {
    no_ascii = no_ascii;
    before = before;
    state = a.state;
    rest = text;
    reached = reached;
    are_text = are_text;
    next = found.0;
    is_next = found.1;
    is_no_text = subst (λ (f : List Text). ¬ (AllText f)) found.2 no_text;
  }

-- one more record of UTF-8
pub more_text : (rows : List (List Text)) (fields : List Text) → All AllText rows → AllText fields → All AllText (rows ++ fields ∷ [])
more_text rows fields are is = All-append AllText rows (fields ∷ []) are (only fields is)
  where
    only : (fields : List Text) → AllText fields → All AllText (fields ∷ [])
    only fields is zero d h = is
    only fields is (suc k) d h = absurd (omega arith)

-- UTF-8 fields after UTF-8 fields
pub both_text : (fields more : List Text) → AllText fields → AllText more → AllText (fields ++ more)
unfolding AllText
both_text [] more first second = second
both_text (f ∷ fs) more first second = (first.0, both_text fs more first.1 second)
