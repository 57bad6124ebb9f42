-- An output sends a terminal only text and, if requested, colours and attributes.
-- Source: this library's own.
use Rattle.std.specs.Prelude.{◌≡◌, ◌⊎◌, [], ◌++◌, true, false, codes}
use Rattle.std.specs.Str.{NoCharPasses}
use Rattle.comfy_parts.specs.Text.{Text}
use Rattle.comfy_table.specs.Laws.{LeavesNoneOpen}
use Rattle.csv_records.specs.Cleaning.{is_harmful}
use Rattle.csv_tables.specs.declared.options.Look.{Look}
use Rattle.promises.specs.Shown.{Shows}
use Rattle.csv_promises.specs.Counted.{HasEachLine}

-- a text, and the same text with parts of it in bold, each between the sequences that begin and end
-- bold
pub data IsInBold : Text → Text → Type 0 where
  nothing : IsInBold [] []
  plain : (part line styled : Text) → IsInBold line styled
      → IsInBold (part ++ line) (part ++ styled)
  bold : (part line styled : Text) → IsInBold line styled
      → IsInBold (part ++ line) ((codes "\u{1b}[1m" ++ (part ++ codes "\u{1b}[0m")) ++ styled)

-- A terminal shows a text without its SGR sequences, which set colours and attributes. Line feeds
-- are the only control characters of this visible text, and no character of it turns the direction
-- of text.
abbrev pub ShowsNothingHarmful : Text → Type 0
ShowsNothingHarmful text = (visible : Text) × Shows text visible × NoCharPasses is_harmful visible

-- Line feeds are the only control characters of an output's visible text, and no character of it
-- turns the direction of text. Unless colours of fields are kept, the only sequences begin and end
-- bold, and without bold there are none. If colours are kept, no sequence is open at the end of a
-- line.
pub record IsHarmlessFor (look : Look) (output : Text) : Type 0 where
  pub visible : Text
  pub shows : Shows output visible
  pub harmless : NoCharPasses is_harmful visible
  pub in_bold : (look.has_sequences ≡ false) ⊎ (look.is_markdown ≡ true) → IsInBold visible output
  pub plain : ((look.has_sequences ≡ false) × (look.has_bold_header ≡ false))
      ⊎ (look.is_markdown ≡ true) → output ≡ visible
  pub closed : look.has_sequences ≡ true → HasEachLine LeavesNoneOpen output
