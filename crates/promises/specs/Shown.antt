-- The commands to a terminal in a text: SGR sequences.
-- Source: this library's own.
use Rattle.std.specs.Prelude.{◌≡◌, ◌==◌, ◌&&◌, ℕ, true, false, not, List, [], ◌∷◌, ◌++◌, Option, All, unwrap_or}
use Rattle.std.specs.Char.{is_control}
use Rattle.std.specs.List.{list_all, list_any}
use Rattle.std.specs.Str.{NoCharPasses}
use Rattle.comfy_parts.specs.Columns.{style_characters}
use Rattle.comfy_parts.specs.Text.{Text, measure}
use Rattle.comfy_parts.specs.VisibleText.{is_parameter}
use Rattle.comfy_table.specs.TableValue.{TableValue}
use Rattle.promises.specs.Tables.{EachShownText}

-- a text, and the text that it shows: without its SGR sequences, which set colours and attributes.
-- ESC is only at the beginning of such a sequence.
pub data Shows : Text → Text → Type 0 where
  nothing : Shows [] []
  byte : (b : ℕ) (text shown : Text) → (b == 0x1B) ≡ false
      → Shows text shown → Shows (b ∷ text) (b ∷ shown)
  sequence : (code text shown : Text) → list_all is_parameter code ≡ true
      → Shows text shown → Shows (0x1B ∷ 0x5B ∷ (code ++ 0x6D ∷ text)) shown

-- a line, and the same line with SGR sequences, which set colours and attributes
pub data IsStyled : Text → Text → Type 0 where
  nothing : IsStyled [] []
  byte : (b : ℕ) (line styled : Text) → IsStyled line styled → IsStyled (b ∷ line) (b ∷ styled)
  sequence : (code line styled : Text) → list_all is_parameter code ≡ true
      → IsStyled line styled → IsStyled line (0x1B ∷ 0x5B ∷ (code ++ 0x6D ∷ styled))

-- a terminal gets only characters, line ends, colours and attributes
abbrev pub IsHarmless : Text → Type 0
IsHarmless text =
    (shown : Text) × Shows text shown × NoCharPasses (λ c. is_control c && not (c == 0x0A)) shown

-- the line shows n terminal columns
abbrev pub ShowsColumns : ℕ → Text → Type 0
ShowsColumns n line = (shown : Text) × Shows line shown × (measure shown ≡ n)

-- all lines show the same number of terminal columns
abbrev pub AreShownEquallyWide : List Text → Type 0
AreShownEquallyWide lines = (n : ℕ) × All (ShowsColumns n) lines

-- no shown text, nor the indicator or the style, has a control character
pub record HasNoControls (table : TableValue) : Type 0 where
  pub texts : EachShownText (NoCharPasses is_control) table
  pub indicator : NoCharPasses is_control table.indicator
  pub style :
      list_any (λ (c : Option ℕ). is_control (unwrap_or c 0x20)) (style_characters table.style)
      ≡ false
