-- Texts and styles that a terminal only shows, and doesn't obey.
-- Source: this library's own; Unicode's category Cc for control characters.
use Rattle.std.specs.Prelude.{◌≡◌, ℕ, false, Option, unwrap_or}
use Rattle.std.specs.List.{list_any}
use Rattle.std.specs.Str.{NoCharPasses}
use Rattle.comfy_parts.specs.Columns.{style_characters}
use Rattle.comfy_parts.specs.Text.{Text}
use Rattle.comfy_parts.specs.declared.style.table_style.TableStyle.{TableStyle}
use Rattle.csv_records.specs.Cleaning.{is_harmful, is_replaced}

-- the only control characters of the text are line feeds, and no character turns the direction of
-- text
abbrev pub HasNothingHarmful : Text → Type 0
HasNothingHarmful text = NoCharPasses is_harmful text

-- no character of the style is a control character or turns the direction of text
abbrev pub IsHarmlessStyle : TableStyle → Type 0
IsHarmlessStyle style =
    list_any (λ (c : Option ℕ). is_replaced (unwrap_or c 0x20)) (style_characters style) ≡ false
