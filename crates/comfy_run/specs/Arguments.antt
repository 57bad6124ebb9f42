-- The settings that the arguments after the program's name mean.
-- Source: this library's own.
use Rattle.std.specs.Prelude.{ℕ, Bool, ◌&&◌, nat_le, nat_lt, List, [], ◌∷◌, length, Option, Some, None, option_map, codes, bytes_eq, if◌then◌else◌}
use Rattle.std.specs.Char.{is_ascii_digit}
use Rattle.std.specs.List.{list_all}
use Rattle.std.specs.Str.Parse.{digits_value}
use Rattle.std.specs.Borrow.{Bor}
use Rattle.comfy_parts.specs.Presets.{ascii_full, beside, preset_named}
use Rattle.comfy_parts.specs.Text.{Text}
use Rattle.comfy_parts.specs.declared.style.table.ContentArrangement.{ContentArrangement}
use Rattle.comfy_parts.specs.declared.style.table.ContentArrangement.TheVariants.{Disabled, Dynamic, DynamicFullWidth}
use Rattle.comfy_parts.specs.declared.style.table_style.TableStyle.{TableStyle}
use Rattle.comfy_run.specs.declared.settings.Settings.{Settings}

-- the settings of the program without arguments: no width, widths by contents alone, and the first
-- preset
abbrev pub default_settings : Settings
default_settings = record { width = None; arrangement = Disabled; style = ascii_full }

-- one to five digits, whose number is at most 65535
abbrev pub is_short_number : Text → Bool
is_short_number argument =
    list_all is_ascii_digit argument && nat_lt 0 (length argument) && nat_le (length argument) 5
    && nat_le (digits_value 10 argument) 65535

-- the number of a text of one to five digits, at most 65535; `None` for other texts
abbrev pub number_for : Text → Option ℕ
number_for argument = if is_short_number argument then Some (digits_value 10 argument) else None

-- a width: `Some None` for a hyphen, and `None` for an unknown argument
abbrev pub width_for : Text → Option (Option ℕ)
width_for argument =
    if bytes_eq argument (codes "-") then Some None else option_map Some (number_for argument)

-- the arrangements by their names
abbrev pub arrangement_for : Text → Option ContentArrangement
arrangement_for =
    beside ((codes "disabled", Disabled) ∷ (codes "dynamic", Dynamic)
    ∷ (codes "full", DynamicFullWidth) ∷ [])

-- the settings of this width, arrangement and style, if each of the three is known
abbrev pub settings_with : Option (Option ℕ) → Option ContentArrangement → Option TableStyle
    → Option Settings
settings_with (Some width) (Some arrangement) (Some style) =
    Some (record { width = width; arrangement = arrangement; style = style })
settings_with _ _ _ = None

-- the settings that the arguments mean: a width, an arrangement and a style; arguments at the end
-- may be missing
abbrev pub settings_for : List (Bor Text) → Option Settings
settings_for [] = Some default_settings
settings_for (width ∷ []) = settings_with (width_for width.now) (Some Disabled) (Some ascii_full)
settings_for (width ∷ arrangement ∷ []) =
    settings_with (width_for width.now) (arrangement_for arrangement.now) (Some ascii_full)
settings_for (width ∷ arrangement ∷ style ∷ []) =
    settings_with (width_for width.now) (arrangement_for arrangement.now) (preset_named style.now)
settings_for _ = None
