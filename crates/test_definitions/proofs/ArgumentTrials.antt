-- The settings that the words after the program's name set.
use Rattle.std.proofs.Common.{◌≡◌, List, [], ◌∷◌, refl, Option, Some, None, map}
use Rattle.std.specs.Prelude.{codes}
use Prim.Native.String.{String}
use Rattle.comfy_parts.specs.Presets.{ascii_full, ascii_full_condensed, ascii_no_borders, ascii_borders_only, ascii_borders_only_condensed, ascii_horizontal_only, ascii_markdown, utf8_full, utf8_full_condensed, utf8_no_borders, utf8_borders_only, utf8_horizontal_only, nothing, preset_named}
use Rattle.comfy_parts.specs.declared.style.table.ContentArrangement.TheVariants.{Disabled, Dynamic, DynamicFullWidth}
use Rattle.comfy_run.specs.Arguments.{arrangement_for, settings_for, width_for}
use Rattle.comfy_run.specs.declared.settings.Settings.{Settings}

-- the settings for these words
abbrev invocation : List String → Option Settings
invocation words = settings_for (map (λ (word : String). record { ref_ptr = (0, 0); now = codes word }) words)

no_words : invocation [] ≡ Some (record { width = None; arrangement = Disabled; style = ascii_full })
no_words = refl

one_word : invocation ("20" ∷ []) ≡ Some (record { width = Some 20; arrangement = Disabled; style = ascii_full })
one_word = refl

two_words : invocation ("0" ∷ "dynamic" ∷ []) ≡ Some (record { width = Some 0; arrangement = Dynamic; style = ascii_full })
two_words = refl

three_words : invocation ("-" ∷ "disabled" ∷ "ASCII_MARKDOWN" ∷ []) ≡ Some (record { width = None; arrangement = Disabled; style = ascii_markdown })
three_words = refl

all_of_them : invocation ("40" ∷ "full" ∷ "UTF8_FULL" ∷ []) ≡ Some (record { width = Some 40; arrangement = DynamicFullWidth; style = utf8_full })
all_of_them = refl

four_words : invocation ("-" ∷ "disabled" ∷ "ASCII_FULL" ∷ "-" ∷ []) ≡ None
four_words = refl

unknown_style : invocation ("20" ∷ "full" ∷ "FANCY" ∷ []) ≡ None
unknown_style = refl

-- a hyphen, the smallest and the greatest number, and leading zeros
widths : map (λ (word : String). width_for (codes word)) ("-" ∷ "0" ∷ "65535" ∷ "000" ∷ "00065" ∷ []) ≡ Some None ∷ Some (Some 0) ∷ Some (Some 65535) ∷ Some (Some 0) ∷ Some (Some 65) ∷ []
widths = refl

no_widths : map (λ (word : String). width_for (codes word)) ("" ∷ "65536" ∷ "99999" ∷ "000000" ∷ "+5" ∷ "-5" ∷ "--" ∷ "5 " ∷ "5a" ∷ "1.5" ∷ []) ≡ None ∷ None ∷ None ∷ None ∷ None ∷ None ∷ None ∷ None ∷ None ∷ None ∷ []
no_widths = refl

arrangements : map (λ (word : String). arrangement_for (codes word)) ("disabled" ∷ "dynamic" ∷ "full" ∷ "Dynamic" ∷ "" ∷ []) ≡ Some Disabled ∷ Some Dynamic ∷ Some DynamicFullWidth ∷ None ∷ None ∷ []
arrangements = refl

ascii_styles :
    map (λ (word : String). preset_named (codes word)) ("ASCII_FULL" ∷ "ASCII_FULL_CONDENSED" ∷ "ASCII_NO_BORDERS" ∷ "ASCII_BORDERS_ONLY" ∷ "ASCII_BORDERS_ONLY_CONDENSED" ∷ "ASCII_HORIZONTAL_ONLY" ∷ "ASCII_MARKDOWN" ∷ [])
    ≡ map Some (ascii_full ∷ ascii_full_condensed ∷ ascii_no_borders ∷ ascii_borders_only ∷ ascii_borders_only_condensed ∷ ascii_horizontal_only ∷ ascii_markdown ∷ [])
ascii_styles = refl

other_styles :
    map (λ (word : String). preset_named (codes word)) ("UTF8_FULL" ∷ "UTF8_FULL_CONDENSED" ∷ "UTF8_NO_BORDERS" ∷ "UTF8_BORDERS_ONLY" ∷ "UTF8_HORIZONTAL_ONLY" ∷ "NOTHING" ∷ [])
    ≡ map Some (utf8_full ∷ utf8_full_condensed ∷ utf8_no_borders ∷ utf8_borders_only ∷ utf8_horizontal_only ∷ nothing ∷ [])
other_styles = refl

no_styles : map (λ (word : String). preset_named (codes word)) ("FANCY" ∷ "utf8_full" ∷ "UTF8_FUL" ∷ "UTF8_FULL_" ∷ "" ∷ []) ≡ None ∷ None ∷ None ∷ None ∷ None ∷ []
no_styles = refl
