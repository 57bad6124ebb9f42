-- Texts and outputs of `csvtable` with harmful characters, computed.
use Rattle.std.proofs.Common.{◌≡◌, ℕ, true, false, List, [], ◌∷◌, None, Some, refl, sym, ◌∙◌, subst}
use Rattle.std.specs.List.{list_any}
use Rattle.std.specs.Prelude.{codes, encode_utf8_all}
use Rattle.std.specs.Str.{NonePass, chars}
use Rattle.std.proofs.lemmas.Bool.{or_parts, true≢false}
use Rattle.std.proofs.lemmas.Str.{encodes_same}
use Rattle.comfy_parts.proofs.Computing.{wrapping}
use Rattle.comfy_parts.specs.Presets.{ascii_full}
use Rattle.comfy_parts.specs.Text.{Text}
use Rattle.comfy_parts.specs.VisibleText.{visible_text}
use Rattle.comfy_parts.specs.declared.style.table_style.TableStyle.{TableStyle}
use Rattle.comfy_table.specs.Drawing.{drawing, terminated_text_of}
use Rattle.comfy_table.specs.TableValue.{TableValue, with_header, with_rows}
use Rattle.csv.specs.Records.{field_at}
use Rattle.csv_tables.specs.Cells.{field_text, header_for, row_for}
use Rattle.csv_records.specs.Cleaning.{is_harmful}
use Rattle.csv_tables.specs.Controls.{HasNothingHarmful, IsHarmlessStyle}
use Rattle.csv_command.specs.Styles.{style_for}
use Rattle.csv_tables.specs.declared.options.Expansion.TheVariants.{Auto}
use Rattle.csv_tables.specs.declared.options.ColumnPlan.{ColumnPlan}
use Rattle.csv_tables.specs.declared.options.Look.{Look}
use Rattle.csv_tables.specs.Drawn.{empty_table}
use Rattle.test_definitions.proofs.TrialTables.{utf8}
use Rattle.test_definitions.proofs.PlainLook.{plain_look}

-- ---- texts

none_of : (cs : List ℕ) → list_any is_harmful cs ≡ false → NonePass is_harmful cs
none_of [] none = tt
none_of (c ∷ cs) none =
    let each = or_parts (is_harmful c) (list_any is_harmful cs) none in
    (each.0, none_of cs each.1)

any_of : (cs : List ℕ) → NonePass is_harmful cs → list_any is_harmful cs ≡ false
any_of [] none = refl
any_of (c ∷ cs) none = rw none.0 (any_of cs none.1)

-- a text without harmful characters is harmless
harmless : (cs : List ℕ) → list_any is_harmful cs ≡ false → HasNothingHarmful (encode_utf8_all cs)
harmless cs none = (cs, refl, none_of cs none)

harmful : (cs : List ℕ) → list_any is_harmful cs ≡ true → ¬ (HasNothingHarmful (encode_utf8_all cs))
harmful cs some none = true≢false (sym some ∙ any_of cs (subst (NonePass is_harmful) (encodes_same none.0 cs none.1) none.2))

-- line feeds are harmless, and U+00A0 follows the last control character
line_feed_is_harmless : HasNothingHarmful (utf8 "a\n~\u{a0}…\n")
line_feed_is_harmless = harmless (codes "a\n~\u{a0}…\n") refl

return_is_harmful : ¬ (HasNothingHarmful (utf8 "a\r\n"))
return_is_harmful = harmful (codes "a\r\n") refl

c1_is_harmful : ¬ (HasNothingHarmful (utf8 "\u{9b}2J"))
c1_is_harmful = harmful (codes "\u{9b}2J") refl

colours_are_harmless : HasNothingHarmful (visible_text (codes "\u{1b}[1ma\u{1b}[0m\n"))
unfolding wrapping lib.Utf8.encode
colours_are_harmless = harmless (codes "a\n") refl

-- false: csv_records::laws::cleaned_fields_hold_no_controls
clearing_is_harmful : ¬ (HasNothingHarmful (visible_text (codes "\u{1b}[2J")))
unfolding wrapping lib.Utf8.encode
clearing_is_harmful = harmful (codes "\u{1b}[2J") refl

-- ---- looks

-- sequences are kept, and the header is in bold
abbrev look : Look
look = record plain_look { expansion = Auto; has_bold_header = true; has_sequences = true }

its_style_is_without : IsHarmlessStyle look.style
its_style_is_without = refl

-- a style that fills with TABs
abbrev with_tabs : TableStyle
with_tabs = record ascii_full { top_border = record ascii_full.top_border { fill = Some 0x09 } }

tabs_are_not : ¬ (IsHarmlessStyle with_tabs)
tabs_are_not is = true≢false is

-- ---- fields

-- a field that clears the screen is cleaned
cleaned_is_harmless : HasNothingHarmful (visible_text (field_text look (codes "\u{1b}[2J")))
unfolding wrapping lib.Utf8.encode chars
cleaned_is_harmless = harmless (codes "�[2J") refl

-- no sequence stays in Markdown, and line feeds become `<br>`
marked_is_harmless : field_text (record look { is_markdown = true }) (codes "\u{1b}[1ma\n|") ≡ utf8 "�\\[1ma<br>\\|"
unfolding wrapping lib.Utf8.encode chars
marked_is_harmless = refl

-- ---- outputs

-- the first field of each record
abbrev column : ColumnPlan
column = record { position = 0; alignment = None; points = None; is_nowrap = false }

-- a header, and a record whose field clears the screen, with ESC and with U+009B
abbrev table : Look → TableValue
table look =
    with_rows (row_for look false false (column ∷ []) (1, utf8 "\u{1b}[2J\u{9b}J" ∷ []) ∷ []) (with_header (header_for look false (column ∷ []) (utf8 "a" ∷ [])) (empty_table look))

abbrev output : Look → Text
output look = terminated_text_of (drawing (table look) (6 ∷ []))

output_is : visible_text (output look) ≡ utf8 "+--------+\n| a      |\n+========+\n| �[2J�J |\n+--------+\n"
unfolding wrapping lib.Utf8.encode chars field_at
output_is = refl

output_is_harmless : HasNothingHarmful (visible_text (output look))
output_is_harmless = subst HasNothingHarmful (sym output_is) (harmless (codes "+--------+\n| a      |\n+========+\n| �[2J�J |\n+--------+\n") refl)

-- the premise about the style is needed
tabs_are_written : visible_text (output (record look { style = with_tabs })) ≡ utf8 "+\t\t\t\t\t\t\t\t+\n| a      |\n+========+\n| �[2J�J |\n+--------+\n"
unfolding wrapping lib.Utf8.encode chars field_at
tabs_are_written = refl

output_with_tabs_is_harmful : ¬ (HasNothingHarmful (visible_text (output (record look { style = with_tabs }))))
output_with_tabs_is_harmful none =
    harmful (codes "+\t\t\t\t\t\t\t\t+\n| a      |\n+========+\n| �[2J�J |\n+--------+\n") refl (subst HasNothingHarmful tabs_are_written none)

-- ---- styles

styles_for_words : IsHarmlessStyle (style_for (Some (codes "UTF8_FULL")))
styles_for_words = refl

a_style_with_tabs : ¬ (IsHarmlessStyle with_tabs)
a_style_with_tabs is = true≢false is

-- ---- lines of rows
