-- No harmful character is visible in a field as it is drawn.
use Rattle.std.proofs.Common.{◌≡◌, ℕ, Bool, true, false, List, [], ◌∷◌, arith, chars, refl, subst, sym}
use Rattle.std.proofs.lemmas.Bool.{or_parts}
use Rattle.std.proofs.lemmas.List.Elements.{All-cons, All-nil}
use Rattle.std.proofs.lemmas.Str.{encodes-chars}
use Rattle.std.specs.List.{All, list_any}
use Rattle.std.specs.Prelude.{if◌then◌else◌}
use Rattle.std.specs.Str.{IsUtf8, NonePass}
use Rattle.comfy_parts.proofs.CallerLemmas.{Shows-clear, none_by_characters, visible_text-is, visible_text-whole}
use Rattle.comfy_parts.specs.Text.{Text}
use Rattle.csv_records.proofs.ControlLemmas.{cleaned_whole, no_controls}
use Rattle.csv.specs.Records.{AllText}
use Rattle.csv_tables.proofs.MarkedLemmas.{marked-harmless}
use Rattle.csv_tables.specs.Cells.{field_text, marked, unless_blank}
use Rattle.csv_records.specs.Cleaning.{cleaned, is_harmful, visible_of}
use Rattle.csv_tables.specs.Controls.{HasNothingHarmful}
use Rattle.csv_tables.specs.declared.options.Look.{Look}
use Rattle.csv_tables.proofs.BlankLemmas.{unless_blank-keeps}

pub text_fields : (fields : List Text) → AllText fields → All IsUtf8 fields
unfolding AllText
text_fields [] text = All-nil IsUtf8
text_fields (field ∷ fields) text = All-cons IsUtf8 field fields text.0 (text_fields fields text.1)

pub visible_whole : (keeps : Bool) (text : Text) → IsUtf8 text → IsUtf8 (visible_of keeps text)
visible_whole true text utf8 = visible_text-whole text utf8
visible_whole false text utf8 = utf8

-- the visible part of a text without harmful characters has none
pub visible-harmless : (keeps : Bool) (text : Text) → HasNothingHarmful text → HasNothingHarmful (visible_of keeps text)
visible-harmless true text none =
    subst HasNothingHarmful (sym (visible_text-is text text (Shows-clear text (none_by_characters is_harmful 0x1B (omega arith) refl text none)))) none
visible-harmless false text none = none

-- the same for a list of characters
none_harmful : (cs : List ℕ) → list_any is_harmful cs ≡ false → NonePass is_harmful cs
none_harmful [] none = tt
none_harmful (c ∷ cs) none =
    let each = or_parts (is_harmful c) (list_any is_harmful cs) none in
    (each.0, none_harmful cs each.1)

pub field-harmless : (look : Look) (field : Text) → IsUtf8 field → HasNothingHarmful (visible_of look.has_sequences (field_text look field))
field-harmless look field utf8 = by_markdown look.is_markdown
  where
    keeps : Bool
    keeps = look.has_sequences

    text : Text
    text = cleaned keeps field

    whole : IsUtf8 text
    whole = cleaned_whole keeps field utf8

    bare : Text
    bare = cleaned false field

    escaped : HasNothingHarmful (marked bare)
    escaped = marked-harmless bare (none_harmful (chars bare) (no_controls false field utf8))

    by_markdown : (is_markdown : Bool) → HasNothingHarmful (visible_of keeps (if is_markdown then marked bare else unless_blank text))
    by_markdown true = visible-harmless keeps (marked bare) escaped
    by_markdown false = unless_blank-keeps (λ (shown : Text). HasNothingHarmful (visible_of keeps shown)) text (visible-harmless keeps [] ([], refl, tt)) (chars (visible_of keeps text), encodes-chars (visible_of keeps text) (visible_whole keeps text whole), none_harmful (chars (visible_of keeps text)) (no_controls keeps field utf8))
