-- Frame characters, and styles that consist of them.
use Rattle.std.proofs.Common.{◌≡◌, ℕ, Bool, true, not, ◌==◌, ◌&&◌, ◌||◌, eqb-true, List, [], ◌∷◌, Option, unwrap_or, refl, sym, subst, ◌∙◌, arith, ⊎_elim}
use Rattle.std.specs.Char.{IsScalar}
use Rattle.std.specs.Int.{is_in_range}
use Rattle.std.specs.List.{All, list_all}
use Rattle.std.proofs.lemmas.Bool.{and_parts, not-true, or_cases}
use Rattle.std.proofs.lemmas.Bool.Decides.{nat_tests}
use Rattle.std.proofs.lemmas.List.Elements.{All-cons, All-nil}
use Rattle.comfy_parts.proofs.Computing.{wrapping}
use Rattle.cluster_width.proofs.BoxLemmas.{box_seals, ellipsis_seals, low_seals}
use Rattle.cluster_width.proofs.SpaceMeasureLemmas.{Seals, measure-nil, measure-sealed}
use Rattle.std.proofs.lemmas.Str.{IsUtf8-nil}
use Rattle.comfy_parts.specs.Text.{Text}
use Rattle.comfy_parts.specs.declared.style.table_style.TableStyle.{TableStyle}
use Rattle.comfy_parts.specs.Columns.{FrameCharactersAddOneColumn, FrameTextsAreApart, IsOneColumn, IsOneColumnPreset, IsOneColumnStyle, has_frame_characters, is_frame_character, presets_all, style_characters}
use Rattle.comfy_parts.specs.StyleModifiers.{with_rounded_corners, with_solid_inner_borders}

-- a frame character is a box or block character, `…`, or printable ASCII
by_sort : (P : ℕ → Type 0) (c : ℕ) → (is_in_range 0x2500 0x259F c ≡ true → P c) → P 0x2026 → (is_in_range 0x20 0x7E c ≡ true → not ((c == 0x23) || ((c == 0x2A) || is_in_range 0x30 0x39 c)) ≡ true → P c) → is_frame_character c ≡ true → P c
by_sort P c box ellipsis low h =
    ⊎_elim (λ high. ⊎_elim box (λ same. subst P (sym (eqb-true c 0x2026 same)) ellipsis) (or_cases (is_in_range 0x2500 0x259F c) (c == 0x2026) high))
    (λ ascii. let parts = and_parts (is_in_range 0x20 0x7E c) _ ascii in low parts.0 parts.1) (or_cases (is_in_range 0x2500 0x259F c || (c == 0x2026)) _ h)

frame_seals : (c : ℕ) → is_frame_character c ≡ true → Seals c
frame_seals c h = by_sort Seals c (box_seals c) ellipsis_seals (λ ascii plain. low_seals c ascii (not-true _ plain)) h

frame_scalar : (c : ℕ) → is_frame_character c ≡ true → IsScalar c
frame_scalar c h = by_sort IsScalar c (λ box. grind (arith, nat_tests, box)) refl (λ ascii plain. grind (arith, nat_tests, ascii)) h

-- a frame character adds one terminal column between any two texts
pub frame_adds : (c : ℕ) → FrameCharactersAddOneColumn c
frame_adds c h front back utf8 = measure-sealed c front back (frame_scalar c h) (frame_seals c h) utf8

-- no text joins a text that begins with a frame character
pub frame_apart : (c : ℕ) (rest : Text) → FrameTextsAreApart c rest
frame_apart c rest h front utf8 =
    let none = measure-nil in
    let alone = frame_adds c h [] rest IsUtf8-nil in
    frame_adds c h front rest utf8 ∙ omega (arith, none, alone)

all_one_column : (cs : List (Option ℕ)) → list_all (λ c. is_frame_character (unwrap_or c 0x20)) cs ≡ true → All IsOneColumn cs
all_one_column [] each = All-nil IsOneColumn
all_one_column (c ∷ cs) each =
    let parts = and_parts (is_frame_character (unwrap_or c 0x20)) (list_all (λ c. is_frame_character (unwrap_or c 0x20)) cs) each in
    All-cons IsOneColumn c cs (frame_adds (unwrap_or c 0x20) parts.0) (all_one_column cs parts.1)

-- each character of a style of frame characters adds one terminal column
pub one_column_characters : (style : TableStyle) → has_frame_characters style ≡ true → IsOneColumnStyle style
one_column_characters style each = all_one_column (style_characters style) each

-- true if a preset consists of frame characters, with each modifier and with both
is_frame_preset : TableStyle → Bool
is_frame_preset style =
    has_frame_characters style && (has_frame_characters (with_rounded_corners style) && (has_frame_characters (with_solid_inner_borders style) && has_frame_characters (with_rounded_corners (with_solid_inner_borders style))))

frame_presets : list_all is_frame_preset presets_all ≡ true
unfolding wrapping is_frame_preset
frame_presets = refl

one_column_presets : (styles : List TableStyle) → list_all is_frame_preset styles ≡ true → All IsOneColumnPreset styles
unfolding is_frame_preset
one_column_presets [] each = All-nil IsOneColumnPreset
one_column_presets (style ∷ styles) each =
    let here = and_parts (is_frame_preset style) (list_all is_frame_preset styles) each in
    let first = and_parts (has_frame_characters style) _ here.0 in
    let second = and_parts (has_frame_characters (with_rounded_corners style)) _ first.1 in
    let third = and_parts (has_frame_characters (with_solid_inner_borders style)) _ second.1 in
    All-cons IsOneColumnPreset style styles (one_column_characters _ first.0, one_column_characters _ second.0, one_column_characters _ third.0, one_column_characters _ third.1) (one_column_presets styles here.1)

-- each character of each preset adds one terminal column
pub preset_characters_take_one_column : All IsOneColumnPreset presets_all
preset_characters_take_one_column = one_column_presets presets_all frame_presets
