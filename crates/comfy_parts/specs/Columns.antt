-- Widths of texts of every script in terminal columns: characters that add one next to any text,
-- and words and text lines that fit.
-- Source: this library's own.
use Rattle.std.specs.Prelude.{◌≡◌, ◌≢◌, ◌⊎◌, ℕ, ◌+◌, ◌≤◌, Bool, true, not, ◌&&◌, ◌||◌, ◌==◌, nat_le, chars, List, [], ◌∷◌, ◌++◌, Option, unwrap_or, encode_utf8, All, IsUtf8, map}
use Rattle.std.specs.Char.{IsScalar}
use Rattle.std.specs.Int.{is_in_range}
use Rattle.std.specs.List.{list_all}
use Rattle.ucd_table.specs.Rows.{Range, in_ranges}
use Rattle.cluster_width.specs.ClusterSums.{selectors_agree}
use Rattle.comfy_parts.specs.Presets.{named_presets}
use Rattle.comfy_parts.specs.StyleModifiers.{with_rounded_corners, with_solid_inner_borders}
use Rattle.comfy_parts.specs.Text.{Text, measure, head, elements}
use Rattle.comfy_parts.specs.Wrapping.{lines_of_text}
use Rattle.comfy_parts.specs.declared.style.table_style.TableStyle.{TableStyle}

-- ---- characters

-- between any two texts the character adds one terminal column
abbrev pub AddsOneColumn : ℕ → Type 0
AddsOneColumn c =
    (front back : Text) → IsUtf8 front
    → measure (front ++ (encode_utf8 c ++ back)) ≡ measure front + (1 + measure back)

-- a space adds one terminal column between these texts
abbrev pub SpaceAddsOneColumn : Text → Text → Type 0
SpaceAddsOneColumn front back =
    IsUtf8 front → measure (front ++ 0x20 ∷ back) ≡ measure front + (1 + measure back)

-- a box or block character, `…`, or printable ASCII except `#`, `*` and the digits
abbrev pub is_frame_character : ℕ → Bool
is_frame_character c =
    (is_in_range 0x2500 0x259F c || (c == 0x2026))
    || (is_in_range 0x20 0x7E c && not ((c == 0x23) || ((c == 0x2A) || is_in_range 0x30 0x39 c)))

-- each frame character adds one terminal column
abbrev pub FrameCharactersAddOneColumn : ℕ → Type 0
FrameCharactersAddOneColumn c = is_frame_character c ≡ true → AddsOneColumn c

-- by itself a character takes at most two terminal columns, unless it is U+17D8
abbrev pub TakesTwoAtMost : ℕ → Type 0
TakesTwoAtMost c = IsScalar c → c ≢ 0x17D8 → measure (encode_utf8 c) ≤ 2

-- U+17D8 takes three terminal columns
abbrev pub OneCharacterTakesThree : Type 0
OneCharacterTakesThree = measure (encode_utf8 0x17D8) ≡ 3

-- ---- styles

-- a character of a style adds one terminal column; a missing one is a space
abbrev pub IsOneColumn : Option ℕ → Type 0
IsOneColumn c = AddsOneColumn (unwrap_or c 0x20)

-- the characters of a style, line by line; a content line has no fill
abbrev pub style_characters : TableStyle → List (Option ℕ)
style_characters style =
    style.top_border.left ∷ style.top_border.fill ∷ style.top_border.junction
    ∷ style.top_border.right
    ∷ style.header_lines.left ∷ style.header_lines.junction ∷ style.header_lines.right
    ∷ style.header_separator.left ∷ style.header_separator.fill ∷ style.header_separator.junction
    ∷ style.header_separator.right
    ∷ style.content_lines.left ∷ style.content_lines.junction ∷ style.content_lines.right
    ∷ style.row_separator.left ∷ style.row_separator.fill ∷ style.row_separator.junction
    ∷ style.row_separator.right
    ∷ style.bottom_border.left ∷ style.bottom_border.fill ∷ style.bottom_border.junction
    ∷ style.bottom_border.right ∷ []

-- each character of the style adds one terminal column
abbrev pub IsOneColumnStyle : TableStyle → Type 0
IsOneColumnStyle style = All IsOneColumn (style_characters style)

-- each character of the style is a frame character; a missing one is a space
abbrev pub has_frame_characters : TableStyle → Bool
has_frame_characters style =
    list_all (λ c. is_frame_character (unwrap_or c 0x20)) (style_characters style)

-- ---- texts

-- every text before this one adds its own measure, because no character joins across the border
abbrev pub IsApart : Text → Type 0
IsApart rest = (text : Text) → IsUtf8 text → measure (text ++ rest) ≡ measure text + measure rest

-- a text that begins with a frame character is apart from every text before it
abbrev pub FrameTextsAreApart : ℕ → Text → Type 0
FrameTextsAreApart c rest = is_frame_character c ≡ true → IsApart (encode_utf8 c ++ rest)

-- the characters that may join others
abbrev pub joining_characters : List Range
joining_characters =
    -- U+0338, Hebrew lamed, Arabic alefs
    (0x338, 0x338) ∷ (0x5DC, 0x5DC) ∷ (0x622, 0x623) ∷ (0x625, 0x625) ∷ (0x627, 0x627)
    ∷ (0x671, 0x673) ∷ (0x675, 0x675) ∷ (0x773, 0x774) ∷ (0x870, 0x882)
    -- Khmer letters, Buginese ya, the zero width joiner, Tifinagh, two Lisu tones, lamed with a dot
    ∷ (0x1780, 0x17AF) ∷ (0x17D8, 0x17D8) ∷ (0x1A10, 0x1A10) ∷ (0x200D, 0x200D) ∷ (0x2D31, 0x2D6F)
    ∷ (0xA4FC, 0xA4FD) ∷ (0xFB3C, 0xFB3C)
    -- variation selectors, an Old Turkic letter, two Kirat Rai letters, regional indicators, skin
    -- tones
    ∷ (0xFE00, 0xFE0F) ∷ (0x10C03, 0x10C03) ∷ (0x16D67, 0x16D68) ∷ (0x1F1E6, 0x1F1FF)
    ∷ (0x1F3FB, 0x1F3FF) ∷ []

-- printable ASCII, and each character from U+00A0 on that isn't in the list of joining characters
abbrev pub joins_no_other : ℕ → Bool
joins_no_other c =
    is_in_range 0x20 0x7E c || (nat_le 0xA0 c && not (in_ranges joining_characters c))

-- ---- lines

-- U+FE01 is never directly next to U+FE0E or U+FE0F in the text
abbrev pub SelectorsAgree : Text → Type 0
SelectorsAgree text = selectors_agree (chars text) ≡ true

-- the character by itself measures at most w
abbrev pub character_fits : ℕ → ℕ → Bool
character_fits w c = nat_le (measure (encode_utf8 c)) w

-- each character of the text fits w terminal columns, and U+FE01 is never directly next to U+FE0E
-- or U+FE0F
abbrev pub characters_fit : ℕ → Text → Bool
characters_fit w text = list_all (character_fits w) (chars text) && selectors_agree (chars text)

abbrev pub CharactersFit : ℕ → Text → Type 0
CharactersFit w text = characters_fit w text ≡ true

-- a word is at most w terminal columns wide, or its characters fit
abbrev pub WordFits : ℕ → Text → Type 0
WordFits w word = (measure word ≤ w) ⊎ CharactersFit w word

-- a text line is at most w terminal columns wide, or each of its words fits between delimiters that
-- add one
abbrev pub TextFits : ℕ → ℕ → Text → Type 0
TextFits w d text = (measure text ≤ w) ⊎ (AddsOneColumn d × All (WordFits w) (elements d text))

-- if a text line fits, no line that it is wrapped into is wider than w
abbrev pub TextLinesFit : ℕ → ℕ → Text → Type 0
TextLinesFit w d text =
    IsScalar d → IsUtf8 text → TextFits w d text
    → All (λ line. measure line ≤ w) (lines_of_text w d text)

-- if selectors agree, no head for k terminal columns is wider than k
abbrev pub HeadFits : ℕ → Text → Type 0
HeadFits k text = IsUtf8 text → SelectorsAgree text → measure (head k text) ≤ k

-- a text fits if its characters do and its delimiter adds one terminal column
abbrev pub FittingCharactersFit : ℕ → ℕ → Text → Type 0
FittingCharactersFit w d text =
    AddsOneColumn d → IsUtf8 text → CharactersFit w text → TextFits w d text

-- ---- presets

-- all presets
abbrev pub presets_all : List TableStyle
presets_all = map (λ entry. entry.1) named_presets

-- a preset has only characters that add one: unchanged, rounded, with solid inner borders, and with
-- both
abbrev pub IsOneColumnPreset : TableStyle → Type 0
IsOneColumnPreset style =
    IsOneColumnStyle style × IsOneColumnStyle (with_rounded_corners style)
    × IsOneColumnStyle (with_solid_inner_borders style)
    × IsOneColumnStyle (with_rounded_corners (with_solid_inner_borders style))
