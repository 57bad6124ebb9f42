-- Signs that an input isn't CSV in UTF-8.
-- Source: this library's own; RFC 1952 (gzip), RFC 8878 (zstd), PKWARE's APPNOTE, ISO 32000 (PDF).
use Rattle.std.specs.Prelude.{ℕ, Bool, false, ◌==◌, ◌&&◌, ◌||◌, [], ◌∷◌, Option, Some, None, bytes_eq, codes, drop, is_some, length, map, option_map, take, if◌then◌else◌}
use Rattle.std.specs.Char.{is_ascii_whitespace}
use Rattle.std.specs.List.{position, prefix_len}
use Rattle.std.specs.Option.{option_or}
use Rattle.comfy_parts.specs.Text.{Text}
use Rattle.csv_records.specs.Lines.{below_lines}
use Rattle.csv_records.specs.Encoding.{marked_order}
use Rattle.csv_records.specs.Input.{line_number}
use Rattle.csv_records.specs.Number.{is_word}
use Rattle.csv_records.specs.declared.encoding.Encoding.{Encoding}
use Rattle.csv_records.specs.declared.not_text.NotText.{NotText}
use Rattle.csv_records.specs.declared.not_text.NotText.TheVariants.{Binary, Bzip2, Gzip, Html, Json, Pdf, Utf16, Xz, Zip, Zstd}

-- true if `bytes` begin with `front`
abbrev pub begins_with : Text → Text → Bool
begins_with front bytes = bytes_eq (take (length front) bytes) front

-- true if `bytes` begin with a word, in letters of either case
abbrev pub begins_with_word : Text → Text → Bool
begins_with_word word bytes = is_word word (take (length word) bytes)

-- the kind of file that begins as an input does. Files of bzip2 are recognised if their blocks have
-- the usual size.
abbrev pub not_text_by_front : Text → Option NotText
not_text_by_front input =
    if begins_with (0x1F ∷ 0x8B ∷ []) input then Some Gzip
    else if begins_with (0x50 ∷ 0x4B ∷ 0x03 ∷ 0x04 ∷ []) input then Some Zip
    else if begins_with (0xFD ∷ 0x37 ∷ 0x7A ∷ 0x58 ∷ 0x5A ∷ 0x00 ∷ []) input then Some Xz
    else if begins_with (0x28 ∷ 0xB5 ∷ 0x2F ∷ 0xFD ∷ []) input then Some Zstd
    else if begins_with (codes "BZh91AY&SY") input then Some Bzip2
    else if begins_with (codes "%PDF-") input then Some Pdf
    else None

-- true if every second of the first four bytes is NUL and the others aren't, as in UTF-16 if two
-- characters are below U+0100
abbrev pub is_like_utf16 : Text → Bool
is_like_utf16 bytes =
    let nuls = map (λ b. if b == 0 then 1 else 0) (take 4 bytes) in
    bytes_eq nuls (0 ∷ 1 ∷ 0 ∷ 1 ∷ []) || bytes_eq nuls (1 ∷ 0 ∷ 1 ∷ 0 ∷ [])

-- the line of the first NUL, if there is one; `above` lines were left out
abbrev pub nul_line : ℕ → Text → Option ℕ
nul_line above bytes =
    option_map (λ at. line_number above (take at bytes)) (position (λ b. b == 0) bytes)

-- the kind of bytes that NULs show, if there are any; `above` lines were left out
abbrev pub not_text_by_nuls : ℕ → Text → Option NotText
not_text_by_nuls above bytes =
    if is_like_utf16 bytes then Some Utf16 else option_map Binary (nul_line above bytes)

-- a text without the white space of ASCII at its front
abbrev pub without_front : Text → Text
without_front text = drop (prefix_len is_ascii_whitespace text) text

-- true if two bytes can begin JSON, and no usual header: `{"`, `[{`, `[[` or `["`
abbrev pub begins_json : Text → Text → Bool
begins_json (a ∷ _) (b ∷ _) =
    ((a == 0x7B) && (b == 0x22))
    || ((a == 0x5B) && (((b == 0x7B) || (b == 0x5B)) || (b == 0x22)))
begins_json _ _ = false

-- true if the first two bytes that are no white space can begin JSON
abbrev pub is_like_json : Text → Bool
is_like_json text =
    let first = without_front text in
    begins_json first (without_front (drop 1 first))

-- true if a text begins as an HTML page, perhaps after white space
abbrev pub is_html : Text → Bool
is_html text =
    begins_with_word (codes "<!doctype html") (without_front text)
    || begins_with_word (codes "<html") (without_front text)

-- the kind of bytes that aren't CSV; `above` lines were left out
abbrev pub not_text_below : ℕ → Text → Option NotText
not_text_below above bytes =
    if is_like_json bytes then Some Json
    else if is_html bytes then Some Html
    else not_text_by_nuls above bytes

-- the kind of an input, by its first bytes, or by the bytes below the lines that are left out
abbrev pub not_text_in : ℕ → Text → Option NotText
not_text_in skip input =
    option_or (not_text_by_front input) (not_text_below skip (below_lines skip input))

-- the kind of an input that isn't text. No sign counts if an encoding is set, or a byte-order mark
-- shows UTF-16.
abbrev pub not_text_for : Option Encoding → ℕ → Text → Option NotText
not_text_for (Some encoding) skip input = None
not_text_for None skip input =
    if is_some (marked_order input) then None else not_text_in skip input
