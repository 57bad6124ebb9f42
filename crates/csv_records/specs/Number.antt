-- Fields that are numbers.
-- Source: this library's own; ISO 4217 and Unicode's category Sc for currencies.
use Prim.Native.String.{String}
use Rattle.std.specs.Prelude.{ℕ, Bool, true, false, ◌+◌, ◌-◌, ◌==◌, ◌&&◌, ◌||◌, not, nat_le, nat_lt, List, [], ◌∷◌, length, map, take, drop, Option, Some, None, option_map, bytes_eq, chars, codes, is_some, if◌then◌else◌}
use Rattle.std.specs.Char.{is_ascii_digit, to_ascii_lowercase}
use Rattle.std.specs.List.{list_all, list_any, position, prefix_len, slice_split, suffix_len}
use Rattle.std.specs.Str.{encode_utf8_all}
use Rattle.ucd_category.specs.GeneralCategory.{general_category, general_category_number}
use Rattle.comfy_parts.specs.Text.{Text}
use Rattle.csv_records.specs.Numerals.{number_for}

-- ---- characters

-- `-`, `+` or U+2212
abbrev pub is_sign : ℕ → Bool
is_sign c = (c == 0x2D) || ((c == 0x2B) || (c == 0x2212))

-- a space, also one at which no line breaks: U+00A0 or the narrow U+202F
abbrev pub is_blank : ℕ → Bool
is_blank c = (c == 0x20) || ((c == 0xA0) || (c == 0x202F))

-- true if the general category is Sc, currency symbols
abbrev pub is_currency : ℕ → Bool
is_currency c = general_category_number (general_category c) == 19

-- a space that may surround a field: a blank, TAB, line feed or carriage return
abbrev pub is_space : ℕ → Bool
is_space c = is_blank c || ((c == 0x09) || ((c == 0x0A) || (c == 0x0D)))

-- ---- the ends of a list

-- a list from its first element that doesn't pass, and up to its last one
abbrev pub from_other : (ℕ → Bool) → List ℕ → List ℕ
from_other p xs = drop (prefix_len p xs) xs

abbrev pub to_other : (ℕ → Bool) → List ℕ → List ℕ
to_other p xs = take (length xs - suffix_len p xs) xs

-- ---- the ends of a text

-- true if the first character passes
abbrev pub begins : (ℕ → Bool) → List ℕ → Bool
begins p [] = false
begins p (c ∷ cs) = p c

-- true if the last character passes
abbrev pub ends : (ℕ → Bool) → List ℕ → Bool
ends p [] = false
ends p (c ∷ []) = p c
ends p (c ∷ d ∷ cs) = ends p (d ∷ cs)

-- a text without its first character, and without its last one
abbrev pub without_first : Text → Text
without_first text = encode_utf8_all (drop 1 (chars text))

abbrev pub without_last : Text → Text
without_last text = encode_utf8_all (take (length (chars text) - 1) (chars text))

-- a text without its first character if that passes, and without its last one if that passes
abbrev pub without_leading : (ℕ → Bool) → Text → Text
without_leading p text = if begins p (chars text) then without_first text else text

abbrev pub before : (ℕ → Bool) → Text → Text
before p text = if ends p (chars text) then without_last text else text

-- a field without spaces at its front, at its end, and at both
abbrev pub without_leading_spaces : Text → Text
without_leading_spaces text = encode_utf8_all (from_other is_space (chars text))

abbrev pub without_trailing_spaces : Text → Text
without_trailing_spaces text = encode_utf8_all (to_other is_space (chars text))

abbrev pub trimmed : Text → Text
trimmed field = without_trailing_spaces (without_leading_spaces field)

-- the texts before and after the first occurrence of an ASCII character
abbrev pub halves : ℕ → Text → Option (Text × Text)
halves mark text =
    option_map (λ at. (take at text, drop (at + 1) text)) (position (λ b. b == mark) text)

-- ---- digits

-- true for one digit or more
abbrev pub is_digits : Text → Bool
is_digits text = nat_lt 0 (length text) && list_all is_ascii_digit text

-- true if a group of a size may have this number of digits: the first group may have fewer
abbrev pub is_group_len : ℕ → Bool → ℕ → Bool
is_group_len size is_first count =
    if is_first then nat_lt 0 count && nat_le count size else count == size

abbrev pub is_group : ℕ → Bool → List ℕ → Bool
is_group size is_first digits =
    is_group_len size is_first (length digits) && list_all is_ascii_digit digits

abbrev pub are_groups : ℕ → List (List ℕ) → Bool
are_groups size [] = false
are_groups size (first ∷ others) =
    is_group size true first && list_all (is_group size false) others

-- true for digits in groups of a size that are separated by this character
abbrev pub is_grouped : ℕ → ℕ → Text → Bool
is_grouped size mark text = are_groups size (slice_split (λ c. c == mark) (chars text))

-- true for Indian groups, as in `12,34,567`: all digits except the last are in groups of two
unfoldable pub has_indian_groups : Text → Bool
has_indian_groups text =
    ends is_ascii_digit (chars text) && is_grouped 2 0x2C (without_last text)

-- the characters that separate groups: `,`, `.`, `_`, `'`, a space, U+00A0 and U+202F
abbrev pub group_marks : List ℕ
group_marks = 0x2C ∷ 0x2E ∷ 0x5F ∷ 0x27 ∷ 0x20 ∷ 0xA0 ∷ 0x202F ∷ []

abbrev pub has_groups : Text → Bool
has_groups text =
    list_any (λ mark. is_grouped 3 mark text) group_marks || has_indian_groups text

-- true for a number of at most 255
abbrev pub is_octet : Text → Bool
is_octet text = is_some (number_for 8 text)

-- true for four numbers of at most 255, separated by points
abbrev pub is_address : Text → Bool
is_address text =
    (length (slice_split (λ b. b == 0x2E) text) == 4)
    && list_all is_octet (slice_split (λ b. b == 0x2E) text)

-- ---- numbers

-- true for digits before and after a mark, of which one side may be empty
abbrev pub are_parted_digits : Text → Text → Bool
are_parted_digits whole rest =
    list_all is_ascii_digit whole && not ((length whole == 0) && (length rest == 0))

abbrev pub has_groups_before : Option (Text × Text) → Bool
has_groups_before None = false
has_groups_before (Some (whole, rest)) = has_groups whole

-- true for digits after a decimal mark, and digits or groups before it
abbrev pub is_fraction : Option (Text × Text) → Bool
is_fraction None = false
is_fraction (Some (whole, rest)) =
    list_all is_ascii_digit rest && (are_parted_digits whole rest || has_groups whole)

-- true for a number without sign, exponent and unit
abbrev pub is_decimal : Text → Bool
is_decimal text =
    (is_digits text || (is_fraction (halves 0x2E text) || is_fraction (halves 0x2C text)))
    || (has_groups text && not (is_address text))

-- true for digits after a sign, or without one
abbrev pub is_exponent : Text → Bool
is_exponent text = is_digits (without_leading is_sign text)

-- true for a decimal and its exponent
abbrev pub is_scientific : Option (Text × Text) → Bool
is_scientific None = false
is_scientific (Some (decimal, exponent)) = is_decimal decimal && is_exponent exponent

-- true if a text begins with `0` and a digit: then it is a name, as `0042`
abbrev pub is_name : Text → Bool
is_name [] = false
is_name (a ∷ []) = false
is_name (a ∷ b ∷ rest) = (a == 0x30) && is_ascii_digit b

-- true for a number without sign and unit
abbrev pub is_figure : Text → Bool
is_figure text =
    not (is_name text)
    && (is_decimal text || (is_scientific (halves 0x65 text) || is_scientific (halves 0x45 text)))

-- ---- currencies and units

-- true if a text is one of these words
abbrev pub is_among : List Text → Text → Bool
is_among words text = list_any (λ word. bytes_eq text word) words

-- the codes of ISO 4217 of currencies in use
abbrev pub currency_codes : List Text
currency_codes =
    map (λ (code : String). codes code)
    (
    "AED" ∷ "AFN" ∷ "ALL" ∷ "AMD" ∷ "ANG" ∷ "AOA" ∷ "ARS" ∷ "AUD" ∷ "AWG" ∷ "AZN" ∷ "BAM" ∷ "BBD" ∷
    "BDT" ∷ "BGN" ∷ "BHD" ∷ "BIF" ∷ "BMD" ∷ "BND" ∷ "BOB" ∷ "BRL" ∷ "BSD" ∷ "BTN" ∷ "BWP" ∷ "BYN" ∷
    "BZD" ∷ "CAD" ∷ "CDF" ∷ "CHF" ∷ "CLP" ∷ "CNY" ∷ "COP" ∷ "CRC" ∷ "CUC" ∷ "CUP" ∷ "CVE" ∷ "CZK" ∷
    "DJF" ∷ "DKK" ∷ "DOP" ∷ "DZD" ∷ "EGP" ∷ "ERN" ∷ "ETB" ∷ "EUR" ∷ "FJD" ∷ "FKP" ∷ "GBP" ∷ "GEL" ∷
    "GHS" ∷ "GIP" ∷ "GMD" ∷ "GNF" ∷ "GTQ" ∷ "GYD" ∷ "HKD" ∷ "HNL" ∷ "HRK" ∷ "HTG" ∷ "HUF" ∷ "IDR" ∷
    "ILS" ∷ "INR" ∷ "IQD" ∷ "IRR" ∷ "ISK" ∷ "JMD" ∷ "JOD" ∷ "JPY" ∷ "KES" ∷ "KGS" ∷ "KHR" ∷ "KMF" ∷
    "KPW" ∷ "KRW" ∷ "KWD" ∷ "KYD" ∷ "KZT" ∷ "LAK" ∷ "LBP" ∷ "LKR" ∷ "LRD" ∷ "LSL" ∷ "LYD" ∷ "MAD" ∷
    "MDL" ∷ "MGA" ∷ "MKD" ∷ "MMK" ∷ "MNT" ∷ "MOP" ∷ "MRU" ∷ "MUR" ∷ "MVR" ∷ "MWK" ∷ "MXN" ∷ "MYR" ∷
    "MZN" ∷ "NAD" ∷ "NGN" ∷ "NIO" ∷ "NOK" ∷ "NPR" ∷ "NZD" ∷ "OMR" ∷ "PAB" ∷ "PEN" ∷ "PGK" ∷ "PHP" ∷
    "PKR" ∷ "PLN" ∷ "PYG" ∷ "QAR" ∷ "RON" ∷ "RSD" ∷ "RUB" ∷ "RWF" ∷ "SAR" ∷ "SBD" ∷ "SCR" ∷ "SDG" ∷
    "SEK" ∷ "SGD" ∷ "SHP" ∷ "SLE" ∷ "SLL" ∷ "SOS" ∷ "SRD" ∷ "SSP" ∷ "STN" ∷ "SVC" ∷ "SYP" ∷ "SZL" ∷
    "THB" ∷ "TJS" ∷ "TMT" ∷ "TND" ∷ "TOP" ∷ "TRY" ∷ "TTD" ∷ "TWD" ∷ "TZS" ∷ "UAH" ∷ "UGX" ∷ "USD" ∷
    "UYU" ∷ "UZS" ∷ "VED" ∷ "VES" ∷ "VND" ∷ "VUV" ∷ "WST" ∷ "XAF" ∷ "XCD" ∷ "XCG" ∷ "XOF" ∷ "XPF" ∷
    "YER" ∷ "ZAR" ∷ "ZMW" ∷ "ZWG" ∷ "ZWL" ∷ []
    )

abbrev pub is_code : Text → Bool
is_code text = is_among currency_codes text

-- true for a single character that passes
abbrev pub is_one : (ℕ → Bool) → List ℕ → Bool
is_one p [] = false
is_one p (c ∷ []) = p c
is_one p (c ∷ d ∷ cs) = false

-- true for a currency: its character, its code or its name
abbrev pub is_money : Text → Bool
is_money text =
    is_one is_currency (chars text)
    || (is_code text || is_among (codes "R$" ∷ codes "kr" ∷ []) text)

-- true for a unit of sizes: a byte, or a multiple of it
abbrev pub is_size : Text → Bool
is_size [] = false
is_size (c ∷ rest) =
    ((c == 0x42) && (length rest == 0))
    || (list_any (λ letter. c == letter) (codes "kKMGTPE")
    && is_among ([] ∷ codes "B" ∷ codes "i" ∷ codes "iB" ∷ []) rest)

-- units of time; U+00B5 and U+03BC are both in use as the letter for millionths
abbrev pub times : List Text
times =
    codes "ns" ∷ codes "us" ∷ encode_utf8_all (0xB5 ∷ 0x73 ∷ [])
    ∷ encode_utf8_all (0x03BC ∷ 0x73 ∷ []) ∷ codes "ms" ∷ codes "s" ∷ codes "min" ∷ codes "h"
    ∷ codes "d" ∷ []

abbrev pub is_time : Text → Bool
is_time text = is_among times text

-- true for a unit: percent, a size, a time or a currency
abbrev pub is_unit : Text → Bool
is_unit text = bytes_eq text (codes "%") || (is_size text || (is_time text || is_money text))

-- ---- a figure in its field

-- true for a digit or a decimal mark
abbrev pub is_inner : ℕ → Bool
is_inner b = is_ascii_digit b || ((b == 0x2E) || (b == 0x2C))

abbrev pub is_outer : ℕ → Bool
is_outer b = not (is_inner b)

-- true for a digit, a decimal mark, or a sign of ASCII
abbrev pub is_written : ℕ → Bool
is_written b = is_inner b || ((b == 0x2D) || (b == 0x2B))

-- a text without a sign of ASCII at its front
abbrev pub unsigned : Text → Text
unsigned [] = []
unsigned (b ∷ bs) = if (b == 0x2D) || (b == 0x2B) then bs else b ∷ bs

-- the text before the first digit or decimal mark, from there to the last one, and after that
abbrev pub front_of : Text → Text
front_of text = take (prefix_len is_outer text) text

abbrev pub figure_of : Text → Text
figure_of text = to_other is_outer (from_other is_outer text)

abbrev pub back_of : Text → Text
back_of text = drop (length (figure_of text)) (from_other is_outer text)

-- true for a text that may follow a figure: nothing, or a unit, also after a blank
abbrev pub is_end : Text → Bool
is_end back = (length back == 0) || is_unit (without_leading is_blank back)

-- true for texts that may surround a number without sign: a currency before it, or a unit after it,
-- or nothing
abbrev pub is_amount : Text → Text → Bool
is_amount front back =
    if length front == 0
    then is_end back
    else (length back == 0) && is_money (before is_blank front)

-- true for texts around a figure whose sign isn't at the front. A minus may directly follow the
-- figure, as in `1.250,00-`, or a sign may follow the currency.
abbrev pub is_signed_later : Text → Text → Bool
is_signed_later front back =
    if begins (λ c. c == 0x2D) (chars back)
    then is_amount front (without_first back)
    else is_amount (before is_sign front) back

-- true for texts that may surround a figure with a sign, or without one
abbrev pub is_signed : Text → Text → Bool
is_signed front back =
    if begins is_sign (chars front)
    then is_amount (without_first front) back
    else is_signed_later front back

-- true for texts around a figure in parentheses
abbrev pub is_enclosed : Text → Text → Bool
is_enclosed front back =
    (begins (λ c. c == 0x28) (chars front) && ends (λ c. c == 0x29) (chars back))
    && is_amount (without_first front) (without_last back)

-- true for a figure between texts that may surround it, without spaces at its ends
abbrev pub is_bare_number : Text → Bool
is_bare_number text =
    (is_signed (front_of text) (back_of text) || is_enclosed (front_of text) (back_of text))
    && is_figure (figure_of text)

unfoldable pub is_number : Text → Bool
is_number field = is_bare_number (trimmed field)

-- ---- neutral fields

-- true if `text` is `word`, in letters of either case
abbrev pub is_word : Text → Text → Bool
is_word word text = bytes_eq (map to_ascii_lowercase text) (map to_ascii_lowercase word)

-- true for a word that marks a missing value
abbrev pub is_missing : Text → Bool
is_missing text =
    list_any (λ word. is_word word text)
    (
    codes "n/a" ∷ codes "na" ∷ codes "null" ∷ codes "nan" ∷ codes "inf" ∷ codes "none"
    ∷ codes "#n/a" ∷ (0x5C ∷ codes "n") ∷ codes "(null)" ∷ codes "<null>" ∷ []
    )

-- `-`, `..`, `–` or `—`
abbrev pub dashes : List Text
dashes =
    codes "-" ∷ codes ".." ∷ encode_utf8_all (0x2013 ∷ []) ∷ encode_utf8_all (0x2014 ∷ []) ∷ []

abbrev pub is_dash : Text → Bool
is_dash text = is_among dashes text

-- true for nothing, a dash, or a word for a missing value, with a sign or without one
abbrev pub is_bare_neutral : Text → Bool
is_bare_neutral text =
    ((length text == 0) || is_dash text) || is_missing (without_leading is_sign text)

unfoldable pub is_neutral : Text → Bool
is_neutral field = is_bare_neutral (trimmed field)
