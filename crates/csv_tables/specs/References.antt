-- Character references of Markdown, as `&amp;`, `&#42;` and `&#x2a;`.
-- Source: CommonMark, entity and numeric character references.
use Rattle.std.specs.Prelude.{ℕ, Bool, false, ◌==◌, ◌&&◌, ◌||◌, List, [], ◌∷◌, if◌then◌else◌}
use Rattle.std.specs.Char.{is_ascii_alphabetic, is_ascii_alphanumeric, is_ascii_digit, is_ascii_hexdigit}
use Rattle.csv_tables.specs.declared.references.ReferenceKind.{ReferenceKind}
use Rattle.csv_tables.specs.declared.references.ReferenceKind.TheVariants.{Decimal, Hexadecimal, Name}

-- true for a character in a name or a number of this kind
abbrev pub is_of_kind : ReferenceKind → ℕ → Bool
is_of_kind Name c = is_ascii_alphanumeric c
is_of_kind Decimal c = is_ascii_digit c
is_of_kind Hexadecimal c = is_ascii_hexdigit c

-- true for a character at the start of a name or a number of this kind
abbrev pub begins_kind : ReferenceKind → ℕ → Bool
begins_kind Name c = is_ascii_alphabetic c
begins_kind Decimal c = is_ascii_digit c
begins_kind Hexadecimal c = is_ascii_hexdigit c

-- true if `;` follows the other characters of a name or a number
abbrev pub closes : ReferenceKind → List ℕ → Bool
closes kind [] = false
closes kind (c ∷ rest) = if is_of_kind kind c then closes kind rest else c == 0x3B

-- true for a name or a number, and `;`
abbrev pub is_closed : ReferenceKind → List ℕ → Bool
is_closed kind [] = false
is_closed kind (c ∷ rest) = begins_kind kind c && closes kind rest

-- true for digits, or `x` and hexadecimal digits, and `;`
abbrev pub begins_number : List ℕ → Bool
begins_number [] = false
begins_number (c ∷ rest) =
    if (c == 0x78) || (c == 0x58) then is_closed Hexadecimal rest else is_closed Decimal (c ∷ rest)

-- true for the text after the ampersand of a reference: a name, or `#` and a number, and `;`
abbrev pub begins_reference : List ℕ → Bool
begins_reference [] = false
begins_reference (c ∷ rest) = if c == 0x23 then begins_number rest else is_closed Name (c ∷ rest)
