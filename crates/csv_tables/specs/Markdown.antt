-- Text for Markdown tables: escaped texts of cells, as characters, and the line below the header.
-- Source: this library's own; CommonMark for what is markup, GitHub's tables and links beside it.
use Rattle.std.specs.Prelude.{ℕ, Bool, true, false, not, ◌+◌, ◌==◌, ◌&&◌, ◌||◌, List, [], ◌∷◌, ◌++◌, Option, Some, None, codes, flat_map, slice_get, zip, if◌then◌else◌}
use Rattle.std.specs.Char.Unicode.Alphabetic.{is_alphabetic}
use Rattle.std.specs.Char.Unicode.Numeric.{is_numeric}
use Rattle.std.specs.List.{list_any, repeat}
use Rattle.comfy_parts.specs.Text.{Text}
use Rattle.comfy_parts.specs.declared.style.cell.CellAlignment.{CellAlignment}
use Rattle.comfy_parts.specs.declared.style.cell.CellAlignment.TheVariants.{Right}
use Rattle.csv_tables.specs.References.{begins_reference}
use Rattle.comfy_parts.specs.declared.style.cell.CellAlignment.{CellAlignment}

-- true for a character that could begin or end markup at any place
abbrev pub is_mark : ℕ → Bool
is_mark c = list_any (λ mark. mark == c) (codes "|\\<[]")

-- true if a letter or a digit is there
abbrev pub is_in_word : Option ℕ → Bool
is_in_word None = false
is_in_word (Some c) = is_alphabetic c || is_numeric c

-- true if `own` is this character
abbrev pub is_character : ℕ → Option ℕ → Bool
is_character c None = false
is_character c (Some own) = own == c

-- true for a character that could begin markup together with the same character later on; an
-- underscore after a letter or a digit can't
abbrev pub is_paired : Option ℕ → ℕ → Bool
is_paired before c =
    list_any (λ mark. mark == c) (codes "*`~") || ((c == 0x5F) && not (is_in_word before))

-- true if a character, with `rest` after it, could begin or end markup; an ampersand does if it
-- begins a character reference
abbrev pub begins_markup : Option ℕ → ℕ → List ℕ → Bool
begins_markup before c rest =
    (is_mark c || (is_paired before c && list_any (λ d. d == c) rest))
    || ((c == 0x26) && begins_reference rest)

abbrev pub is_space : ℕ → Bool
is_space c = (c == 0x20) || (c == 0x0A)

-- true if no word goes on after this character: it is a space or a line feed, or there is none
abbrev pub ends_word : Option ℕ → Bool
ends_word None = true
ends_word (Some c) = is_space c

-- true if a character of the first word could begin or end markup
abbrev pub is_word_marked : Option ℕ → List ℕ → Bool
is_word_marked before [] = false
is_word_marked before (c ∷ rest) =
    not (is_space c) && (begins_markup before c rest || is_word_marked (Some c) rest)

-- true if the word around the first character is marked; `is_marked` says so for a word that began
-- before it
abbrev pub is_marked_at : Bool → Option ℕ → List ℕ → Bool
is_marked_at is_marked before text =
    if ends_word before then is_word_marked before text else is_marked

-- true if a web address could have this character, judged by a neighbour in `://` and `www.`
abbrev pub is_in_address : Option ℕ → ℕ → Option ℕ → Bool
is_in_address before c after =
    ((c == 0x3A) && is_character 0x2F after) || ((c == 0x2E) && is_character 0x77 before)

-- true if a character gets a backslash: it could begin or end markup, or begin an address in a
-- marked word. The backslashes of that word would be read as parts of the address.
abbrev pub is_special : Bool → Option ℕ → ℕ → List ℕ → Bool
is_special is_marked before c rest =
    begins_markup before c rest || (is_marked && is_in_address before c (slice_get rest 0))

-- a character as it is written: `<br>` for a line feed, and a backslash before a special character
abbrev pub escaped_character : Bool → ℕ → List ℕ
escaped_character special c =
    if c == 0x0A then codes "<br>" else if special then 0x5C ∷ c ∷ [] else c ∷ []

-- characters as they are written after the character `before`; `is_marked` says whether its word is
-- marked
abbrev pub escaped_after : Bool → Option ℕ → List ℕ → List ℕ
escaped_after is_marked before [] = []
escaped_after is_marked before (c ∷ rest) =
    escaped_character (is_special (is_marked_at is_marked before (c ∷ rest)) before c rest) c
    ++ escaped_after (is_marked_at is_marked before (c ∷ rest)) (Some c) rest

abbrev pub escaped : List ℕ → List ℕ
escaped text = escaped_after false None text

-- true for a character that may be written differently, depending on the characters around it
abbrev pub may_be_escaped : ℕ → Bool
may_be_escaped c =
    (c == 0x0A) || (is_mark c || (list_any (λ mark. mark == c) (codes "*`~")
    || ((c == 0x5F) || (c == 0x26))))

-- ---- the line below the header

abbrev pub is_right : Option CellAlignment → Bool
is_right (Some Right) = true
is_right _ = false

-- The part of the rule for a column of this width. It has a dash for each terminal column and
-- padding, and then a bar. If the column is right-aligned, its last dash is a colon.
abbrev pub rule_part : Option CellAlignment × ℕ → Text
rule_part p = repeat (p.1 + 1) (codes "-") ++ (if is_right p.0 then codes ":|" else codes "-|")

-- the line below the header, for columns of these alignments, and of these widths without their two
-- paddings
abbrev pub rule_line : List (Option CellAlignment) → List ℕ → Text
rule_line sides widths = codes "|" ++ flat_map rule_part (zip sides widths)

-- ---- reading back

-- the characters of an escaped text, with a line feed for `<br>`. A backslash isn't one of them,
-- but the character after it is.
abbrev pub unescaped : List ℕ → List ℕ
unescaped [] = []
unescaped (a ∷ []) = a ∷ []
unescaped (a ∷ b ∷ []) = if a == 0x5C then b ∷ [] else a ∷ unescaped (b ∷ [])
unescaped (a ∷ b ∷ c ∷ []) =
    if a == 0x5C then b ∷ unescaped (c ∷ []) else a ∷ unescaped (b ∷ c ∷ [])
unescaped (a ∷ b ∷ c ∷ d ∷ rest) =
    if a == 0x5C then b ∷ unescaped (c ∷ d ∷ rest)
    else if a == 0x3C then 0x0A ∷ unescaped rest
    else a ∷ unescaped (b ∷ c ∷ d ∷ rest)
