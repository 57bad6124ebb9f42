-- The table of own widths agrees with the widths of characters, and ideographs and Hangul syllables take two terminal
-- columns. Both are computed over all of Unicode.
use Rattle.std.proofs.Common.{◌≡◌, ℕ, ◌<◌, Bool, true, not, ◌||◌, ◌==◌, List, [], ◌∷◌, refl}
use Rattle.std.specs.Prelude.{if◌then◌else◌}
use Rattle.ucd_table.specs.Rows.{Range, in_ranges}
use Rattle.ucd_table.specs.Trie.{IsTrie, trie_value}
use Rattle.ucd_table.proofs.Computing.{tables}
use Rattle.ucd_table.proofs.Facts.{Stepped-everywhere}
use Rattle.ucd_table.proofs.Stepped.{Stepped, of_ranges, runs_of, zip_stepped}
use Rattle.ucd_table.proofs.StepsLemmas.{rises_from}
use Rattle.ucd_table.proofs.TrieCheck.{trie_ok, trie_ok-IsTrie, trie_value-Stepped}
use Rattle.unicode_width.proofs.Computing.{unicode_width}
use Rattle.unicode_width.proofs.KindLemmas.{kind_stepped}
use Rattle.unicode_width.specs.declared.kind.Kind.{Kind}
use Rattle.unicode_width.specs.declared.kind.Kind.TheVariants as kinds
use Rattle.unicode_width.specs.Kind.{kind}
use Rattle.comfy_parts.specs.Columns.{joining_characters}
use Rattle.comfy_parts.specs.declared.content_split.own_width.table.TheConstants.{INDEX, TAIL, WORDS}

-- printable ASCII, and the characters whose number in the table means that they may join others
abbrev pub printable : List Range
printable = (0x20, 0x7E) ∷ []

abbrev pub joining : List Range
joining = (0, 0x9F) ∷ joining_characters

-- the width of a kind that adds up, and 3 for any other kind
abbrev pub kind_number : Kind → ℕ
kind_number kinds.Zero = 0
kind_number kinds.Narrow = 1
kind_number kinds.Wide = 2
kind_number kinds.Ambiguous = 1
kind_number kinds.Emoji = 2
kind_number _ = 3

abbrev pub number_of : Bool × Bool → Kind → ℕ
number_of b k = if b.0 then 1 else if b.1 then 3 else kind_number k

abbrev ranged : ℕ → Bool × Bool
ranged c = (in_ranges printable c, in_ranges joining c)

abbrev pub own_number : ℕ → ℕ
own_number c = number_of (in_ranges printable c, in_ranges joining c) (kind c)

unfoldable ranged_stepped : Stepped ranged
unfolding rises_from
ranged_stepped = zip_stepped (λ a b. (a, b)) (in_ranges printable) (in_ranges joining) (of_ranges printable refl) (of_ranges joining refl)

unfoldable own_number_stepped : Stepped own_number
unfolding ranged_stepped kind_stepped
own_number_stepped = zip_stepped number_of ranged kind ranged_stepped kind_stepped

table_ok : trie_ok 2 4 4 INDEX WORDS TAIL (runs_of own_number own_number_stepped) ≡ true
unfolding unicode_width tables own_number_stepped ranged_stepped
table_ok = refl

-- ideographs and Hangul syllables, which aren't looked up in the table
abbrev pub ideographs : List Range
ideographs = (0x4E00, 0x9FFF) ∷ (0xB000, 0xCFFF) ∷ []

unfoldable ideographs_stepped : Stepped (in_ranges ideographs)
unfolding rises_from
ideographs_stepped = of_ranges ideographs refl

pub ideographs-wide : (c : ℕ) → (not (in_ranges ideographs c) || (own_number c == 2)) ≡ true
unfolding unicode_width tables own_number_stepped ranged_stepped ideographs_stepped
ideographs-wide =
    Stepped-everywhere _ (zip_stepped (λ is n. not is || (n == 2)) (in_ranges ideographs) own_number ideographs_stepped own_number_stepped) refl

pub is_trie : IsTrie 2 4 INDEX WORDS
is_trie = trie_ok-IsTrie 2 4 4 INDEX WORDS TAIL _ table_ok

pub has_numbers : (c : ℕ) → c < 0x11_0000 → trie_value 2 4 INDEX WORDS TAIL c ≡ own_number c
has_numbers = trie_value-Stepped 2 4 4 INDEX WORDS TAIL own_number own_number_stepped table_ok
