-- The laws of texts of cells, and of columns that grow.
use Rattle.std.proofs.Common.{◌≡◌, ◌==◌, ℕ, ◌-◌, false, List, [], ◌∷◌, length, map, arith, refl, length-append, String, string_bytes}
use Rattle.std.proofs.lemmas.List.{length-map}
use Rattle.std.proofs.lemmas.List.Elements.{All-cons, All-nil, All-head, All-tail}
use Rattle.std.specs.List.{All, list_any, onto_first, range_with_len, slice_split}
use Rattle.std.proofs.lemmas.List.FromFn.{length-range_with_len}
use Rattle.std.proofs.lemmas.Bool.{cond_both}
use Rattle.std.proofs.lemmas.List.Splits.{join_with_byte-slice_split, length-slice_split}
use Rattle.comfy_parts.specs.CellValue.{ColumnValue, HasTextLines, NoFewerColumns, new_column, content_of, plain_cell}
use Rattle.std.proofs.lemmas.Str.{IsUtf8-string_bytes}
use Rattle.std.specs.Str.{IsUtf8}
use Rattle.comfy_parts.specs.Text.{Text}

-- the content of a cell that is made of a text is this text
abbrev pub ContentIsTheText : Text → Type 0
ContentIsTheText text = content_of (plain_cell text) ≡ text

-- the content of a cell that is made of a text is this text
pub content_is_the_text : (text : Text) → ContentIsTheText text
content_is_the_text text = join_with_byte-slice_split 0x0A text

-- the line contains no line feed
abbrev IsUnbroken : Text → Type 0
IsUnbroken line = list_any (λ b. b == 0x0A) line ≡ false

-- a character other than the line feed can be added to the first of unbroken lines
unbroken-onto_first : (c : ℕ) (lines : List Text) → (c == 0x0A) ≡ false → All IsUnbroken lines → All IsUnbroken (onto_first c lines)
unbroken-onto_first c [] other each = All-cons IsUnbroken (c ∷ []) [] (rw other refl) (All-nil IsUnbroken)
unbroken-onto_first c (line ∷ lines) other each =
    All-cons IsUnbroken (c ∷ line) lines (rw other (All-head IsUnbroken line lines each)) (All-tail IsUnbroken line lines each)

-- the pieces between line feeds contain no line feed
unbroken-split : (text : Text) → All IsUnbroken (slice_split (λ b. b == 0x0A) text)
unbroken-split [] = All-cons IsUnbroken [] [] refl (All-nil IsUnbroken)
unbroken-split (c ∷ cs) =
    let rest = unbroken-split cs in
    cond_both (c == 0x0A) _ _ (All IsUnbroken) (λ _. All-cons IsUnbroken [] (slice_split (λ b. b == 0x0A) cs) refl rest)
    (λ other. unbroken-onto_first c (slice_split (λ b. b == 0x0A) cs) other rest)

-- the bytes of strings are whole characters
whole_texts : {A : Type 0} (texts : List (String A)) → All IsUtf8 (map string_bytes texts)
whole_texts [] = All-nil IsUtf8
whole_texts (text ∷ texts) = All-cons IsUtf8 (string_bytes text) (map string_bytes texts) (IsUtf8-string_bytes text) (whole_texts texts)

-- the text lines of a text have the invariant of a cell
pub has_text_lines : {A : Type 0} (text : Text) (texts : List (String A)) → map string_bytes texts ≡ slice_split (λ b. b == 0x0A) text → HasTextLines (map string_bytes texts)
has_text_lines text texts cut =
    record { some_line = rw cut (omega (arith, length-slice_split (λ b. b == 0x0A) text)); no_breaks = rw cut (unbroken-split text); whole = whole_texts texts }

-- columns that grow to n are as many as before, or n if that is more
pub no_fewer_columns : (n : ℕ) (columns : List ColumnValue) → NoFewerColumns n columns
no_fewer_columns n columns =
    let added = map new_column (range_with_len (length columns) (n - length columns)) in
    omega (arith, length-append columns added, length-map (range_with_len (length columns) (n - length columns)) new_column, length-range_with_len (length columns) (n - length columns))
