-- Fields of printable ASCII are drawn as printable ASCII.
use Rattle.std.proofs.Common.{◌≡◌, ℕ, zero, suc, ◌+◌, ◌≤◌, ◌/◌, ◌%◌, ◌==◌, ◌&&◌, decimal, length, Bool, true, false, List, [], ◌∷◌, Option, Some, None, All, arith, encode_utf8_all, refl, sym, ap, ap₂, ◌∙◌, subst, tests}
use Rattle.std.specs.Int.{is_in_range}
use Rattle.std.specs.Fmt.{digit_glyph, digits, digits_onto}
use Rattle.std.specs.List.{list_all, list_any}
use Rattle.std.specs.Prelude.{if◌then◌else◌}
use Rattle.std.proofs.lemmas.Bool.{and_parts}
use Rattle.std.proofs.lemmas.List.{length-append}
use Rattle.std.proofs.lemmas.List.Elements.{All-cons, All-nil}
use Rattle.std.proofs.lemmas.List.Folds.{list_all-append}
use Rattle.std.proofs.lemmas.List.Splits.{slice_split_none}
use Rattle.std.proofs.lemmas.Str.{chars-IsAscii, encodes-IsAscii}
use Rattle.comfy_parts.proofs.CallerLemmas.{All-none, ascii-printable}
use Rattle.comfy_parts.specs.CellValue.{CellValue, plain_cell}
use Rattle.comfy_parts.specs.declared.style.cell.CellAlignment.{CellAlignment}
use Rattle.comfy_parts.specs.Text.{Text, is_printable_ascii}
use Rattle.comfy_parts.specs.VisibleText.{is_parameter}
use Rattle.comfy_table.proofs.StyledLemmas.{decimal-parameters}
use Rattle.comfy_table.specs.Laws.{HasNoBreak}
use Rattle.csv_records.proofs.CleaningLemmas.{cleaned-printable}
use Rattle.csv_tables.specs.Cells.{cell_for, field_text, is_blank, marked, unless_blank}
use Rattle.csv_records.specs.Cleaning.{cleaned}
use Rattle.csv_tables.specs.Markdown.{escaped, escaped_after, escaped_character, is_marked_at, is_special}
use Rattle.csv_tables.specs.declared.options.Look.{Look}
use Rattle.csv_tables.proofs.BlankLemmas.{unless_blank-keeps}

abbrev is_printable : ℕ → Bool
is_printable = is_in_range 0x20 0x7E

-- if no printable character passes, no byte of printable ASCII does
none_pass : (p : ℕ → Bool) → ((c : ℕ) → is_printable c ≡ true → p c ≡ false) → (text : Text) → is_printable_ascii text ≡ true → list_any p text ≡ false
none_pass p none [] printable = refl
none_pass p none (c ∷ cs) printable =
    let parts = and_parts (is_printable c) (is_printable_ascii cs) printable in
    rw (none c parts.0) (none_pass p none cs parts.1)

no_break : (c : ℕ) → is_printable c ≡ true → (c == 0x0A) ≡ false
no_break c printable = grind (arith, tests)

-- printable ASCII has no line feed
pub printable_unbroken : (text : Text) → is_printable_ascii text ≡ true → HasNoBreak text
printable_unbroken text printable = none_pass (λ b. b == 0x0A) no_break text printable

character_stays : (special : Bool) (c : ℕ) → is_printable c ≡ true → is_printable_ascii (escaped_character special c) ≡ true
character_stays special c printable = rw (no_break c printable) (by_test special)
  where
    by_test : (b : Bool) → is_printable_ascii (if b then 0x5C ∷ c ∷ [] else c ∷ []) ≡ true
    by_test true = rw printable refl
    by_test false = rw printable refl

escaped_stays : (is_marked : Bool) (before : Option ℕ) (text : Text) → is_printable_ascii text ≡ true → is_printable_ascii (escaped_after is_marked before text) ≡ true
escaped_stays is_marked before [] printable = refl
escaped_stays is_marked before (c ∷ cs) printable =
    let parts = and_parts (is_printable c) (is_printable_ascii cs) printable in
    let here = is_marked_at is_marked before (c ∷ cs) in
    let special = is_special here before c cs in
    list_all-append is_printable (escaped_character special c) (escaped_after here (Some c) cs) ∙ ap₂ (λ a b. a && b) (character_stays special c parts.0) (escaped_stays here (Some c) cs parts.1)

marked_stays : (text : Text) → is_printable_ascii text ≡ true → is_printable_ascii (marked text) ≡ true
marked_stays text printable =
    let more = escaped_stays false None text printable in
    let same : encode_utf8_all (escaped text) ≡ escaped text = encodes-IsAscii (escaped text) (ascii-printable (escaped text) more) in
    ap is_printable_ascii (ap (λ (cs : List ℕ). encode_utf8_all (escaped cs)) (chars-IsAscii text (ascii-printable text printable)) ∙ same) ∙ more

-- printable ASCII is one text line of its cell
pub whole_line : (text : Text) → is_printable_ascii text ≡ true → (plain_cell text).text_lines ≡ text ∷ []
whole_line text printable = slice_split_none (λ b. b == 0x0A) text (All-none (λ b. b == 0x0A) text (printable_unbroken text printable))

-- ---- numbers

-- the characters of a colour's parameters are printable
parameter_is_printable : (c : ℕ) → is_parameter c ≡ true → is_printable c ≡ true
parameter_is_printable c is = grind (arith, tests)

parameters_are_printable : (code : Text) → list_all is_parameter code ≡ true → is_printable_ascii code ≡ true
parameters_are_printable [] all = refl
parameters_are_printable (c ∷ cs) all =
    let both = and_parts (is_parameter c) (list_all is_parameter cs) all in
    ap₂ (λ a b. a && b) (parameter_is_printable c both.0) (parameters_are_printable cs both.1)

pub number_is_printable : (n : ℕ) → is_printable_ascii (decimal n) ≡ true
number_is_printable n = parameters_are_printable (decimal n) (decimal-parameters n)

-- k steps write at most k digits
digits_are_few : (k n : ℕ) (acc : Text) → length (digits_onto k 10 false n acc) ≤ k + length acc
digits_are_few zero n acc = omega arith
digits_are_few (suc k) n acc = by_test (n / 10 == 0) (digits_are_few k (n / 10) (digit_glyph false (n % 10) ∷ acc))
  where
    by_test : (b : Bool) → length (digits_onto k 10 false (n / 10) (digit_glyph false (n % 10) ∷ acc)) ≤ k + length (digit_glyph false (n % 10) ∷ acc)
        → length (if b then digit_glyph false (n % 10) ∷ acc else digits_onto k 10 false (n / 10) (digit_glyph false (n % 10) ∷ acc)) ≤ suc k + length acc
    by_test true rest = omega arith
    by_test false rest = omega (arith, rest)

pub number_is_short : (n : ℕ) → length (decimal n) ≤ 64
unfolding digits
number_is_short n = let few = digits_are_few 64 n [] in omega (arith, few)

-- ---- short fields

-- a text of printable ASCII with at most `most` characters
abbrev pub IsShortPrintable : ℕ → Text → Type 0
IsShortPrintable most text = (is_printable_ascii text ≡ true) × (length text ≤ most)

-- an escaped text is at most twice as long
character_is_short : (special : Bool) (c : ℕ) → is_printable c ≡ true → length (escaped_character special c) ≤ 2
character_is_short special c printable = rw (no_break c printable) (by_test special)
  where
    by_test : (b : Bool) → length (if b then 0x5C ∷ c ∷ [] else c ∷ []) ≤ 2
    by_test true = omega arith
    by_test false = omega arith

escaped_is_short : (is_marked : Bool) (before : Option ℕ) (text : Text) → is_printable_ascii text ≡ true → length (escaped_after is_marked before text) ≤ length text + length text
escaped_is_short is_marked before [] printable = omega arith
escaped_is_short is_marked before (c ∷ cs) printable =
    let parts = and_parts (is_printable c) (is_printable_ascii cs) printable in
    let here = is_marked_at is_marked before (c ∷ cs) in
    let special = is_special here before c cs in
    let own = character_is_short special c parts.0 in
    let rest = escaped_is_short here (Some c) cs parts.1 in
    let whole = length-append (escaped_character special c) (escaped_after here (Some c) cs) in
    omega (arith, own, rest, whole)

marked_is_short : (text : Text) → IsShortPrintable 64 text → IsShortPrintable 128 (marked text)
marked_is_short text (printable, few) =
    let more = escaped_is_short false None text printable in
    let same : marked text ≡ escaped text =
    ap (λ (cs : List ℕ). encode_utf8_all (escaped cs)) (chars-IsAscii text (ascii-printable text printable)) ∙ encodes-IsAscii (escaped text) (ascii-printable (escaped text) (escaped_stays false None text printable)) in
    (marked_stays text printable, rw same (omega (arith, more, few)))

-- the text lines of such a field, as it is drawn
pub short_lines : (look : Look) (field : Text) → IsShortPrintable 64 field → All (IsShortPrintable 128) (plain_cell (field_text look field)).text_lines
short_lines look field (printable, few) =
    subst (All (IsShortPrintable 128)) (sym (whole_line (field_text look field) own.0)) (All-cons (IsShortPrintable 128) (field_text look field) [] own (All-nil (IsShortPrintable 128)))
  where
    unless : IsShortPrintable 128 (unless_blank field)
    unless = unless_blank-keeps (IsShortPrintable 128) field (refl, omega arith) (printable, omega (arith, few))

    by_markdown : (is_markdown : Bool) → IsShortPrintable 128 (if is_markdown then marked (cleaned false field) else unless_blank (cleaned look.has_sequences field))
    by_markdown true = subst (λ (t : Text). IsShortPrintable 128 (marked t)) (sym (cleaned-printable false field printable)) (marked_is_short field (printable, few))
    by_markdown false = subst (λ (t : Text). IsShortPrintable 128 (unless_blank t)) (sym (cleaned-printable look.has_sequences field printable)) unless

    own : IsShortPrintable 128 (field_text look field)
    own = by_markdown look.is_markdown

-- the cell of a field of printable ASCII, if it isn't blank and isn't for Markdown
pub printable_cell : (look : Look) (alignment : Option CellAlignment) (field : Text) (cell : CellValue) → look.is_markdown ≡ false → is_blank field ≡ false
    → (if is_printable_ascii field then Some (record (plain_cell field) { alignment = alignment }) else None) ≡ Some cell
    → cell ≡ cell_for look alignment field
printable_cell look alignment field cell unmarked filled = by_test (is_printable_ascii field) refl
  where
    aligned : Text → CellValue
    aligned text = record (plain_cell text) { alignment = alignment }

    stays : is_printable_ascii field ≡ true → field ≡ field_text look field
    stays printable =
        sym (ap (λ (b : Bool). if b then marked (cleaned false field) else unless_blank (cleaned look.has_sequences field)) unmarked
        ∙ ap unless_blank (cleaned-printable look.has_sequences field printable)
        ∙ ap (λ (b : Bool). if b then [] else field) filled)

    by_test : (b : Bool) → is_printable_ascii field ≡ b → (if b then Some (aligned field) else None) ≡ Some cell → cell ≡ cell_for look alignment field
    by_test true printable is = cc is ∙ ap aligned (stays printable)
    by_test false printable is = absurd (cc is)
