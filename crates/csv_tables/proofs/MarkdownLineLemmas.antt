-- A line of an output for Markdown gives back its fields.
use Rattle.std.proofs.Common.{◌≡◌, ◌==◌, ℕ, zero, suc, Bool, true, false, List, [], ◌∷◌, ◌++◌, Option, Some, None, arith, chars, cond, codes, encode_utf8_all, flat_map, length, map, ◌<◌, refl, ap, ap₂, sym, ◌∙◌, subst, append_assoc}
use Rattle.std.specs.List.{All, AllZip}
use Rattle.std.specs.Str.{IsUtf8, all_scalars}
use Rattle.std.proofs.Math.Utf8.{scalar as scalar_of}
use Rattle.std.proofs.lemmas.Bool.{and_parts}
use Rattle.std.proofs.lemmas.List.Elements.{All-head, All-tail}
use Rattle.std.proofs.lemmas.Str.{chars_from_encodes, encode_ascii, encodes-append, scalars-chars}
use lib.Utf8.{encode}
use Rattle.comfy_parts.specs.Text.{Text, spaces}
use Rattle.comfy_table.specs.Frame.{content_line}
use Rattle.csv_tables.specs.Cells.{Shown, field_text, marked}
use Rattle.csv_records.specs.Cleaning.{cleaned}
use Rattle.csv_tables.specs.Markdown.{escaped, escaped_after, escaped_character, is_marked_at, is_special}
use Rattle.csv_tables.specs.declared.options.Look.{Look}
use Rattle.csv_records.proofs.ControlLemmas.{cleaned_whole}
use Rattle.csv_tables.proofs.MarkdownPartLemmas.{part_and_bar, spaced, spaced-read}
use Rattle.csv_tables.specs.Drawn.{markdown_look, markdown_style}
use Rattle.csv_tables.specs.MarkdownLines.{parts_between_bars, read_part, without_outer_spaces}

-- ---- what is read back

-- the characters of a field that can be read back: those that are drawn
abbrev pub read_field : Text → List ℕ
read_field field = without_outer_spaces (chars (cleaned false field))

-- between its outer bars a line has a part for each text that is shown, and gives it back
abbrev pub GivesBack : List Shown → Text → Type 0
GivesBack shown line =
    map read_part (parts_between_bars (chars line))
    ≡ [] ∷ (map (λ (s : Shown). read_field s.text) shown ++ [] ∷ [])

-- ---- characters

scalars-append : (xs ys : List ℕ) → all_scalars xs ≡ true → all_scalars ys ≡ true → all_scalars (xs ++ ys) ≡ true
scalars-append [] ys front back = back
scalars-append (x ∷ xs) ys front back =
    let both = and_parts (scalar_of x) (all_scalars xs) front in
    rw both.0 (scalars-append xs ys both.1 back)

-- a text is the UTF-8 of these characters
record Spells (cs : List ℕ) (text : Text) : Type 0 where
  scalar : all_scalars cs ≡ true
  spelled : encode_utf8_all cs ≡ text

Spells-append : (cs ds : List ℕ) (text more : Text) → Spells cs text → Spells ds more → Spells (cs ++ ds) (text ++ more)
Spells-append cs ds text more one other =
    record { scalar = scalars-append cs ds one.scalar other.scalar; spelled = encodes-append cs ds ∙ ap₂ (λ a b. a ++ b) one.spelled other.spelled }

Spells-nil : Spells [] []
Spells-nil = record { scalar = refl; spelled = refl }

Spells-ascii : (c : ℕ) → c < 128 → all_scalars (c ∷ []) ≡ true → Spells (c ∷ []) (c ∷ [])
Spells-ascii c low scalar = record { scalar = scalar; spelled = ap (λ (t : Text). t ++ []) (encode_ascii c low) }

Spells-spaces : (n : ℕ) → Spells (spaces n) (spaces n)
Spells-spaces zero = Spells-nil
Spells-spaces (suc n) = Spells-append (0x20 ∷ []) (spaces n) (0x20 ∷ []) (spaces n) (Spells-ascii 0x20 (omega arith) refl) (Spells-spaces n)

-- the characters of a text are scalar values, and so are the escaped ones
escaped-scalars : (is_marked : Bool) (before : Option ℕ) (cs : List ℕ) → all_scalars cs ≡ true → all_scalars (escaped_after is_marked before cs) ≡ true
escaped-scalars is_marked before [] all = refl
escaped-scalars is_marked before (c ∷ cs) all =
    let both = and_parts (scalar_of c) (all_scalars cs) all in
    let here = is_marked_at is_marked before (c ∷ cs) in
    let special = is_special here before c cs in
    scalars-append (escaped_character special c) (escaped_after here (Some c) cs) (by_tests (c == 0x0A) special both.0) (escaped-scalars here (Some c) cs both.1)
  where
    by_tests : (feed special : Bool) → scalar_of c ≡ true → all_scalars (cond feed (codes "<br>") (cond special (0x5C ∷ c ∷ []) (c ∷ []))) ≡ true
    by_tests true special own = refl
    by_tests false true own = rw own refl
    by_tests false false own = rw own refl

Spells-marked : (text : Text) → IsUtf8 text → Spells (escaped (chars text)) (marked text)
Spells-marked text utf8 = record { scalar = escaped-scalars false None (chars text) (scalars-chars text utf8); spelled = refl }

Spells-spaced : (a : ℕ) (text : Text) (b : ℕ) → IsUtf8 text → Spells (spaced a (chars text) b) (spaces a ++ (marked text ++ spaces b))
Spells-spaced a text b utf8 =
    Spells-append (spaces a) (escaped (chars text) ++ spaces b) (spaces a) (marked text ++ spaces b) (Spells-spaces a)
    (Spells-append (escaped (chars text)) (spaces b) (marked text) (spaces b) (Spells-marked text utf8) (Spells-spaces b))

-- the characters are those of the text
chars_of : (cs : List ℕ) (text : Text) → Spells cs text → chars text ≡ cs
chars_of cs text own = sym (chars_from_encodes cs text (cs, (own.scalar, own.spelled)) own.spelled)

-- ---- a line of pieces

-- a piece of a line is a field as it is drawn between spaces
abbrev pub IsPiece : Look → Shown → Text → Type 0
IsPiece look shown piece = (a : ℕ) × (b : ℕ) × (piece ≡ spaces a ++ (field_text (markdown_look look) shown.text ++ spaces b))

-- the text is UTF-8
abbrev pub IsWhole : Shown → Type 0
IsWhole shown = IsUtf8 shown.text

module _ (look : Look) where
  -- the characters that are read from the columns
  abbrev read_columns : List Shown → List (List ℕ)
  read_columns columns = map (λ (shown : Shown). read_field shown.text) columns

  -- pieces, each with a bar after it, as characters
  record AreRead (columns : List Shown) (text : Text) : Type 0 where
    cs : List ℕ
    spells : Spells cs text
    reads : map read_part (parts_between_bars cs) ≡ read_columns columns ++ [] ∷ []

  pieces_read : (columns : List Shown) (pieces : List Text) → All IsWhole columns → AllZip (IsPiece look) columns pieces → AreRead columns (flat_map (λ (piece : Text). piece ++ 0x7C ∷ []) pieces)
  pieces_read [] [] whole each = record { cs = []; spells = Spells-nil; reads = refl }
  pieces_read [] (piece ∷ pieces) whole each = absurd each
  pieces_read (column ∷ columns) [] whole each = absurd each
  pieces_read (column ∷ columns) (piece ∷ pieces) whole ((a, b, is), each) =
      let more = pieces_read columns pieces (All-tail IsWhole column columns whole) each in
      let field = column.text in
      let text = cleaned false field in
      let own : Spells (spaced a (chars text) b) piece = subst (Spells (spaced a (chars text) b)) (sym is) (Spells-spaced a text b (cleaned_whole false field (All-head IsWhole column columns whole))) in
      let part = spaced a (chars text) b in
      let rest = flat_map (λ (piece : Text). piece ++ 0x7C ∷ []) pieces in
      record {
        cs = (part ++ 0x7C ∷ []) ++ more.cs;
        spells = Spells-append (part ++ 0x7C ∷ []) more.cs (piece ++ 0x7C ∷ []) rest (Spells-append part (0x7C ∷ []) piece (0x7C ∷ []) own (Spells-ascii 0x7C (omega arith) refl)) more.spells;
        reads =
            ap (λ (cs : List ℕ). map read_part (parts_between_bars cs)) (append_assoc part (0x7C ∷ []) more.cs) ∙ ap (map read_part) (part_and_bar a (chars text) b more.cs)
            ∙ ap₂ (λ (t : List ℕ) (ts : List (List ℕ)). t ∷ ts) (spaced-read a (chars text) b) more.reads;
      }

  -- bars between pieces and one at the end are a bar after each piece
  bars_after : (piece : Text) (pieces : List Text) → (piece ++ flat_map (λ (p : Text). 0x7C ∷ p) pieces) ++ 0x7C ∷ [] ≡ flat_map (λ (p : Text). p ++ 0x7C ∷ []) (piece ∷ pieces)
  bars_after piece [] = append_assoc piece [] (0x7C ∷ []) ∙ sym (append_assoc piece (0x7C ∷ []) [])
  bars_after piece (next ∷ pieces) =
      append_assoc piece (0x7C ∷ (next ++ flat_map (λ (p : Text). 0x7C ∷ p) pieces)) (0x7C ∷ []) ∙ ap (λ (t : Text). piece ++ 0x7C ∷ t) (bars_after next pieces)
      ∙ sym (append_assoc piece (0x7C ∷ []) (flat_map (λ (p : Text). p ++ 0x7C ∷ []) (next ∷ pieces)))

  bar : encode 0x7C ≡ 0x7C ∷ []
  bar = encode_ascii 0x7C (omega arith)

  -- a line with bars gives back the fields
  pub gives_back : (columns : List Shown) (pieces : List Text) → 0 < length columns → All IsWhole columns → AllZip (IsPiece look) columns pieces → GivesBack columns (content_line markdown_style markdown_style.content_lines pieces)
  gives_back [] pieces some whole each = absurd (omega (arith, some))
  gives_back (column ∷ columns) [] some whole each = absurd each
  gives_back (column ∷ columns) (piece ∷ pieces) some whole each =
      let read = pieces_read (column ∷ columns) (piece ∷ pieces) whole each in
      let line : content_line markdown_style markdown_style.content_lines (piece ∷ pieces) ≡ 0x7C ∷ flat_map (λ (p : Text). p ++ 0x7C ∷ []) (piece ∷ pieces) =
      ap (λ (b : Text). b ++ ((piece ++ flat_map (λ (p : Text). b ++ p) pieces) ++ b)) bar ∙ ap (λ (t : Text). 0x7C ∷ t) (bars_after piece pieces) in
      let spells : Spells (0x7C ∷ read.cs) (content_line markdown_style markdown_style.content_lines (piece ∷ pieces)) =
      subst (Spells (0x7C ∷ read.cs)) (sym line) (Spells-append (0x7C ∷ []) read.cs (0x7C ∷ []) (flat_map (λ (p : Text). p ++ 0x7C ∷ []) (piece ∷ pieces)) (Spells-ascii 0x7C (omega arith) refl) read.spells) in
      ap (λ (cs : List ℕ). map read_part (parts_between_bars cs)) (chars_of (0x7C ∷ read.cs) _ spells) ∙ ap (λ (ts : List (List ℕ)). [] ∷ ts) read.reads
