-- If no harmful character is visible in a text, no replaced character is visible in its text lines, since no sequence
-- spans a line feed.
use Rattle.std.proofs.Common.{◌≡◌, ℕ, inl, inr, Bool, true, false, cond, ◌==◌, ◌&&◌, not, List, [], ◌∷◌, ◌++◌, encode_utf8, encode_utf8_all, map, refl, sym, ap, ◌∙◌, subst, arith, append-nil, eqb-true}
use Rattle.std.proofs.lemmas.Bool.{or_parts}
use Rattle.std.proofs.lemmas.List.Elements.{All-cons, All-head, All-nil, All-tail}
use Rattle.std.proofs.lemmas.List.Splits.{slice_split-cons_no}
use Rattle.std.proofs.lemmas.Str.{NoCharPasses-append, NoCharPasses-nil}
use Rattle.std.specs.List.{All, flat_map, list_any, onto_first, slice_split}
use Rattle.std.specs.Str.{NoCharPasses, NonePass}
use lib.Utf8.{encode}
use Rattle.comfy_parts.proofs.CallerLemmas.{All-of_map, AreScanned, Shows-byte, Shows-sequence, bytes_of, encoded_clear, none_by_characters, scan, sequence_clear}
use Rattle.comfy_parts.specs.CellValue.{plain_cell}
use Rattle.comfy_parts.specs.Text.{HasNo, Text}
use Rattle.comfy_parts.specs.VisibleText.{Part, parts, visible_bytes, visible_text}
use Rattle.csv_records.proofs.PieceLemmas.{sequence_of}
use Rattle.csv_records.specs.Cleaning.{is_harmful, is_replaced, visible_of}
use Rattle.csv_tables.specs.Controls.{HasNothingHarmful}

-- ---- the first text line

-- the text lines of a text
abbrev pub text_lines : Text → List Text
text_lines text = slice_split (λ b. b == 0x0A) text

-- the text has these text lines
pub record AreLines (text : Text) : Type 0 where
  pub first : Text
  pub others : List Text
  pub are : text_lines text ≡ first ∷ others

-- the text lines after a first byte that isn't a line feed
lines-byte : (b : ℕ) (text : Text) → (b == 0x0A) ≡ false → AreLines text → AreLines (b ∷ text)
lines-byte b text other lines =
    record { first = b ∷ lines.first; others = lines.others; are = slice_split-cons_no (λ x. x == 0x0A) b text other ∙ ap (onto_first b) lines.are }

pub lines_of : (text : Text) → AreLines text
lines_of [] = record { first = []; others = []; are = refl }
lines_of (b ∷ bs) = by_test (b == 0x0A) refl (lines_of bs)
  where
    by_test : (t : Bool) → (b == 0x0A) ≡ t → AreLines bs → AreLines (b ∷ bs)
    by_test true is more = record { first = []; others = text_lines bs; are = ap (λ t. cond t ([] ∷ text_lines bs) (onto_first b (text_lines bs))) is }
    by_test false is more = lines-byte b bs is more

-- the first text line after a prefix without line feeds
pub lines-front : (front text : Text) → HasNo 0x0A front → (first : Text) (others : List Text) → text_lines text ≡ first ∷ others → text_lines (front ++ text) ≡ (front ++ first) ∷ others
lines-front [] text clear first others are = are
lines-front (b ∷ bs) text clear first others are =
    let each = or_parts (b == 0x0A) (list_any (λ x. x == 0x0A) bs) clear in
    slice_split-cons_no (λ x. x == 0x0A) b (bs ++ text) each.0 ∙ ap (onto_first b) (lines-front bs text each.1 first others are)

-- ---- texts without harmful characters

-- a harmless character that isn't a line feed isn't replaced
harmless_is_plain : (c : ℕ) → is_harmful c ≡ false → (c == 0x0A) ≡ false → is_replaced c ≡ false
harmless_is_plain c harmless other = by_test (is_replaced c) (c == 0x0A) harmless other
  where
    by_test : (control feed : Bool) → (control && not feed) ≡ false → feed ≡ false → control ≡ false
    by_test false feed harmless other = refl
    by_test true false harmless other = absurd (cc harmless)
    by_test true true harmless other = absurd (cc other)

module _ where
  abbrev IsPlain : Text → Type 0
  IsPlain text = NoCharPasses is_replaced text

  after_line_feed : (text : Text) → All IsPlain (text_lines text) → All IsPlain (text_lines (encode_utf8 0x0A ++ text))
  unfolding encode
  after_line_feed text each = All-cons IsPlain [] (text_lines text) (NoCharPasses-nil is_replaced) each

  with_character : (c : ℕ) (text : Text) → is_replaced c ≡ false → (c == 0x0A) ≡ false → All IsPlain (text_lines text) → All IsPlain (text_lines (encode_utf8 c ++ text))
  with_character c text plain other each =
      let lines = lines_of text in
      let own : All IsPlain (lines.first ∷ lines.others) = subst (All IsPlain) lines.are each in
      let one : IsPlain (encode_utf8 c) = (c ∷ [], append-nil (encode_utf8 c), (plain, tt)) in
      subst (All IsPlain) (sym (lines-front (encode_utf8 c) text (encoded_clear 0x0A c (omega arith) other) lines.first lines.others lines.are))
      (All-cons IsPlain (encode_utf8 c ++ lines.first) lines.others (NoCharPasses-append is_replaced (encode_utf8 c) lines.first one (All-head IsPlain lines.first lines.others own)) (All-tail IsPlain lines.first lines.others own))

  plain_lines : (cs : List ℕ) → NonePass is_harmful cs → All IsPlain (text_lines (encode_utf8_all cs))
  plain_lines [] none = All-cons IsPlain [] [] (NoCharPasses-nil is_replaced) (All-nil IsPlain)
  plain_lines (c ∷ cs) (own, more) = by_test (c == 0x0A) refl (plain_lines cs more)
    where
      by_test : (t : Bool) → (c == 0x0A) ≡ t → All IsPlain (text_lines (encode_utf8_all cs)) → All IsPlain (text_lines (encode_utf8 c ++ encode_utf8_all cs))
      by_test true is rest =
          subst (λ (n : ℕ). All IsPlain (text_lines (encode_utf8 n ++ encode_utf8_all cs))) (sym (eqb-true c 0x0A is)) (after_line_feed (encode_utf8_all cs) rest)
      by_test false is rest = with_character c (encode_utf8_all cs) (harmless_is_plain c own is) is rest

-- ---- what is visible of text lines

-- the visible text lines of a text are the text lines of its visible text
abbrev AreShown : Text → Text → Type 0
AreShown text shown = map visible_text (text_lines text) ≡ text_lines shown

-- `AreShown` also holds with a prefix without line feeds, whose visible text is known
shown-front : (front shown text rest : Text) → HasNo 0x0A front → HasNo 0x0A shown → ((more : Text) → visible_text (front ++ more) ≡ shown ++ visible_text more) → AreShown text rest → AreShown (front ++ text) (shown ++ rest)
shown-front front shown text rest clear own shows are =
    let lines = lines_of text in
    ap (map visible_text) (lines-front front text clear lines.first lines.others lines.are)
    ∙ ap (λ (first : Text). first ∷ map visible_text lines.others) (shows lines.first)
    ∙ sym (lines-front shown rest own (visible_text lines.first) (map visible_text lines.others) (sym are ∙ ap (map visible_text) lines.are))

-- `AreShown` also holds with a line feed before both texts
shown-line_feed : (text rest : Text) → AreShown text rest → AreShown (0x0A ∷ text) (0x0A ∷ rest)
shown-line_feed text rest are = ap (λ (others : List Text). [] ∷ others) are

-- `AreShown` also holds with scanned parts before the texts, if their visible bytes aren't ESC
shown-parts : (ps : List Part) (rest : Text) → AreScanned ps rest → HasNo 0x1B (flat_map visible_bytes ps) → AreShown (bytes_of ps) (flat_map visible_bytes ps)
shown-parts [] rest scanned clear = refl
shown-parts (p ∷ ps) rest (inl part, more) clear =
    let s = part.sequence in
    let after = shown-parts ps rest more (subst (λ (x : Part). HasNo 0x1B (flat_map visible_bytes (x ∷ ps))) part.is clear) in
    subst (λ (x : Part). AreShown (p.bytes ++ bytes_of ps) (flat_map visible_bytes (x ∷ ps))) (sym part.is)
    (subst (λ (t : Text). AreShown (t ++ bytes_of ps) (flat_map visible_bytes ps)) (sym s.is)
    (shown-front (sequence_of s.code) [] (bytes_of ps) (flat_map visible_bytes ps) (sequence_clear s.code s.parameters) refl (Shows-sequence s.code s.parameters).shows after))
shown-parts (p ∷ ps) rest (inr part, more) clear =
    let both = or_parts (part.byte == 0x1B) (list_any (λ x. x == 0x1B) (flat_map visible_bytes ps)) (subst (λ (x : Part). HasNo 0x1B (flat_map visible_bytes (x ∷ ps))) part.is clear) in
    subst (λ (x : Part). AreShown (bytes_of (x ∷ ps)) (flat_map visible_bytes (x ∷ ps))) (sym part.is)
    (by_test part.byte (part.byte == 0x0A) refl both.0 (shown-parts ps rest more both.1))
  where
    by_test : (b : ℕ) (t : Bool) → (b == 0x0A) ≡ t → (b == 0x1B) ≡ false → AreShown (bytes_of ps) (flat_map visible_bytes ps) → AreShown (b ∷ bytes_of ps) (b ∷ flat_map visible_bytes ps)
    by_test b true is visible are =
        subst (λ (n : ℕ). AreShown (n ∷ bytes_of ps) (n ∷ flat_map visible_bytes ps)) (sym (eqb-true b 0x0A is)) (shown-line_feed (bytes_of ps) (flat_map visible_bytes ps) are)
    by_test b false is visible are =
        let clear : HasNo 0x0A (b ∷ []) = rw is refl in
        shown-front (b ∷ []) (b ∷ []) (bytes_of ps) (flat_map visible_bytes ps) clear clear (Shows-byte b visible).shows are

-- ---- text lines without replaced characters

pub lines_without_replaced : (keeps : Bool) (text : Text) → HasNothingHarmful (visible_of keeps text) → All (λ (line : Text). NoCharPasses is_replaced (visible_of keeps line)) (plain_cell text).text_lines
lines_without_replaced false text none = subst (λ (t : Text). All IsPlain (text_lines t)) none.1 (plain_lines none.0 none.2)
lines_without_replaced true text none =
    let clear : HasNo 0x1B (visible_text text) = none_by_characters is_harmful 0x1B (omega arith) refl (visible_text text) none in
    let shown : AreShown text (visible_text text) = subst (λ (t : Text). AreShown t (visible_text text)) (scan text).bytes (shown-parts (parts text) [] (scan text).scanned clear) in
    All-of_map IsPlain visible_text (text_lines text)
    (subst (All IsPlain) (sym shown) (subst (λ (t : Text). All IsPlain (text_lines t)) none.1 (plain_lines none.0 none.2)))
