-- Texts that stay as they are when they are cleaned. Fields without harmful characters are such texts.
use Rattle.std.proofs.Common.{◌≡◌, ◌==◌, ℕ, Bool, true, false, List, [], ◌∷◌, ◌++◌, chars, encode_utf8, encode_utf8_all, fold, map, refl, ap, sym, ◌∙◌, append_assoc, append-nil, eqb-true, arith, subst, tests}
use Rattle.std.proofs.lemmas.Bool.{and_parts, or_parts}
use Rattle.std.proofs.lemmas.List.{map-append}
use Rattle.std.proofs.lemmas.List.Sums.{fold-append}
use Rattle.std.proofs.lemmas.Str.{chars-IsAscii, chars-append, chars-encodes, chars-nil, encodes-chars, scalars-chars}
use Rattle.std.specs.Char.{is_control}
use Rattle.std.specs.Int.{is_in_range}
use Rattle.std.specs.List.{list_any}
use Rattle.std.specs.Str.{IsUtf8, all_scalars, encode_utf8_all}
use lib.Utf8.{encode}
use Rattle.comfy_parts.proofs.CallerLemmas.{IsSequence, IsUtf8-printable, ascii-printable, parts-clear, parts-sequence}
use Rattle.comfy_parts.specs.Cursor.{sequence_part, visible_part}
use Rattle.comfy_parts.specs.Text.{Text, is_printable_ascii}
use Rattle.comfy_parts.specs.VisibleText.{Part, parts}
use Rattle.csv_records.proofs.PieceLemmas.{apart, sequence-IsAscii, sequence_of}
use Rattle.csv_records.specs.Cleaning.{CleanedText, after_character, after_piece, cleaned, is_harmful, is_replaced, pieces, start}

-- ---- characters

-- pieces that are characters are written as these characters are
pub each_character : (cs : List ℕ) (s : CleanedText) → fold after_piece s (map visible_part cs) ≡ fold after_character s cs
each_character [] s = refl
each_character (c ∷ cs) s = each_character cs (after_character s c)

-- no character is harmful if none is replaced
pub none_harmful : (cs : List ℕ) → list_any is_replaced cs ≡ false → list_any is_harmful cs ≡ false
none_harmful [] none = refl
none_harmful (c ∷ cs) none =
    let each = or_parts (is_replaced c) (list_any is_replaced cs) none in
    rw each.0 (none_harmful cs each.1)

-- a harmless character that breaks no line isn't replaced, so it is no control character
other : (c n : ℕ) → is_harmful c ≡ false → (c == 0x0A) ≡ false → is_control n ≡ true → (c == n) ≡ false
other c n harmless no_break control = by_test (c == n) refl
  where
    by_test : (v : Bool) → (c == n) ≡ v → v ≡ false
    by_test false e = refl
    by_test true e = let same : c ≡ n = eqb-true c n e in absurd (grind (arith, same, harmless, no_break, control))

-- ---- texts that stay

-- the pieces of a text, before any rest, are written as they are
pub record Stays (kept : Bool) (text : Text) : Type 0 where
  pub found_as : List Part
  pub found : (rest : List ℕ) → pieces kept (chars text ++ rest) ≡ found_as ++ pieces kept rest
  pub written : (s : CleanedText) → s.after_return ≡ false → ((fold after_piece s found_as).text ≡ s.text ++ text) × ((fold after_piece s found_as).after_return ≡ false)

module _ (kept : Bool) where
  pub Stays-nil : Stays kept []
  Stays-nil =
      record {
        found_as = [];
        found = λ rest. ap (λ (cs : List ℕ). pieces kept (cs ++ rest)) chars-nil;
        written = λ s after. (sym (append-nil s.text), after);
      }

  pub Stays-append : (xs ys : Text) → IsUtf8 xs → Stays kept xs → Stays kept ys → Stays kept (xs ++ ys)
  Stays-append xs ys utf8 front back =
      record {
        found_as = front.found_as ++ back.found_as;
        found = λ rest.
            ap (λ (cs : List ℕ). pieces kept (cs ++ rest)) (chars-append xs ys utf8)
            ∙ ap (pieces kept) (append_assoc (chars xs) (chars ys) rest)
            ∙ front.found (chars ys ++ rest)
            ∙ ap (λ (ps : List Part). front.found_as ++ ps) (back.found rest)
            ∙ sym (append_assoc front.found_as back.found_as (pieces kept rest));
        written = λ s after.
            let first = front.written s after in
            let second = back.written (fold after_piece s front.found_as) first.1 in
            let whole = fold-append after_piece s front.found_as back.found_as in (
              ap (λ (t : CleanedText). t.text) whole ∙ second.0 ∙ ap (λ (t : Text). t ++ ys) first.0 ∙ append_assoc s.text xs ys,
              ap (λ (t : CleanedText). t.after_return) whole ∙ second.1,
            );
      }

  -- a line feed is appended
  line_feed : (s : CleanedText) → s.after_return ≡ false → ((after_character s 0x0A).text ≡ s.text ++ encode_utf8 0x0A) × ((after_character s 0x0A).after_return ≡ false)
  unfolding encode
  line_feed s after = rw after (refl, refl)

  -- every harmless character is appended
  appended : (s : CleanedText) (c : ℕ) → is_harmful c ≡ false → s.after_return ≡ false → ((after_character s c).text ≡ s.text ++ encode_utf8 c) × ((after_character s c).after_return ≡ false)
  appended s c harmless after = by_break (c == 0x0A) refl
    where
      by_break : (v : Bool) → (c == 0x0A) ≡ v → ((after_character s c).text ≡ s.text ++ encode_utf8 c) × ((after_character s c).after_return ≡ false)
      by_break true e = subst (λ (n : ℕ). ((after_character s n).text ≡ s.text ++ encode_utf8 n) × ((after_character s n).after_return ≡ false)) (sym (eqb-true c 0x0A e)) (line_feed s after)
      by_break false e =
          let stays : is_replaced c ≡ false = grind (arith, harmless, e, tests) in
          rw (e, other c 0x0D harmless e refl, other c 0x09 harmless e refl, stays) (refl, refl)

  all_appended : (cs : List ℕ) (s : CleanedText) → list_any is_harmful cs ≡ false → s.after_return ≡ false
      → ((fold after_character s cs).text ≡ s.text ++ encode_utf8_all cs) × ((fold after_character s cs).after_return ≡ false)
  all_appended [] s none after = (sym (append-nil s.text), after)
  all_appended (c ∷ cs) s none after =
      let each = or_parts (is_harmful c) (list_any is_harmful cs) none in
      let first = appended s c each.0 after in
      let others = all_appended cs (after_character s c) each.1 first.1 in
      (others.0 ∙ ap (λ (t : Text). t ++ encode_utf8_all cs) first.0 ∙ append_assoc s.text (encode_utf8 c) (encode_utf8_all cs), others.1)

  -- a harmless character isn't ESC
  pub no_escape : (c : ℕ) → is_harmful c ≡ false → (c == 0x1B) ≡ false
  no_escape c harmless = by_break (c == 0x0A) refl
    where
      by_break : (v : Bool) → (c == 0x0A) ≡ v → (c == 0x1B) ≡ false
      by_break true e = let same : c ≡ 0x0A = eqb-true c 0x0A e in ap (λ (n : ℕ). n == 0x1B) same
      by_break false e = other c 0x1B harmless e refl

  no_escapes : (cs : List ℕ) → list_any is_harmful cs ≡ false → list_any (λ c. c == 0x1B) cs ≡ false
  no_escapes [] none = refl
  no_escapes (c ∷ cs) none =
      let each = or_parts (is_harmful c) (list_any is_harmful cs) none in
      rw (no_escape c each.0) (no_escapes cs each.1)

  -- harmless characters stay
  pub Stays-characters : (cs : List ℕ) → all_scalars cs ≡ true → list_any is_harmful cs ≡ false → Stays kept (encode_utf8_all cs)
  Stays-characters cs scalars none =
      record {
        found_as = map visible_part cs;
        found = λ rest. ap (λ (xs : List ℕ). pieces kept (xs ++ rest)) (chars-encodes cs scalars) ∙ by_kind kept rest;
        written = λ s after.
            let each = each_character cs s in
            let all = all_appended cs s none after in
            (ap (λ (t : CleanedText). t.text) each ∙ all.0, ap (λ (t : CleanedText). t.after_return) each ∙ all.1);
      }
    where
      by_kind : (keeps : Bool) (rest : List ℕ) → pieces keeps (cs ++ rest) ≡ map visible_part cs ++ pieces keeps rest
      by_kind true rest = parts-clear cs rest (no_escapes cs none)
      by_kind false rest = map-append visible_part cs rest

  -- a kept sequence stays
  pub Stays-sequence : (text : Text) → kept ≡ true → IsSequence text → Stays kept text
  Stays-sequence text keeps s =
      record {
        found_as = sequence_part text ∷ [];
        found = λ rest.
            subst (λ (b : Bool). pieces b (chars text ++ rest) ≡ sequence_part text ∷ pieces b rest) (sym keeps)
            (ap (λ (cs : Text). parts (cs ++ rest)) (ap chars s.is ∙ chars-IsAscii (sequence_of s.code) (sequence-IsAscii s.code s.parameters))
            ∙ ap parts (sym (apart s.code rest))
            ∙ parts-sequence s.code rest s.parameters
            ∙ ap (λ (t : Text). sequence_part t ∷ parts rest) (sym s.is));
        written = λ c after. (refl, refl);
      }

  -- a text whose pieces are written as they are is drawn as it is
  pub stays_cleaned : (text : Text) → Stays kept text → cleaned kept text ≡ text
  stays_cleaned text stays =
      ap (λ (ps : List Part). (fold after_piece start ps).text) whole ∙ (stays.written start refl).0
    where
      none : (keeps : Bool) → pieces keeps [] ≡ []
      none true = refl
      none false = refl

      whole : pieces kept (chars text) ≡ stays.found_as
      whole =
          ap (pieces kept) (sym (append-nil (chars text)))
          ∙ stays.found []
          ∙ ap (λ (ps : List Part). stays.found_as ++ ps) (none kept)
          ∙ append-nil stays.found_as

-- a field without harmful characters is drawn as it is
pub harmless_so : (kept : Bool) (field : Text) → IsUtf8 field → list_any is_harmful (chars field) ≡ false → field ≡ cleaned kept field
harmless_so kept field utf8 none =
    sym (stays_cleaned kept field (subst (Stays kept) (encodes-chars field utf8) (Stays-characters kept (chars field) (scalars-chars field utf8) none)))

-- a field without replaced characters is drawn as it is
pub drawn_so : (kept : Bool) (field : Text) → IsUtf8 field → list_any is_replaced (chars field) ≡ false → field ≡ cleaned kept field
drawn_so kept field utf8 none = harmless_so kept field utf8 (none_harmful (chars field) none)

-- printable ASCII isn't replaced
plain : (c : ℕ) → is_in_range 0x20 0x7E c ≡ true → is_replaced c ≡ false
plain c printable = grind (arith, tests)

all_plain : (text : Text) → is_printable_ascii text ≡ true → list_any is_replaced text ≡ false
all_plain [] printable = refl
all_plain (c ∷ cs) printable =
    let both = and_parts (is_in_range 0x20 0x7E c) (is_printable_ascii cs) printable in
    rw (plain c both.0) (all_plain cs both.1)

pub none_replaced : (field : Text) → is_printable_ascii field ≡ true → list_any is_replaced (chars field) ≡ false
none_replaced field printable = ap (list_any is_replaced) (chars-IsAscii field (ascii-printable field printable)) ∙ all_plain field printable

-- a field of printable ASCII stays as it is
pub cleaned-printable : (kept : Bool) (field : Text) → is_printable_ascii field ≡ true → cleaned kept field ≡ field
cleaned-printable kept field printable = sym (drawn_so kept field (IsUtf8-printable field printable) (none_replaced field printable))
