-- The only control characters of a cleaned field are line feeds, and those of kept sequences. It stays as it is when it
-- is cleaned again.
use Rattle.std.proofs.Common.{◌≡◌, ◌⊎◌, inl, inr, ◌==◌, ◌&&◌, ◌||◌, ◌<◌, ◌≤◌, ◌%◌, ℕ, Bool, true, false, List, [], ◌∷◌, ◌++◌, chars, codes, encode_utf8, encode_utf8_all, fold, refl, sym, ap, ◌∙◌, subst, arith, tests, append_assoc, append-nil}
use Rattle.std.proofs.Math.Utf8.{scalar as scalar_of}
use Rattle.std.proofs.lemmas.Bool.{and_parts, or_from, or_parts}
use Rattle.std.proofs.lemmas.List.Folds.{list_any-append}
use Rattle.std.proofs.lemmas.Str.{IsUtf8-append, IsUtf8-from_ascii, IsUtf8-nil, chars-encodes, encodes-append, scalars-chars}
use Rattle.std.specs.List.{list_any}
use Rattle.std.specs.Prelude.{if◌then◌else◌}
use Rattle.std.specs.Str.{IsUtf8, all_scalars}
use lib.Utf8.{encode}
use Rattle.comfy_parts.proofs.CallerLemmas.{AreScanned, HasNo-append, IsSequence, Shows-clear, Shows-sequence, bytes_of, encoded_clear, scalars-parts, scan}
use Rattle.comfy_parts.specs.Text.{HasNo, Text, measure}
use Rattle.comfy_parts.specs.VisibleText.{Part, parts}
use Rattle.csv_records.proofs.PieceLemmas.{sequence-IsAscii, sequence_of}
use Rattle.csv_records.proofs.CleaningLemmas.{Stays, Stays-append, Stays-characters, Stays-nil, Stays-sequence, each_character, no_escape, stays_cleaned}
use Rattle.csv_records.specs.Cleaning.{CleanedText, HoldsNoControls, IsCleanedOnce, after_character, after_piece, blanks_after, blanks_at, cleaned, is_harmful, is_replaced, pieces, shown, start, visible_of}

-- ---- texts that show harmless characters

-- before any rest, the text shows harmless characters
record IsHarmless (kept : Bool) (text : Text) : Type 0 where
  seen : List ℕ
  scalars : all_scalars seen ≡ true
  harmless : list_any is_harmful seen ≡ false
  shows : (rest : Text) → visible_of kept (text ++ rest) ≡ encode_utf8_all seen ++ visible_of kept rest
  utf8 : IsUtf8 text
  stays : Stays kept text

scalars-append : (xs ys : List ℕ) → all_scalars xs ≡ true → all_scalars ys ≡ true → all_scalars (xs ++ ys) ≡ true
scalars-append [] ys front back = back
scalars-append (x ∷ xs) ys front back =
    let both = and_parts (scalar_of x) (all_scalars xs) front in
    rw both.0 (scalars-append xs ys both.1 back)

no_escapes : (kept : Bool) (cs : List ℕ) → list_any is_harmful cs ≡ false → HasNo 0x1B (encode_utf8_all cs)
no_escapes kept [] harmless = refl
no_escapes kept (c ∷ cs) harmless =
    let each = or_parts (is_harmful c) (list_any is_harmful cs) harmless in
    HasNo-append 0x1B (encode_utf8 c) (encode_utf8_all cs) (encoded_clear 0x1B c (omega arith) (no_escape kept c each.0)) (no_escapes kept cs each.1)

module _ (kept : Bool) where
  Harmless-nil : IsHarmless kept []
  Harmless-nil = record { seen = []; scalars = refl; harmless = refl; shows = λ rest. refl; utf8 = IsUtf8-nil; stays = Stays-nil kept }

  Harmless-append : (xs ys : Text) → IsHarmless kept xs → IsHarmless kept ys → IsHarmless kept (xs ++ ys)
  Harmless-append xs ys front back =
      record {
        seen = front.seen ++ back.seen;
        scalars = scalars-append front.seen back.seen front.scalars back.scalars;
        harmless = list_any-append is_harmful front.seen back.seen ∙ or_from (list_any is_harmful front.seen) (list_any is_harmful back.seen) front.harmless back.harmless;
        shows = λ rest.
            ap (visible_of kept) (append_assoc xs ys rest)
            ∙ front.shows (ys ++ rest)
            ∙ ap (λ (t : Text). encode_utf8_all front.seen ++ t) (back.shows rest)
            ∙ sym (append_assoc (encode_utf8_all front.seen) (encode_utf8_all back.seen) (visible_of kept rest))
            ∙ ap (λ (t : Text). t ++ visible_of kept rest) (sym (encodes-append front.seen back.seen));
        utf8 = IsUtf8-append xs ys front.utf8 back.utf8;
        stays = Stays-append kept xs ys front.utf8 front.stays back.stays;
      }

  -- characters show themselves
  Harmless-characters : (cs : List ℕ) → all_scalars cs ≡ true → list_any is_harmful cs ≡ false → IsHarmless kept (encode_utf8_all cs)
  Harmless-characters cs scalars harmless =
      record { seen = cs; scalars = scalars; harmless = harmless; shows = by_kind kept; utf8 = (cs, (scalars, refl)); stays = Stays-characters kept cs scalars harmless }
    where
      by_kind : (keeps : Bool) (rest : Text) → visible_of keeps (encode_utf8_all cs ++ rest) ≡ encode_utf8_all cs ++ visible_of keeps rest
      by_kind true rest = (Shows-clear (encode_utf8_all cs) (no_escapes kept cs harmless)).shows rest
      by_kind false rest = refl

  Harmless-character : (c : ℕ) → scalar_of c ≡ true → is_harmful c ≡ false → IsHarmless kept (encode_utf8 c)
  Harmless-character c scalar harmless =
      subst (IsHarmless kept) (append-nil (encode_utf8 c))
      (Harmless-characters (c ∷ []) (rw scalar refl) (or_from (is_harmful c) false harmless refl))

  -- characters of ASCII that aren't control characters, and the line feed, are harmless
  Harmless-ascii : (c : ℕ) → c < 0x7F → (0x20 ≤ c) ⊎ (c ≡ 0x0A) → is_harmful c ≡ false
  Harmless-ascii c below (inl above) = grind (arith, tests)
  Harmless-ascii c below (inr is) = grind (arith, tests)

  Harmless-line_feed : IsHarmless kept (0x0A ∷ [])
  unfolding encode
  Harmless-line_feed = Harmless-character 0x0A refl (Harmless-ascii 0x0A (omega arith) (inr refl))

  Harmless-space : IsHarmless kept (0x20 ∷ [])
  unfolding encode
  Harmless-space = Harmless-character 0x20 refl (Harmless-ascii 0x20 (omega arith) (inl (omega arith)))

  Harmless-blanks : (column : ℕ) → IsHarmless kept (blanks_at column)
  Harmless-blanks column = by_tests (column == 0) (column == 1) (column == 2)
    where
      more : (text : Text) → IsHarmless kept text → IsHarmless kept (0x20 ∷ text)
      more text is = Harmless-append (0x20 ∷ []) text Harmless-space is

      by_tests : (a b c : Bool) → IsHarmless kept (if a then codes "    " else if b then codes "   " else if c then codes "  " else codes " ")
      by_tests true b c = more (codes "   ") (more (codes "  ") (more (codes " ") Harmless-space))
      by_tests false true c = more (codes "  ") (more (codes " ") Harmless-space)
      by_tests false false true = more (codes " ") Harmless-space
      by_tests false false false = Harmless-space

  -- U+FFFD is no control character, and turns no direction
  Harmless-replacement : is_harmful 0xFFFD ≡ false
  Harmless-replacement = refl

  -- a character as it is drawn is harmless
  Harmless-shown : (c : ℕ) → scalar_of c ≡ true → IsHarmless kept (encode_utf8 (shown c))
  Harmless-shown c scalar = by_test (is_replaced c) refl
    where
      by_test : (b : Bool) → is_replaced c ≡ b → IsHarmless kept (encode_utf8 (if b then 0xFFFD else c))
      by_test true is = Harmless-character 0xFFFD refl Harmless-replacement
      by_test false is = Harmless-character c scalar (rw is refl)

  -- ---- texts that are written

  after-character : (s : CleanedText) (c : ℕ) → scalar_of c ≡ true → IsHarmless kept s.text → IsHarmless kept (after_character s c).text
  after-character s c scalar before = by_tests ((c == 0x0A) && s.after_return) ((c == 0x0A) || (c == 0x0D)) (c == 0x09)
    where
      by_tests : (again break tab : Bool)
          → IsHarmless kept (if again then record s { after_return = false }
          else if break then record { text = s.text ++ 0x0A ∷ []; seen = []; after_return = c == 0x0D }
          else if tab then record { text = s.text ++ blanks_after s.seen; seen = []; after_return = false }
          else record { text = s.text ++ encode_utf8 (shown c); seen = s.seen ++ encode_utf8 (shown c); after_return = false }).text
      by_tests true break tab = before
      by_tests false true tab = Harmless-append s.text (0x0A ∷ []) before Harmless-line_feed
      by_tests false false true = Harmless-append s.text (blanks_after s.seen) before (Harmless-blanks (measure s.seen % 4))
      by_tests false false false = Harmless-append s.text (encode_utf8 (shown c)) before (Harmless-shown c scalar)

  after-characters : (cs : List ℕ) (s : CleanedText) → all_scalars cs ≡ true → IsHarmless kept s.text → IsHarmless kept (fold after_character s cs).text
  after-characters [] s scalars before = before
  after-characters (c ∷ cs) s scalars before =
      let both = and_parts (scalar_of c) (all_scalars cs) scalars in
      after-characters cs (after_character s c) both.1 (after-character s c both.0 before)

  -- no harmful character of such a text is visible
  none_visible : (text : Text) → IsHarmless kept text → list_any is_harmful (chars (visible_of kept text)) ≡ false
  none_visible text is = ap (λ (t : Text). list_any is_harmful (chars t)) whole ∙ ap (list_any is_harmful) (chars-encodes is.seen is.scalars) ∙ is.harmless
    where
      empty : (keeps : Bool) → visible_of keeps [] ≡ []
      empty true = refl
      empty false = refl

      whole : visible_of kept text ≡ encode_utf8_all is.seen
      whole =
          ap (visible_of kept) (sym (append-nil text))
          ∙ is.shows []
          ∙ ap (λ (t : Text). encode_utf8_all is.seen ++ t) (empty kept)
          ∙ append-nil (encode_utf8_all is.seen)

  -- ---- fields

  -- a kept sequence shows nothing
  Harmless-sequence : (text : Text) → kept ≡ true → IsSequence text → IsHarmless kept text
  Harmless-sequence text keeps s =
      record {
        seen = [];
        scalars = refl;
        harmless = refl;
        shows = λ rest.
            subst (λ (b : Bool). visible_of b (text ++ rest) ≡ visible_of b rest) (sym keeps)
            (subst (λ (t : Text). visible_of true (t ++ rest) ≡ visible_of true rest) (sym s.is) ((Shows-sequence s.code s.parameters).shows rest));
        utf8 = subst IsUtf8 (sym s.is) (IsUtf8-from_ascii (sequence_of s.code) (sequence-IsAscii s.code s.parameters));
        stays = Stays-sequence kept text keeps s;
      }

  after-pieces : (ps : List Part) (s : CleanedText) → kept ≡ true → AreScanned ps [] → all_scalars (bytes_of ps) ≡ true → IsHarmless kept s.text → IsHarmless kept (fold after_piece s ps).text
  after-pieces [] s keeps scanned scalars before = before
  after-pieces (p ∷ ps) s keeps (inl part, more) scalars before =
      after-pieces ps (after_piece s p) keeps more (scalars-parts p.bytes (bytes_of ps) scalars).1
      (subst (λ (x : Part). IsHarmless kept (after_piece s x).text) (sym part.is) (Harmless-append s.text p.bytes before (Harmless-sequence p.bytes keeps part.sequence)))
  after-pieces (p ∷ ps) s keeps (inr part, more) scalars before =
      let both = and_parts (scalar_of part.byte) (all_scalars (bytes_of ps)) (ap (λ (x : Part). all_scalars (x.bytes ++ bytes_of ps)) (sym part.is) ∙ scalars) in
      after-pieces ps (after_piece s p) keeps more both.1
      (subst (λ (x : Part). IsHarmless kept (after_piece s x).text) (sym part.is) (after-character s part.byte both.0 before))

  cleaned-harmless : (field : Text) → IsUtf8 field → IsHarmless kept (cleaned kept field)
  cleaned-harmless field utf8 = by_kind kept refl
    where
      by_kind : (keeps : Bool) → kept ≡ keeps → IsHarmless kept (fold after_piece start (pieces keeps (chars field))).text
      by_kind true is =
          let found = scan (chars field) in
          after-pieces (parts (chars field)) start is found.scanned (ap all_scalars found.bytes ∙ scalars-chars field utf8) Harmless-nil
      by_kind false is =
          subst (λ (s : CleanedText). IsHarmless kept s.text) (sym (each_character (chars field) start))
          (after-characters (chars field) start (scalars-chars field utf8) Harmless-nil)

  pub no_controls : (field : Text) → HoldsNoControls kept field
  no_controls field utf8 = none_visible (cleaned kept field) (cleaned-harmless field utf8)

  pub cleaned_once : (field : Text) → IsCleanedOnce kept field
  cleaned_once field utf8 = stays_cleaned kept (cleaned kept field) (cleaned-harmless field utf8).stays

  -- a cleaned field is UTF-8
  pub cleaned_whole : (field : Text) → IsUtf8 field → IsUtf8 (cleaned kept field)
  cleaned_whole field utf8 = (cleaned-harmless field utf8).utf8
