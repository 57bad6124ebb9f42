-- A cleaned field has the characters of the field, spaces, line feeds and U+FFFD, and no others.
use Rattle.std.proofs.Common.{◌≡◌, ◌==◌, ◌&&◌, ◌||◌, ◌%◌, ℕ, Bool, true, false, List, [], ◌∷◌, ◌++◌, append-nil, arith, chars, codes, encode_utf8, encode_utf8_all, eqb-true, fold, refl, sym, ap, ap₂, ◌∙◌, subst}
use Rattle.std.proofs.Math.Utf8.{scalar as scalar_of}
use Rattle.std.proofs.lemmas.Bool.{and_parts}
use Rattle.std.proofs.lemmas.List.Elements.{All-cons, All-head, All-nil, All-tail, All-weaker}
use Rattle.std.proofs.lemmas.List.Folds.{list_all-append}
use Rattle.std.proofs.lemmas.Str.{chars-encodes, encodes-append, scalars-chars, chars-nil}
use Rattle.std.specs.List.{All, list_all}
use Rattle.std.specs.Prelude.{if◌then◌else◌}
use Rattle.std.specs.Str.{IsUtf8, all_scalars}
use lib.Utf8.{encode}
use Rattle.comfy_parts.proofs.CallerLemmas.{encoded_clear}
use Rattle.comfy_parts.specs.CellValue.{plain_cell}
use Rattle.comfy_parts.specs.Text.{Text, measure}
use Rattle.csv_records.proofs.CleaningLemmas.{each_character}
use Rattle.csv_tables.proofs.TextLineLemmas.{lines-front, lines_of, text_lines}
use Rattle.csv_tables.specs.Cells.{field_text, marked, unless_blank}
use Rattle.csv_records.specs.Cleaning.{CleanedText, after_character, blanks_after, blanks_at, cleaned, is_replaced, shown, start}
use Rattle.csv_tables.specs.declared.options.Look.{Look}
use Rattle.csv_tables.proofs.TextTableLemmas.{EachLine}
use Rattle.csv_tables.proofs.BlankLemmas.{unless_blank-keeps}

-- a text is made of characters that pass
pub record IsMadeOf (p : ℕ → Bool) (text : Text) : Type 0 where
  pub characters : List ℕ
  pub scalars : all_scalars characters ≡ true
  pub spell : encode_utf8_all characters ≡ text
  pub pass : list_all p characters ≡ true

-- all characters of a text pass, if it is made of characters that pass
pub made_passes : (p : ℕ → Bool) (text : Text) → IsMadeOf p text → list_all p (chars text) ≡ true
made_passes p text is = ap (λ (t : Text). list_all p (chars t)) (sym is.spell) ∙ ap (list_all p) (chars-encodes is.characters is.scalars) ∙ is.pass

pub scalars-append : (xs ys : List ℕ) → all_scalars xs ≡ true → all_scalars ys ≡ true → all_scalars (xs ++ ys) ≡ true
scalars-append [] ys front back = back
scalars-append (x ∷ xs) ys front back =
    let both = and_parts (scalar_of x) (all_scalars xs) front in
    rw both.0 (scalars-append xs ys both.1 back)

module _ (p : ℕ → Bool) where
  made-nil : IsMadeOf p []
  made-nil = record { characters = []; scalars = refl; spell = refl; pass = refl }

  made-append : (text other : Text) → IsMadeOf p text → IsMadeOf p other → IsMadeOf p (text ++ other)
  made-append text other own more =
      record {
        characters = own.characters ++ more.characters;
        scalars = scalars-append own.characters more.characters own.scalars more.scalars;
        spell = encodes-append own.characters more.characters ∙ ap₂ (λ (a b : Text). a ++ b) own.spell more.spell;
        pass = list_all-append p own.characters more.characters ∙ ap₂ (λ a b. a && b) own.pass more.pass;
      }

  made-one : (c : ℕ) → scalar_of c ≡ true → p c ≡ true → IsMadeOf p (encode_utf8 c)
  made-one c scalar passes = record { characters = c ∷ []; scalars = rw scalar refl; spell = append-nil (encode_utf8 c); pass = rw passes refl }

-- ---- lines

-- the text lines of characters have the characters that aren't line feeds
module _ (p : ℕ → Bool) where
  abbrev or_feed : ℕ → Bool
  or_feed c = p c || (c == 0x0A)

  after_feed : (text : Text) → All (IsMadeOf p) (text_lines text) → All (IsMadeOf p) (text_lines (encode_utf8 0x0A ++ text))
  unfolding encode
  after_feed text each = All-cons (IsMadeOf p) [] (text_lines text) (made-nil p) each

  with_character : (c : ℕ) (text : Text) → scalar_of c ≡ true → p c ≡ true → (c == 0x0A) ≡ false → All (IsMadeOf p) (text_lines text) → All (IsMadeOf p) (text_lines (encode_utf8 c ++ text))
  with_character c text scalar passes other each =
      let lines = lines_of text in
      let own : All (IsMadeOf p) (lines.first ∷ lines.others) = subst (All (IsMadeOf p)) lines.are each in
      subst (All (IsMadeOf p)) (sym (lines-front (encode_utf8 c) text (encoded_clear 0x0A c (omega arith) other) lines.first lines.others lines.are))
      (All-cons (IsMadeOf p) (encode_utf8 c ++ lines.first) lines.others (made-append p (encode_utf8 c) lines.first (made-one p c scalar passes) (All-head (IsMadeOf p) lines.first lines.others own)) (All-tail (IsMadeOf p) lines.first lines.others own))

  pub lines_made : (cs : List ℕ) → all_scalars cs ≡ true → list_all or_feed cs ≡ true → All (IsMadeOf p) (text_lines (encode_utf8_all cs))
  lines_made [] scalars pass = All-cons (IsMadeOf p) [] [] (made-nil p) (All-nil (IsMadeOf p))
  lines_made (c ∷ cs) scalars pass =
      let both = and_parts (scalar_of c) (all_scalars cs) scalars in
      let each = and_parts (or_feed c) (list_all or_feed cs) pass in
      by_test (c == 0x0A) refl both.0 each.0 (lines_made cs both.1 each.1)
    where
      own : (passes feed : Bool) → (passes || feed) ≡ true → feed ≡ false → passes ≡ true
      own true feed either none = refl
      own false feed either none = absurd (cc (either, none))

      by_test : (t : Bool) → (c == 0x0A) ≡ t → scalar_of c ≡ true → or_feed c ≡ true → All (IsMadeOf p) (text_lines (encode_utf8_all cs)) → All (IsMadeOf p) (text_lines (encode_utf8 c ++ encode_utf8_all cs))
      by_test true is scalar either rest =
          subst (λ (n : ℕ). All (IsMadeOf p) (text_lines (encode_utf8 n ++ encode_utf8_all cs))) (sym (eqb-true c 0x0A is)) (after_feed (encode_utf8_all cs) rest)
      by_test false is scalar either rest = with_character c (encode_utf8_all cs) scalar (own (p c) (c == 0x0A) either is) is rest

-- ---- cleaning

module _ (p : ℕ → Bool) (space : p 0x20 ≡ true) (replacement : p 0xFFFD ≡ true) where
  abbrev q : ℕ → Bool
  q c = or_feed p c

  passes : (c : ℕ) → p c ≡ true → q c ≡ true
  passes c own = ap (λ b. b || (c == 0x0A)) own

  made-feed : IsMadeOf q (0x0A ∷ [])
  unfolding encode
  made-feed = made-one q 0x0A refl (or_feed_passes (p 0x0A))
    where
      or_feed_passes : (b : Bool) → (b || true) ≡ true
      or_feed_passes true = refl
      or_feed_passes false = refl

  made-space : IsMadeOf q (0x20 ∷ [])
  unfolding encode
  made-space = made-one q 0x20 refl (passes 0x20 space)

  made-blanks : (column : ℕ) → IsMadeOf q (blanks_at column)
  made-blanks column = by_tests (column == 0) (column == 1) (column == 2)
    where
      more : (text : Text) → IsMadeOf q text → IsMadeOf q (0x20 ∷ text)
      more text is = made-append q (0x20 ∷ []) text made-space is

      by_tests : (a b c : Bool) → IsMadeOf q (if a then codes "    " else if b then codes "   " else if c then codes "  " else codes " ")
      by_tests true b c = more (codes "   ") (more (codes "  ") (more (codes " ") made-space))
      by_tests false true c = more (codes "  ") (more (codes " ") made-space)
      by_tests false false true = more (codes " ") made-space
      by_tests false false false = made-space

  made-shown : (c : ℕ) → scalar_of c ≡ true → p c ≡ true → IsMadeOf q (encode_utf8 (shown c))
  made-shown c scalar own = by_test (is_replaced c)
    where
      by_test : (b : Bool) → IsMadeOf q (encode_utf8 (if b then 0xFFFD else c))
      by_test true = made-one q 0xFFFD refl (passes 0xFFFD replacement)
      by_test false = made-one q c scalar (passes c own)

  after-one : (s : CleanedText) (c : ℕ) → scalar_of c ≡ true → p c ≡ true → IsMadeOf q s.text → IsMadeOf q (after_character s c).text
  after-one s c scalar own before = by_tests ((c == 0x0A) && s.after_return) ((c == 0x0A) || (c == 0x0D)) (c == 0x09)
    where
      by_tests : (again break tab : Bool)
          → IsMadeOf q (if again then record s { after_return = false }
          else if break then record { text = s.text ++ 0x0A ∷ []; seen = []; after_return = c == 0x0D }
          else if tab then record { text = s.text ++ blanks_after s.seen; seen = []; after_return = false }
          else record { text = s.text ++ encode_utf8 (shown c); seen = s.seen ++ encode_utf8 (shown c); after_return = false }).text
      by_tests true break tab = before
      by_tests false true tab = made-append q s.text (0x0A ∷ []) before made-feed
      by_tests false false true = made-append q s.text (blanks_after s.seen) before (made-blanks (measure s.seen % 4))
      by_tests false false false = made-append q s.text (encode_utf8 (shown c)) before (made-shown c scalar own)

  after-all : (cs : List ℕ) (s : CleanedText) → all_scalars cs ≡ true → list_all p cs ≡ true → IsMadeOf q s.text → IsMadeOf q (fold after_character s cs).text
  after-all [] s scalars own before = before
  after-all (c ∷ cs) s scalars own before =
      let both = and_parts (scalar_of c) (all_scalars cs) scalars in
      let each = and_parts (p c) (list_all p cs) own in
      after-all cs (after_character s c) both.1 each.1 (after-one s c both.0 each.0 before)

  cleaned_made : (field : Text) → IsUtf8 field → list_all p (chars field) ≡ true → IsMadeOf q (cleaned false field)
  cleaned_made field utf8 own =
      subst (λ (s : CleanedText). IsMadeOf q s.text) (sym (each_character (chars field) start)) (after-all (chars field) start (scalars-chars field utf8) own (made-nil q))

-- if the characters of a field pass, and spaces and U+FFFD do, those of the drawn text lines pass too
pub lines_pass : (p : ℕ → Bool) → p 0x20 ≡ true → p 0xFFFD ≡ true → (look : Look) → look.is_markdown ≡ false → look.has_sequences ≡ false → (field : Text) → IsUtf8 field → list_all p (chars field) ≡ true
    → EachLine (λ (line : Text). list_all p (chars line) ≡ true) look field
lines_pass p space replacement look none unkept field utf8 own =
    subst (λ (text : Text). All Passes (plain_cell text).text_lines) (sym same)
    (unless_blank-keeps (λ (text : Text). All Passes (plain_cell text).text_lines) (cleaned false field) (All-cons Passes [] [] none_left (All-nil Passes))
    (All-weaker (IsMadeOf p) Passes (made_passes p) (text_lines (cleaned false field))
    (subst (λ (text : Text). All (IsMadeOf p) (text_lines text)) made.spell (lines_made p made.characters made.scalars made.pass))))
  where
    Passes : Text → Type 0
    Passes line = list_all p (chars line) ≡ true

    none_left : Passes []
    none_left = ap (list_all p) chars-nil

    made : IsMadeOf (or_feed p) (cleaned false field)
    made = cleaned_made p space replacement field utf8 own

    same : field_text look field ≡ unless_blank (cleaned false field)
    same = ap₂ (λ (m keeps : Bool). if m then marked (cleaned false field) else unless_blank (cleaned keeps field)) none unkept
