-- Characters that join no other take the same number of terminal columns in every text.
use Rattle.std.proofs.Common.{◌≡◌, ◌≢◌, ◌<◌, ◌≤◌, ℕ, ◌+◌, ◌*◌, ◌/◌, ◌%◌, Bool, true, false, cond, not, ◌&&◌, ◌||◌, ◌==◌, List, ◌∷◌, ◌++◌, drop, Option, Some, None, append-nil, length, nat_le, sum_by, zero-add, [], refl, sym, subst, ap, ap₂, ◌∙◌, arith}
use Rattle.std.specs.Char.{IsScalar}
use Rattle.std.specs.Int.{is_in_range}
use Rattle.std.specs.List.{list_all}
use Rattle.std.specs.Prelude.{if◌then◌else◌, chars, encode_utf8, encode_utf8_all, unwrap_or, IsUtf8}
use Rattle.std.proofs.StrCases.{chars_of_empty}
use Rattle.std.proofs.lemmas.List.{length-append}
use Rattle.std.proofs.lemmas.List.Sums.{sum_by-cons}
use Rattle.std.proofs.lemmas.Str.{IsCharBoundary-past_char, IsUtf8-past_char, chars_past_char, drop_past_char, length-encode}
use Rattle.std.specs.Char.{len_utf8}
use Rattle.std.specs.Str.{IsCharBoundary}
use Rattle.unicode_segmentation.proofs.TextLemmas.{encode_utf8_nonempty}
use Rattle.std.proofs.lemmas.Bool.{eqb-true}
use Rattle.std.proofs.lemmas.Bool.Decides.{nat_tests}
use Rattle.ucd_table.specs.Rows.{in_ranges}
use Rattle.unicode_width.proofs.Rules.{width_or_zero}
use Rattle.unicode_width.specs.declared.kind.Kind.{Kind}
use Rattle.unicode_width.specs.declared.kind.Kind.TheVariants as kinds
use Rattle.unicode_width.specs.Kind.{kind}
use Rattle.unicode_width.specs.Width.{alone, char_width, of_kind}
use Rattle.comfy_parts.specs.Columns.{joining_characters, joins_no_other}
use Rattle.comfy_parts.specs.OwnWidth.{begins_wide, own_width}
use Rattle.comfy_parts.specs.Text.{HasNo, Text, measure}
use Rattle.comfy_parts.specs.TextLines.{IsClearLine}
use Rattle.comfy_parts.proofs.AbsentByteLemmas.{HasNo-append, encoded_clear}
use lib.Dec.{ltb}
use lib.Utf8.{encode}
use Rattle.comfy_parts.proofs.KindRangeLemmas.{adds_up_kind, others_add_up}
use Rattle.cluster_width.proofs.SpaceMeasureLemmas.{one_character}
use Rattle.cluster_width.proofs.Sums.{implied}
use Rattle.comfy_parts.proofs.OwnWidthTrie.{ideographs, ideographs-wide, kind_number, number_of, own_number}
use Rattle.comfy_parts.proofs.SumKindLemmas.{summed_add_up}

-- ---- the numbers of the table

-- the width that a number of the table means
abbrev of_number : ℕ → Option ℕ
of_number n = if n == 3 then None else Some n

kind-columns : (c : ℕ) (k : Kind) → adds_up_kind k ≡ true → of_number (kind_number k) ≡ Some (of_kind false c k).0
kind-columns c kinds.Zero is = refl
kind-columns c kinds.Narrow is = refl
kind-columns c kinds.Wide is = refl
kind-columns c kinds.Ambiguous is = refl
kind-columns c kinds.Emoji is = refl
kind-columns c kinds.Alef is = absurd (cc is)
kind-columns c kinds.KhmerLetter is = absurd (cc is)
kind-columns c kinds.TifinaghConsonant is = absurd (cc is)
kind-columns c kinds.LisuTone is = absurd (cc is)
kind-columns c kinds.RegionalIndicator is = absurd (cc is)
kind-columns c kinds.EmojiModifier is = absurd (cc is)
kind-columns c kinds.Single is = absurd (cc is)

-- printable ASCII takes one, and other characters from U+00A0 on that join no other take the width of their kind
sorted : (low high joins few : Bool) (o : Option ℕ) (k : Kind) → (low ≡ true → o ≡ Some 1) → few ≡ not high → (high ≡ true → joins ≡ false → o ≡ of_number (kind_number k))
    → (if low || (high && not joins) then o else None) ≡ of_number (number_of (low || false, few || joins) k)
sorted true high joins few o k one apart own = one refl
sorted false true true true o k one apart own = refl
sorted false true true false o k one apart own = refl
sorted false true false true o k one apart own = absurd (cc apart)
sorted false true false false o k one apart own = own refl refl
sorted false false joins true o k one apart own = refl
sorted false false joins false o k one apart own = absurd (cc apart)

own-columns : (c : ℕ) → own_width c ≡ of_number (own_number c)
unfolding in_ranges char_width alone
own-columns c =
    sorted (is_in_range 0x20 0x7E c) (nat_le 0xA0 c) (in_ranges joining_characters c) (nat_le 0 c && nat_le c 0x9F) (char_width false c) (kind c)
    (λ low. grind (arith, nat_tests, low))
    (grind (arith, nat_tests))
    (λ high apart.
    let kinds = ap (λ b. b || adds_up_kind (kind c)) (sym apart) ∙ others_add_up c in
    let own : char_width false c ≡ Some (of_kind false c (kind c)).0 = grind (arith, nat_tests, high) in
    own ∙ sym (kind-columns c (kind c) kinds))

pub number-joins : (c n : ℕ) → n ≡ own_number c → n ≡ 3 → None ≡ own_width c
number-joins c n number is = ap of_number (sym is ∙ number) ∙ sym (own-columns c)

pub number-columns : (c n : ℕ) → n ≡ own_number c → n ≢ 3 → Some n ≡ own_width c
number-columns c n number other =
    let differs : (n == 3) ≡ false = grind (arith, nat_tests, other) in
    ap (λ b. if b then None else Some n) (sym differs) ∙ ap of_number number ∙ sym (own-columns c)

-- ---- characters that aren't looked up

pub ascii-one : (c : ℕ) → is_in_range 0x20 0x7E c ≡ true → Some 1 ≡ own_width c
unfolding char_width
ascii-one c is = grind (arith, nat_tests, is)

wide-two : (c : ℕ) → (is_in_range 0x4E00 0x9FFF c || (is_in_range 0xB000 0xCFFF c || false)) ≡ true → Some 2 ≡ own_width c
unfolding in_ranges
wide-two c within =
    let two = eqb-true (own_number c) 2 (implied (in_ranges ideographs c) _ (ideographs-wide c) within) in
    ap of_number (sym two) ∙ sym (own-columns c)

-- a text begins with a character of two terminal columns and three bytes
pub record BeginsWide (text : Text) : Type 0 where
  pub first : ℕ
  pub later : Text
  pub splits : text ≡ encode_utf8 first ++ later
  pub columns : own_width first ≡ Some 2
  pub wide : (is_in_range 0x4E00 0x9FFF first || (is_in_range 0xB000 0xCFFF first || false)) ≡ true
  pub boundary : IsCharBoundary text 3
  pub after : drop 3 text ≡ later

wide_first : (c : ℕ) (later : Text) → begins_wide (encode_utf8 c ++ later) ≡ true → (length (encode_utf8 c) ≡ 3) × ((is_in_range 0x4E00 0x9FFF c || (is_in_range 0xB000 0xCFFF c || false)) ≡ true)
unfolding encode
wide_first c later is = by_size (ltb c 128) (ltb c 2048) (ltb c 65536) refl refl refl is
  where
    by_size : (one two three : Bool) → ltb c 128 ≡ one → ltb c 2048 ≡ two → ltb c 65536 ≡ three
        → begins_wide (cond one (c ∷ []) (cond two ((192 + c / 64) ∷ (128 + c % 64) ∷ []) (cond three ((224 + c / 4096) ∷ (128 + (c / 64) % 64) ∷ (128 + c % 64) ∷ []) ((240 + c / 262144) ∷ (128 + (c / 4096) % 64) ∷ (128 + (c / 64) % 64) ∷ (128 + c % 64) ∷ []))) ++ later) ≡ true
        → (length (cond one (c ∷ []) (cond two ((192 + c / 64) ∷ (128 + c % 64) ∷ []) (cond three ((224 + c / 4096) ∷ (128 + (c / 64) % 64) ∷ (128 + c % 64) ∷ []) ((240 + c / 262144) ∷ (128 + (c / 4096) % 64) ∷ (128 + (c / 64) % 64) ∷ (128 + c % 64) ∷ [])))) ≡ 3) × ((is_in_range 0x4E00 0x9FFF c || (is_in_range 0xB000 0xCFFF c || false)) ≡ true)
    by_size true two three first second third is = absurd (grind (arith, nat_tests, first, is))
    by_size false true three first second third is = absurd (grind (arith, nat_tests, second, is))
    by_size false false true first second third is = (refl, grind (arith, nat_tests, is))
    by_size false false false first second third is = absurd (grind (arith, nat_tests, third, is))

pub begins-wide : (text : Text) → IsUtf8 text → 0 < length text → begins_wide text ≡ true → BeginsWide text
begins-wide text utf8 some is = by_characters utf8.0 utf8.1.1
  where
    by_characters : (cs : List ℕ) → encode_utf8_all cs ≡ text → BeginsWide text
    by_characters [] spelt = absurd (omega (arith, some, ap length spelt))
    by_characters (c ∷ cs) spelt =
        let wide = wide_first c (encode_utf8_all cs) (ap begins_wide spelt ∙ is) in
        let splits : text ≡ encode_utf8 c ++ encode_utf8_all cs = sym spelt in
        let size : len_utf8 c ≡ 3 = sym (length-encode c) ∙ wide.0 in
        record {
          first = c;
          later = encode_utf8_all cs;
          splits = splits;
          columns = sym (wide-two c wide.1);
          wide = wide.1;
          boundary = subst (IsCharBoundary text) (zero-add (len_utf8 c) ∙ size) (IsCharBoundary-past_char text (encode_utf8_all cs) 0 c (omega arith) utf8 splits);
          after = ap (λ n. drop n text) (sym (zero-add (len_utf8 c) ∙ size)) ∙ drop_past_char text (encode_utf8_all cs) 0 c splits;
        }

-- ---- characters in a text

-- the character joins no other, and takes n terminal columns
pub record IsOwn (c n : ℕ) : Type 0 where
  pub apart : joins_no_other c ≡ true
  pub columns : width_or_zero false c ≡ n
  pub most : n ≤ 2

pub own : (c n : ℕ) → own_width c ≡ Some n → IsOwn c n
own c n is = by_joins (joins_no_other c) refl is
  where
    by_joins : (b : Bool) → joins_no_other c ≡ b → (if b then char_width false c else None) ≡ Some n → IsOwn c n
    by_joins true apart same =
        let columns : width_or_zero false c ≡ n = ap (λ o. unwrap_or o 0) same in
        let most = summed_add_up.narrow c apart in
        record { apart = apart; columns = columns; most = omega (arith, columns, most) }
    by_joins false apart same = absurd (cc same)

-- a character that joins no other isn't a control character
no_control : (b c : ℕ) → b < 0x20 → joins_no_other c ≡ true → (c == b) ≡ false
no_control b c low apart = grind (arith, nat_tests, low, apart)

-- a pass over a text has counted this many terminal columns before the rest of the text
pub record IsCounted (text rest : Text) (columns : ℕ) : Type 0 where
  pub utf8 : IsUtf8 rest
  pub clear : (b : ℕ) → b < 0x20 → HasNo b rest → HasNo b text
  pub apart : list_all joins_no_other (chars rest) ≡ true → list_all joins_no_other (chars text) ≡ true
  pub sum : sum_by (width_or_zero false) (chars text) ≡ columns + sum_by (width_or_zero false) (chars rest)
  pub bound : columns + 2 * length rest ≤ 2 * length text

pub counted-none : (text : Text) → IsUtf8 text → IsCounted text text 0
counted-none text utf8 = record { utf8 = utf8; clear = λ b low none. none; apart = λ each. each; sum = omega arith; bound = omega arith }

-- the pass counts one more character
pub counted-more : (text rest later : Text) (columns c n : ℕ) → IsCounted text rest columns → rest ≡ encode_utf8 c ++ later → own_width c ≡ Some n → IsCounted text later (columns + n)
counted-more text rest later columns c n counted splits is =
    let one = own c n is in
    let next = chars_past_char rest later c counted.utf8 splits in
    let cons = ap (sum_by (width_or_zero false)) next ∙ sum_by-cons (width_or_zero false) c (chars later) in
    let long = ap length splits ∙ length-append (encode_utf8 c) later in
    let some = encode_utf8_nonempty c in
    record {
      utf8 = IsUtf8-past_char rest later c counted.utf8 splits;
      clear = λ b low none. counted.clear b low
          (subst (HasNo b) (sym splits) (HasNo-append b (encode_utf8 c) later (encoded_clear b c (omega (arith, low)) (no_control b c low one.apart)) none));
      apart = λ each. counted.apart (ap (list_all joins_no_other) next ∙ ap₂ (λ a b. a && b) one.apart each);
      sum = omega (arith, counted.sum, cons, one.columns);
      bound = omega (arith, counted.bound, long, some, one.most);
    }

-- at the end of the text the count is the measure of the text
pub counted-all : (text rest : Text) (columns : ℕ) → IsCounted text rest columns → length rest ≡ 0 → columns ≡ measure text
counted-all text rest columns counted none =
    let nothing = chars_of_empty rest none in
    let each = counted.apart (ap (list_all joins_no_other) nothing) in
    let sum = counted.sum in
    let left = ap (sum_by (width_or_zero false)) nothing in
    let total : columns ≡ sum_by (width_or_zero false) (chars text) = omega (arith, sum, left) in
    total ∙ sym (summed_add_up.sums (chars text) each)

-- a text that was counted to its end is one text line without ESC
pub counted-clear : (text rest : Text) (columns : ℕ) → IsCounted text rest columns → length rest ≡ 0 → IsClearLine text columns
counted-clear text rest columns counted none =
    record {
      unbroken = counted.clear 0x0A (omega arith) (nothing 0x0A rest none);
      clear = counted.clear 0x1B (omega arith) (nothing 0x1B rest none);
      width = counted-all text rest columns counted none;
    }
  where
    nothing : (b : ℕ) (bs : Text) → length bs ≡ 0 → HasNo b bs
    nothing b [] is = refl
    nothing b (x ∷ xs) is = absurd (omega (arith, is))

-- ---- characters as texts

pub of_character : (c n : ℕ) → IsScalar c → own_width c ≡ Some n → n ≡ measure (encode_utf8 c)
of_character c n scalar is =
    let text = encode_utf8 c in
    let counted = counted-more text text [] 0 c n (counted-none text (one_character c scalar).0) (sym (append-nil text)) is in
    sym (zero-add n) ∙ counted-all text [] (0 + n) counted refl

pub at_most_two : (c n : ℕ) → own_width c ≡ Some n → n ≤ 2
at_most_two c n is = (own c n is).most
