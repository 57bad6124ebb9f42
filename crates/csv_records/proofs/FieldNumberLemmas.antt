-- A field as a number: fields of digits and marks alone, and digits with one mark at most.
use Rattle.std.proofs.Common.{◌≡◌, ◌&&◌, ◌||◌, ◌==◌, ◌+◌, ◌-◌, ◌<◌, ℕ, suc, Bool, true, false, nat_lt, List, [], ◌∷◌, ◌++◌, append-nil, Option, None, Some, not, option_map, drop, take, encode_utf8_all, get_or, length, refl, sym, ap, ap₂, ◌∙◌, subst, arith, length-append, rules, tests}
use Rattle.std.proofs.Math.Seq.{take-append_seam}
use Rattle.std.proofs.lemmas.Bool.{and_from, and_parts, eqb-true}
use Rattle.std.proofs.lemmas.List.{take-append-drop, take_all}
use Rattle.std.proofs.lemmas.List.Folds.{list_all-append, list_all_at}
use Rattle.std.proofs.lemmas.List.Quantifiers.{position-Some}
use Rattle.std.proofs.lemmas.Str.{IsUtf8-from_ascii, chars-IsAscii, chars-nil, encodes-chars}
use Rattle.std.proofs.lemmas.Str.Ascii.{IsAscii-cons, IsAscii-nil}
use Rattle.std.specs.Char.{is_ascii_digit}
use Rattle.std.specs.Int.{is_in_range}
use Rattle.std.specs.List.{list_all, position, prefix_len}
use Rattle.std.specs.Prelude.{if◌then◌else◌}
use Rattle.std.specs.Str.{IsAscii, chars}
use Rattle.comfy_parts.specs.Text.{Text, is_printable_ascii}
use Rattle.csv_records.proofs.FigureLemmas.{by_end, to_other-stops}
use Rattle.csv_records.specs.Decimals.{digits_in, fraction_of, number_of, number_with}
use Rattle.csv_records.specs.Number.{back_of, figure_of, from_other, front_of, halves, has_indian_groups, is_decimal, is_digits, is_enclosed, is_figure, is_fraction, is_inner, is_name, is_number, is_outer, is_scientific, is_sign, is_signed, is_signed_later, is_space, is_written, to_other, trimmed, unsigned, without_first, without_leading_spaces, is_amount, begins}
use Rattle.csv_records.specs.declared.field_number.FieldNumber.{FieldNumber}
use Rattle.csv_records.specs.declared.field_number.Fraction.{Fraction}

abbrev AreDigits : Text → Type 0
AreDigits text = list_all is_ascii_digit text ≡ true

first_of : (q : ℕ → Bool) (b : ℕ) (bs : Text) → list_all q (b ∷ bs) ≡ true → q b ≡ true
first_of q b bs all = (and_parts (q b) (list_all q bs) all).0

all_from : (q r : ℕ → Bool) → ((c : ℕ) → q c ≡ true → r c ≡ true) → (text : Text) → list_all q text ≡ true → list_all r text ≡ true
all_from q r more [] all = refl
all_from q r more (b ∷ bs) all =
    let parts = and_parts (q b) (list_all q bs) all in
    and_from (r b) (list_all r bs) (more b parts.0) (all_from q r more bs parts.1)

-- ---- bytes

written_small : (c : ℕ) → is_written c ≡ true → c < 128
written_small c is = search (rules, tests)

written_printable : (c : ℕ) → is_written c ≡ true → is_in_range 0x20 0x7E c ≡ true
written_printable c is = search (rules, tests)

no_space : (c : ℕ) → is_written c ≡ true → is_space c ≡ false
no_space c is = search (rules, tests)

no_outer : (c : ℕ) → is_inner c ≡ true → is_outer c ≡ false
no_outer c is = rw is refl

digit_inner : (c : ℕ) → is_ascii_digit c ≡ true → is_inner c ≡ true
digit_inner c is = rw is refl

inner_written : (c : ℕ) → is_inner c ≡ true → is_written c ≡ true
inner_written c is = rw is refl

-- ---- if no element passes, nothing is taken off

module _ (q p : ℕ → Bool) (others : (c : ℕ) → q c ≡ true → p c ≡ false) where
  none_passes : (text : Text) → list_all q text ≡ true → prefix_len p text ≡ 0
  none_passes [] all = refl
  none_passes (b ∷ bs) all = rw (others b (first_of q b bs all)) refl

  from_first : (text : Text) → list_all q text ≡ true → from_other p text ≡ text
  from_first text all = ap (λ (n : ℕ). drop n text) (none_passes text all)

  to_last : (text : Text) → list_all q text ≡ true → to_other p text ≡ text
  to_last = by_end (λ text. list_all q text ≡ true → to_other p text ≡ text) (λ all. refl) one_more
    where
      one_more : (bs : Text) (b : ℕ) → (list_all q bs ≡ true → to_other p bs ≡ bs) → list_all q (bs ++ b ∷ []) ≡ true → to_other p (bs ++ b ∷ []) ≡ bs ++ b ∷ []
      one_more bs b known all = to_other-stops p bs b (others b (first_of q b [] last))
        where
          last : list_all q (b ∷ []) ≡ true
          last = (and_parts (list_all q bs) (list_all q (b ∷ [])) (sym (list_all-append q bs (b ∷ [])) ∙ all)).1

-- ---- such bytes are their own characters, and no space surrounds them

module _ (text : Text) (all : list_all is_written text ≡ true) where
  ascii : IsAscii text
  ascii = over text all
    where
      over : (bs : Text) → list_all is_written bs ≡ true → IsAscii bs
      over [] is = IsAscii-nil
      over (b ∷ bs) is = let parts = and_parts (is_written b) (list_all is_written bs) is in IsAscii-cons b bs (written_small b parts.0) (over bs parts.1)

  characters : chars text ≡ text
  characters = chars-IsAscii text ascii

  encoded : encode_utf8_all text ≡ text
  encoded = ap encode_utf8_all (sym characters) ∙ encodes-chars text (IsUtf8-from_ascii text ascii)

  alone_before : without_leading_spaces text ≡ text
  alone_before = ap (λ (cs : List ℕ). encode_utf8_all (from_other is_space cs)) characters ∙ ap encode_utf8_all (from_first is_written is_space no_space text all) ∙ encoded

  alone : trimmed text ≡ text
  alone =
      ap (λ (t : Text). encode_utf8_all (to_other is_space (chars t))) alone_before
      ∙ ap (λ (cs : List ℕ). encode_utf8_all (to_other is_space cs)) characters ∙ ap encode_utf8_all (to_last is_written is_space no_space text all) ∙ encoded

-- ---- a sign, or none, before digits and marks

drop_all : (bs : Text) → drop (length bs) bs ≡ []
drop_all [] = refl
drop_all (b ∷ bs) = drop_all bs

record HasFigure (field : Text) : Type 0 where
  written : list_all is_written field ≡ true
  figure : figure_of field ≡ unsigned field
  around : is_signed (front_of field) (back_of field) ≡ true

no_sign : is_signed [] [] ≡ true
no_sign = rw chars-nil refl

a_sign : (b : ℕ) → ((b == 0x2D) || (b == 0x2B)) ≡ true → is_signed (b ∷ []) [] ≡ true
a_sign b is =
    let sign : is_sign b ≡ true = search (rules, tests) in
    let written : is_written b ≡ true = search (rules, tests) in
    let own : chars (b ∷ []) ≡ b ∷ [] = characters (b ∷ []) (rw written refl) in
    let begins_so : begins is_sign (chars (b ∷ [])) ≡ true = ap (begins is_sign) own ∙ sign in
    let none : without_first (b ∷ []) ≡ [] = ap (λ (cs : List ℕ). encode_utf8_all (drop 1 cs)) own in
    ap (λ (t : Bool). if t then is_amount (without_first (b ∷ [])) [] else is_signed_later (b ∷ []) []) begins_so
    ∙ ap (λ (t : Text). is_amount t []) none

has_figure : (field : Text) → list_all is_inner (unsigned field) ≡ true → HasFigure field
has_figure [] all = record { written = refl; figure = refl; around = no_sign }
has_figure (b ∷ bs) all = by_sign ((b == 0x2D) || (b == 0x2B)) refl all
  where
    by_sign : (t : Bool) → ((b == 0x2D) || (b == 0x2B)) ≡ t → list_all is_inner (if t then bs else b ∷ bs) ≡ true → HasFigure (b ∷ bs)
    by_sign true is inner =
        let outer : is_outer b ≡ true = search (rules, tests) in
        let one : prefix_len is_outer (b ∷ bs) ≡ 1 = rw (outer, none_passes is_inner is_outer no_outer bs inner) refl in
        let rest : from_other is_outer (b ∷ bs) ≡ bs = ap (λ (n : ℕ). drop n (b ∷ bs)) one in
        let whole : figure_of (b ∷ bs) ≡ bs = ap (to_other is_outer) rest ∙ to_last is_inner is_outer no_outer bs inner in
        let front : front_of (b ∷ bs) ≡ b ∷ [] = ap (λ (n : ℕ). take n (b ∷ bs)) one in
        let back : back_of (b ∷ bs) ≡ [] = ap₂ (λ (f t : Text). drop (length f) t) whole rest ∙ drop_all bs in
        let here : unsigned (b ∷ bs) ≡ bs = rw is refl in
        record {
          written = and_from (is_written b) (list_all is_written bs) (search (rules, tests)) (all_from is_inner is_written inner_written bs inner);
          figure = whole ∙ sym here;
          around = rw (front, back) (a_sign b is);
        }
    by_sign false is inner =
        let text : Text = b ∷ bs in
        let none : prefix_len is_outer text ≡ 0 = none_passes is_inner is_outer no_outer text inner in
        let rest : from_other is_outer text ≡ text = from_first is_inner is_outer no_outer text inner in
        let whole : figure_of text ≡ text = ap (to_other is_outer) rest ∙ to_last is_inner is_outer no_outer text inner in
        let front : front_of text ≡ [] = ap (λ (n : ℕ). take n text) none in
        let back : back_of text ≡ [] = ap₂ (λ (f t : Text). drop (length f) t) whole rest ∙ drop_all text in
        let here : unsigned text ≡ text = rw is refl in
        record {
          written = all_from is_inner is_written inner_written text inner;
          figure = whole ∙ sym here;
          around = rw (front, back) no_sign;
        }

-- ---- fields of such bytes

pub bare_characters : (field : Text) → list_all is_written field ≡ true → chars field ≡ field
bare_characters = characters

pub bare_is_printable : (field : Text) → list_all is_written field ≡ true → is_printable_ascii field ≡ true
bare_is_printable field all = all_from is_written (is_in_range 0x20 0x7E) written_printable field all

pub plain_field : (field : Text) → list_all is_inner (unsigned field) ≡ true → number_with (is_figure (unsigned field)) true (unsigned field) ≡ number_of field
unfolding is_number
plain_field field all =
    let it = has_figure field all in
    let own = alone field it.written in
    let digits : digits_in field ≡ unsigned field = ap figure_of own ∙ it.figure in
    let number : is_number field ≡ is_figure (unsigned field) = rw (own, it.around, it.figure) refl in
    sym (ap₂ (λ (b : Bool) (d : Text). number_with b (list_all is_written field) d) number digits ∙ ap (λ (b : Bool). number_with (is_figure (unsigned field)) b (unsigned field)) it.written)

pub and_so : (a b : Bool) → b ≡ true → a ≡ (a && b)
and_so true b is = sym is
and_so false b is = refl

pub and_not : (a b : Bool) → b ≡ false → false ≡ (a && b)
and_not true b is = sym is
and_not false b is = refl

-- ---- fields with more

same_number : (m n : FieldNumber) → m.is_number ≡ n.is_number → m.is_decimal ≡ n.is_decimal → m.is_bare ≡ n.is_bare → m.point ≡ n.point → m.comma ≡ n.comma → m ≡ n
same_number m n number decimal bare point comma =
    ap₂ (λ (x y : Bool). parts x y m.is_bare m.point m.comma) number decimal ∙ ap (λ (b : Bool). parts n.is_number n.is_decimal b m.point m.comma) bare
    ∙ ap₂ (λ (p c : Fraction). parts n.is_number n.is_decimal n.is_bare p c) point comma
  where
    parts : Bool → Bool → Bool → Fraction → Fraction → FieldNumber
    parts x y b p c = record { is_number = x; is_decimal = y; is_bare = b; point = p; comma = c }

module _ (field front digits back : Text) (same_front : front ≡ front_of (trimmed field)) (same_digits : digits ≡ digits_in field) (same_back : back ≡ back_of (trimmed field)) where
  abbrev around : Bool
  around = is_signed front back || is_enclosed front back

  pub framed_is_number : (is_figure digits && around) ≡ is_number field
  unfolding is_number
  framed_is_number = by_cases (is_figure digits) around ∙ rw (same_front, same_digits, same_back) refl
    where
      by_cases : (a b : Bool) → (a && b) ≡ (b && a)
      by_cases true true = refl
      by_cases true false = refl
      by_cases false true = refl
      by_cases false false = refl

  pub framed_number : (number made : FieldNumber) → number ≡ number_with (is_figure digits) (list_all is_written field) digits
      → made.is_number ≡ (number.is_number && around) → made.is_decimal ≡ (number.is_decimal && made.is_number)
      → made.is_bare ≡ number.is_bare → made.point ≡ number.point → made.comma ≡ number.comma → made ≡ number_of field
  framed_number number made same is decimal bare point comma =
      let so : made.is_number ≡ is_number field = is ∙ ap (λ (n : FieldNumber). n.is_number && around) same ∙ framed_is_number in
      let with_figure : made.is_number ≡ (is_figure digits && around) = is ∙ ap (λ (n : FieldNumber). n.is_number && around) same in
      let decimal_so : made.is_decimal ≡ (is_number field && is_decimal (digits_in field)) =
      decimal ∙ ap₂ (λ (n : FieldNumber) (b : Bool). n.is_decimal && b) same with_figure ∙ by_cases (is_figure digits) (is_decimal digits) around
      ∙ ap₂ (λ (b : Bool) (d : Text). b && is_decimal d) framed_is_number same_digits in
      same_number made (number_of field) so decimal_so
      (bare ∙ ap (λ (n : FieldNumber). n.is_bare) same)
      (point ∙ ap (λ (n : FieldNumber). n.point) same ∙ ap (λ (d : Text). fraction_of (halves 0x2E d)) same_digits)
      (comma ∙ ap (λ (n : FieldNumber). n.comma) same ∙ ap (λ (d : Text). fraction_of (halves 0x2C d)) same_digits)
    where
      by_cases : (f d a : Bool) → ((f && d) && (f && a)) ≡ ((f && a) && d)
      by_cases true true true = refl
      by_cases true true false = refl
      by_cases true false true = refl
      by_cases true false false = refl
      by_cases false d a = refl

-- ---- a mark in digits

-- a mark isn't found if no byte can be one
no_halves : (q : ℕ → Bool) (mark : ℕ) → q mark ≡ false → (text : Text) → list_all q text ≡ true → halves mark text ≡ None
no_halves q mark other text all = ap (option_map (λ at. (take at text, drop (at + 1) text))) (by_place (position (λ b. b == mark) text) refl)
  where
    by_place : (o : Option ℕ) → position (λ b. b == mark) text ≡ o → o ≡ None
    by_place None found = refl
    by_place (Some at) found =
        let known = position-Some (λ b. b == mark) text at 0 found in
        let none : q (get_or text at 0) ≡ false = ap q (eqb-true (get_or text at 0) mark known.1) ∙ other in
        absurd (cc (list_all_at q text at 0 known.0 none, all))

-- a mark after digits is found
found_halves : (mark : ℕ) → is_ascii_digit mark ≡ false → (whole rest : Text) → AreDigits whole → halves mark (whole ++ mark ∷ rest) ≡ Some (whole, rest)
found_halves mark other whole rest all = rw (place, take-append_seam whole (mark ∷ rest), after whole) refl
  where
    up_to : (whole : Text) → AreDigits whole → prefix_len (λ b. not (b == mark)) (whole ++ mark ∷ rest) ≡ length whole
    up_to [] all = search (rules, tests)
    up_to (b ∷ bs) all =
        let parts = and_parts (is_ascii_digit b) (list_all is_ascii_digit bs) all in
        let more = up_to bs parts.1 in
        rw (by_test (b == mark) refl parts.0) (omega (arith, more))
      where
        by_test : (t : Bool) → (b == mark) ≡ t → is_ascii_digit b ≡ true → t ≡ false
        by_test false is digit = refl
        by_test true is digit = absurd (cc (sym digit ∙ ap is_ascii_digit (eqb-true b mark is) ∙ other))

    place : position (λ b. b == mark) (whole ++ mark ∷ rest) ≡ Some (length whole)
    place =
        let at = up_to whole all in
        let more = length-append whole (mark ∷ rest) in
        rw at (grind (arith, tests, more))

    after : (whole : Text) → drop (length whole + 1) (whole ++ mark ∷ rest) ≡ rest
    after [] = refl
    after (b ∷ bs) =
        let one : length (b ∷ bs) + 1 ≡ suc (length bs + 1) = omega arith in
        ap (λ (n : ℕ). drop n (b ∷ bs ++ mark ∷ rest)) one ∙ after bs

-- ---- digits with one mark at most

digits_before : (text : Text) → AreDigits (take (prefix_len is_ascii_digit text) text)
digits_before [] = refl
digits_before (b ∷ bs) = by_test (is_ascii_digit b) refl (digits_before bs)
  where
    by_test : (t : Bool) → is_ascii_digit b ≡ t → AreDigits (take (prefix_len is_ascii_digit bs) bs) → AreDigits (take (prefix_len is_ascii_digit (b ∷ bs)) (b ∷ bs))
    by_test true is more =
        let next : prefix_len is_ascii_digit (b ∷ bs) ≡ suc (prefix_len is_ascii_digit bs) = rw is (omega arith) in
        subst (λ (n : ℕ). AreDigits (take n (b ∷ bs))) (sym next) (and_from (is_ascii_digit b) (list_all is_ascii_digit (take (prefix_len is_ascii_digit bs) bs)) is more)
    by_test false is more =
        let none : prefix_len is_ascii_digit (b ∷ bs) ≡ 0 = rw is refl in
        subst (λ (n : ℕ). AreDigits (take n (b ∷ bs))) (sym none) refl

abbrev pub none : Fraction
none = record { len = 0; is_readable = true }

abbrev pub decimal_of : Bool → Bool → Fraction → Fraction → FieldNumber
decimal_of is_number is_bare point comma =
    record { is_number = is_number; is_decimal = is_number; is_bare = is_bare; point = point; comma = comma }

empty_figure : is_figure [] ≡ false
unfolding chars has_indian_groups
empty_figure = refl

or_inside : (a b c d : Bool) → (b || c) ≡ true → ((a || (b || c)) || d) ≡ true
or_inside true b c d is = refl
or_inside false b c d is = rw is refl

or_other : (a b : Bool) → b ≡ true → (a || b) ≡ true
or_other true b is = refl
or_other false b is = is

first_there : (text : Text) (b : ℕ) → 0 < length text → get_or text 0 0 ≡ b → text ≡ b ∷ drop 1 text
first_there [] b some is = absurd (omega (arith, some))
first_there (c ∷ cs) b some is = ap (λ (x : ℕ). x ∷ cs) is

module _ (digits : Text) (is_number : Bool) (is : is_number ≡ (not (length digits == 0) && not (is_name digits))) (is_bare : Bool) where
  abbrev whole : Text
  whole = take (prefix_len is_ascii_digit digits) digits

  abbrev rest : Text
  rest = drop (prefix_len is_ascii_digit digits) digits

  split : whole ++ rest ≡ digits
  split = take-append-drop (prefix_len is_ascii_digit digits) digits

  made_of : (point comma : Fraction) → is_number ≡ is_figure digits → is_number ≡ (is_figure digits && is_decimal digits) → point ≡ fraction_of (halves 0x2E digits) → comma ≡ fraction_of (halves 0x2C digits)
      → decimal_of is_number is_bare point comma ≡ number_with (is_figure digits) is_bare digits
  made_of point comma number decimal same_point same_comma =
      ap₂ (λ (n d : Bool). parts n d point comma) number decimal ∙ ap₂ (λ (p c : Fraction). parts (is_figure digits) (is_figure digits && is_decimal digits) p c) same_point same_comma
    where
      parts : Bool → Bool → Fraction → Fraction → FieldNumber
      parts n d p c = record { is_number = n; is_decimal = d; is_bare = is_bare; point = p; comma = c }

  -- without an exponent, digits are a number if they aren't a name
  of_decimal : (point comma : Fraction) → is_decimal digits ≡ true → (length digits == 0) ≡ false → point ≡ fraction_of (halves 0x2E digits) → comma ≡ fraction_of (halves 0x2C digits)
      → decimal_of is_number is_bare point comma ≡ number_with (is_figure digits) is_bare digits
  of_decimal point comma decimal some same_point same_comma =
      let number : is_number ≡ is_figure digits = is ∙ rw (some, decimal) (and_so (not (is_name digits)) true refl) in
      made_of point comma number (number ∙ and_so (is_figure digits) (is_decimal digits) decimal) same_point same_comma

  -- the bytes after the first one, as a slice pattern gives them
  taken : AreDigits (take (length rest - 1) (drop 1 rest)) → AreDigits (drop 1 rest)
  taken = subst AreDigits (all rest)
    where
      all : (text : Text) → take (length text - 1) (drop 1 text) ≡ drop 1 text
      all [] = refl
      all (b ∷ bs) = take_all (length (b ∷ bs) - 1) bs (omega arith)

  pub whole_is_inner : length rest ≡ 0 → list_all is_inner digits ≡ true
  whole_is_inner ends = ap (list_all is_inner) (sym split) ∙ list_all-append is_inner whole rest ∙ and_from (list_all is_inner whole) (list_all is_inner rest) (all_from is_ascii_digit is_inner digit_inner whole (digits_before digits)) (nothing_left rest ends)
    where
      nothing_left : (text : Text) → length text ≡ 0 → list_all is_inner text ≡ true
      nothing_left [] is = refl
      nothing_left (b ∷ bs) is = absurd (omega (arith, is))

  pub marked_is_inner : (m : ℕ) → is_inner m ≡ true → 0 < length rest → get_or rest 0 0 ≡ m → AreDigits (take (length rest - 1) (drop 1 rest)) → list_all is_inner digits ≡ true
  marked_is_inner m inner some first after =
      ap (list_all is_inner) (sym (ap (λ t. whole ++ t) (sym (first_there rest m some first)) ∙ split)) ∙ list_all-append is_inner whole (m ∷ drop 1 rest)
      ∙ and_from (list_all is_inner whole) (list_all is_inner (m ∷ drop 1 rest)) (all_from is_ascii_digit is_inner digit_inner whole (digits_before digits))
      (and_from (is_inner m) (list_all is_inner (drop 1 rest)) inner (all_from is_ascii_digit is_inner digit_inner (drop 1 rest) (taken after)))

  pub whole_number : length rest ≡ 0 → decimal_of is_number is_bare none none ≡ number_with (is_figure digits) is_bare digits
  whole_number ends = by_len (length digits == 0) refl
    where
      nothing : (text : Text) → length text ≡ 0 → text ≡ []
      nothing [] is = refl
      nothing (b ∷ bs) is = absurd (omega (arith, is))

      own : AreDigits digits
      own = ap (list_all is_ascii_digit) (sym split ∙ ap (λ t. whole ++ t) (nothing rest ends) ∙ append-nil whole) ∙ digits_before digits

      no_mark : (mark : ℕ) → is_ascii_digit mark ≡ false → none ≡ fraction_of (halves mark digits)
      no_mark mark other = sym (ap fraction_of (no_halves is_ascii_digit mark other digits own))

      by_len : (t : Bool) → (length digits == 0) ≡ t → decimal_of is_number is_bare none none ≡ number_with (is_figure digits) is_bare digits
      by_len true empty =
          let number : is_number ≡ false = is ∙ rw empty refl in
          let figure : is_figure digits ≡ false = ap is_figure (nothing digits (eqb-true (length digits) 0 empty)) ∙ empty_figure in
          made_of none none (number ∙ sym figure) (number ∙ sym (ap (λ (b : Bool). b && is_decimal digits) figure)) (no_mark 0x2E refl) (no_mark 0x2C refl)
      by_len false some =
          let more : nat_lt 0 (length digits) ≡ true = grind (arith, some) in
          of_decimal none none (rw (more, own) refl) some (no_mark 0x2E refl) (no_mark 0x2C refl)

  module _ (m : ℕ) (other : is_ascii_digit m ≡ false) (some : 0 < length rest) (first : get_or rest 0 0 ≡ m) (digital : AreDigits (drop 1 rest)) (more : 1 < length digits) where
    are : whole ++ m ∷ drop 1 rest ≡ digits
    are = ap (λ t. whole ++ t) (sym (first_there rest m some first)) ∙ split

    read : is_fraction (Some (whole, drop 1 rest)) ≡ true
    read = rw (digital, digits_before digits, by_lengths (length whole == 0) refl (length (drop 1 rest) == 0) refl) refl
      where
        by_lengths : (a : Bool) → (length whole == 0) ≡ a → (b : Bool) → (length (drop 1 rest) == 0) ≡ b → ((length whole == 0) && (length (drop 1 rest) == 0)) ≡ false
        by_lengths false w b d = rw w refl
        by_lengths true w false d = rw (w, d) refl
        by_lengths true w true d =
            let long = ap length (sym are) ∙ length-append whole (m ∷ drop 1 rest) in
            absurd (omega (arith, long, more, eqb-true (length whole) 0 w, eqb-true (length (drop 1 rest)) 0 d))

    found : halves m digits ≡ Some (whole, drop 1 rest)
    found = ap (halves m) (sym are) ∙ found_halves m other whole (drop 1 rest) (digits_before digits)

    read_so : is_fraction (halves m digits) ≡ true
    read_so = ap is_fraction found ∙ read

    own_fraction : record { len = length rest; is_readable = true } ≡ fraction_of (halves m digits)
    own_fraction =
        let long : length rest ≡ 1 + length (drop 1 rest) = ap length (first_there rest m some first) ∙ omega arith in
        sym (ap fraction_of found ∙ rw (read, long) refl)

    no_other : (mark : ℕ) → is_ascii_digit mark ≡ false → (mark == m) ≡ false → none ≡ fraction_of (halves mark digits)
    no_other mark apart_digit apart = sym (ap fraction_of (no_halves q mark (rw (apart_digit, apart) refl) digits (ap (list_all q) (sym are) ∙ all)))
      where
        q : ℕ → Bool
        q c = is_ascii_digit c || (c == m)

        digit : (c : ℕ) → is_ascii_digit c ≡ true → q c ≡ true
        digit c is = rw is refl

        all : list_all q (whole ++ m ∷ drop 1 rest) ≡ true
        all =
            list_all-append q whole (m ∷ drop 1 rest)
            ∙ and_from (list_all q whole) (list_all q (m ∷ drop 1 rest)) (all_from is_ascii_digit q digit whole (digits_before digits))
            (and_from (q m) (list_all q (drop 1 rest)) (or_other (is_ascii_digit m) (m == m) (search (rules, tests))) (all_from is_ascii_digit q digit (drop 1 rest) digital))

    some_there : (length digits == 0) ≡ false
    some_there = grind (arith, more)

  pub point_number : 0 < length rest → get_or rest 0 0 ≡ 0x2E → AreDigits (take (length rest - 1) (drop 1 rest)) → 1 < length digits
      → decimal_of is_number is_bare (record { len = length rest; is_readable = true }) none ≡ number_with (is_figure digits) is_bare digits
  point_number some first after more =
      let digital = taken after in
      let fraction = read_so 0x2E refl some first digital more in
      of_decimal _ none (or_inside (is_digits digits) (is_fraction (halves 0x2E digits)) (is_fraction (halves 0x2C digits)) _ (rw fraction refl)) (some_there 0x2E refl some first digital more)
      (own_fraction 0x2E refl some first digital more) (no_other 0x2E refl some first digital more 0x2C refl refl)

  pub comma_number : 0 < length rest → get_or rest 0 0 ≡ 0x2C → AreDigits (take (length rest - 1) (drop 1 rest)) → 1 < length digits
      → decimal_of is_number is_bare none (record { len = length rest; is_readable = true }) ≡ number_with (is_figure digits) is_bare digits
  comma_number some first after more =
      let digital = taken after in
      let fraction = read_so 0x2C refl some first digital more in
      of_decimal none _ (or_inside (is_digits digits) (is_fraction (halves 0x2E digits)) (is_fraction (halves 0x2C digits)) _ (or_other (is_fraction (halves 0x2E digits)) _ fraction)) (some_there 0x2C refl some first digital more)
      (no_other 0x2C refl some first digital more 0x2E refl refl) (own_fraction 0x2C refl some first digital more)

-- ---- digits with any marks

pub marked : (digits : Text) {decimal_so scientific_so : Bool} (made : FieldNumber)
    → decimal_so ≡ (not (is_name digits) && is_decimal digits) → scientific_so ≡ (is_scientific (halves 0x65 digits) || is_scientific (halves 0x45 digits))
    → made.is_number ≡ (decimal_so || (not (is_name digits) && scientific_so)) → made.is_decimal ≡ decimal_so
    → made.point ≡ fraction_of (halves 0x2E digits) → made.comma ≡ fraction_of (halves 0x2C digits) → made ≡ number_with (is_figure digits) made.is_bare digits
marked digits made decimal scientific number same point comma =
    let so : made.is_number ≡ is_figure digits = number ∙ rw (decimal, scientific) (by_parts (not (is_name digits)) (is_decimal digits) (is_scientific (halves 0x65 digits) || is_scientific (halves 0x45 digits))) in
    same_number made (number_with (is_figure digits) made.is_bare digits) so
    (same ∙ decimal ∙ by_decimal (not (is_name digits)) (is_decimal digits) (is_scientific (halves 0x65 digits) || is_scientific (halves 0x45 digits))) refl point comma
  where
    by_parts : (n d s : Bool) → ((n && d) || (n && s)) ≡ (n && (d || s))
    by_parts true d s = refl
    by_parts false d s = refl

    by_decimal : (n d s : Bool) → (n && d) ≡ ((n && (d || s)) && d)
    by_decimal true true s = refl
    by_decimal true false true = refl
    by_decimal true false false = refl
    by_decimal false d s = refl
