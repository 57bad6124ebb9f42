-- The end of a line of printable ASCII, as the backward search from the line's last column finds it.
use Rattle.std.proofs.Common.{◌≡◌, ◌<◌, ◌≤◌, ◌⊎◌, inl, inr, ℕ, zero, suc, ◌+◌, ◌-◌, Bool, true, false, ◌&&◌, ◌==◌, List, [], ◌∷◌, ◌++◌, length, nat_le, nat_lt, drop, take, slice_index_or, refl, sym, ap, ◌∙◌, subst, append-nil, arith}
use Rattle.std.specs.Prelude.{if◌then◌else◌}
use Rattle.std.proofs.lemmas.Bool.{or_parts}
use Rattle.std.proofs.lemmas.Bool.Decides.{nat_tests}
use Rattle.std.proofs.Math.Seq.{take-suc}
use Rattle.std.proofs.lemmas.List.{drop_all, drop_more, length-append, length-drop, length-take-le, take-append-drop, take_all}
use Rattle.std.proofs.lemmas.List.Splits.{slice_split-cons_no, slice_split-cons_yes}
use Rattle.std.specs.List.{list_any, onto_first, slice_split}
use Rattle.comfy_parts.specs.Laws.{IsPrintable}
use Rattle.comfy_parts.specs.Text.{Text, begins_with}
use Rattle.comfy_parts.specs.Wrapping.{line_end}
use Rattle.comfy_parts.proofs.PartLemmas.{HasFirstPart, first_part, is_first_part}
use Rattle.comfy_parts.proofs.PrintableLemmas.{chars-printable}
use Rattle.comfy_parts.proofs.LineEndLemmas.{line_end-printable, printable_end, printable_taken}

-- the bytes of parts, each with the delimiter before it
abbrev pub spanned : List Text → ℕ
spanned [] = 0
spanned (part ∷ parts) = suc (length part) + spanned parts

-- the last part isn't empty
abbrev pub EndsInPart : List Text → Type 0
EndsInPart [] = Unit {0}
EndsInPart (part ∷ []) = 0 < length part
EndsInPart (part ∷ next ∷ parts) = EndsInPart (next ∷ parts)

-- a part that has room is taken
one-taken : (w filled : ℕ) (part : Text) (others : List Text) → filled + 2 ≤ w → filled + 1 + length part ≤ w → printable_taken w filled (part ∷ others) ≡ suc (length part) + printable_taken w (filled + length part + 1) others
one-taken w filled part others room fits = grind (arith, nat_tests)

-- parts that end within the line are taken, if a column is left after them or the last one isn't empty
pub taken-front : (w filled : ℕ) (parts more : List Text) → filled + spanned parts ≤ w → (filled + spanned parts < w) ⊎ EndsInPart parts
    → printable_taken w filled (parts ++ more) ≡ spanned parts + printable_taken w (filled + spanned parts) more
taken-front w filled [] more within ends =
    let nothing : (n : ℕ) → n ≡ 0 + n = λ n. omega arith in
    let same : filled ≡ filled + 0 = omega arith in
    ap (λ n. printable_taken w n more) same ∙ nothing (printable_taken w (filled + 0) more)
taken-front w filled (part ∷ []) more within ends = grind (arith, one-taken, printable_taken)
taken-front w filled (part ∷ next ∷ parts) more within ends =
    let sum : filled + length part + 1 + spanned (next ∷ parts) ≡ filled + spanned (part ∷ next ∷ parts) = omega arith in
    let rest = taken-front w (filled + length part + 1) (next ∷ parts) more (omega (arith, within)) (elim ends [ inl fewer ↦ inl (omega (arith, fewer)) | inr some ↦ inr some ]) in
    one-taken w filled part (next ∷ (parts ++ more)) (omega (arith, within)) (omega (arith, within))
    ∙ ap (λ n. suc (length part) + n) (rest ∙ ap (λ n. spanned (next ∷ parts) + printable_taken w n more) sum)
    ∙ (let assoc : (n : ℕ) → suc (length part) + (spanned (next ∷ parts) + n) ≡ spanned (part ∷ next ∷ parts) + n = λ n. omega arith in assoc (printable_taken w (filled + spanned (part ∷ next ∷ parts)) more))

-- an empty part that would end at the line's last column isn't taken, nor is any part after it
pub taken-up_to : (w : ℕ) (more : List Text) → 2 ≤ w → printable_taken w (w - 1) ([] ∷ more) ≡ 0
taken-up_to w more wide = grind (arith, nat_tests)

-- rule 3 gives the bytes that are taken of a part that has no room
pub taken-over : (w filled : ℕ) (next : Text) (others : List Text) → w < filled + 1 + length next
    → printable_taken w filled (next ∷ others) ≡ (if nat_lt w (length next) && nat_le (filled + 4) w then w - filled else 0)
taken-over w filled next others over = grind (arith, nat_tests, over)

-- ---- the parts of a text around a delimiter

module _ (p : ℕ → Bool) where
  -- a text has at least one part
  some_part : (text : Text) → 0 < length (slice_split p text)
  some_part text = let has = first_part p text in omega (arith, ap length has.are)

  onto_first-append : (c : ℕ) (parts more : List Text) → 0 < length parts → onto_first c (parts ++ more) ≡ onto_first c parts ++ more
  onto_first-append c [] more some = absurd (omega (arith, some))
  onto_first-append c (part ∷ parts) more some = refl

  -- the parts before and after a delimiter are the parts of the text
  pub parts-around : (front : Text) (c : ℕ) (back : Text) → p c ≡ true → slice_split p (front ++ c ∷ back) ≡ slice_split p front ++ slice_split p back
  parts-around [] c back is_d = slice_split-cons_yes p c back is_d
  parts-around (x ∷ front) c back is_d = grind (arith, slice_split-cons_yes, slice_split-cons_no, onto_first-append, some_part, parts-around front c back is_d)

  -- a text is as long as its parts and the delimiters between them
  pub spans : (parts : List Text) (text first : Text) → slice_split p text ≡ first ∷ parts → length text ≡ length first + spanned parts
  spans [] text first are =
      let is = is_first_part p text first [] are in
      ap length is.splits ∙ ap (λ (t : Text). length (first ++ t)) is.next ∙ ap length (append-nil first) ∙ (let zero : (n : ℕ) → n ≡ n + 0 = λ n. omega arith in zero (length first))
  spans (next ∷ parts) text first are =
      let is = is_first_part p text first (next ∷ parts) are in
      let rest = spans parts is.next.1 next is.next.4 in
      let long = ap length is.splits ∙ length-append first is.rest in
      omega (arith, long, ap length is.next.2, rest)

  -- if the last byte isn't a delimiter, the last part isn't empty
  pub last-some : (front : Text) (c : ℕ) → p c ≡ false → EndsInPart (slice_split p (front ++ c ∷ []))
  last-some [] c none = subst EndsInPart (sym (slice_split-cons_no p c [] none)) (omega arith)
  last-some (x ∷ front) c none = by_test (p x) refl (slice_split p (front ++ c ∷ [])) refl (last-some front c none)
    where
      longer : (x : ℕ) (parts : List Text) → EndsInPart parts → EndsInPart (onto_first x parts)
      longer x [] ends = omega arith
      longer x (part ∷ []) ends = omega arith
      longer x (part ∷ next ∷ parts) ends = ends

      by_test : (b : Bool) → p x ≡ b → (parts : List Text) → slice_split p (front ++ c ∷ []) ≡ parts → EndsInPart (slice_split p (front ++ c ∷ [])) → EndsInPart (slice_split p (x ∷ (front ++ c ∷ [])))
      by_test true here [] are ends = absurd (omega (arith, ap length are, some_part (front ++ c ∷ [])))
      by_test true here (part ∷ parts) are ends = subst EndsInPart (sym (slice_split-cons_yes p x (front ++ c ∷ []) here ∙ ap (λ (ps : List Text). [] ∷ ps) are)) (subst EndsInPart are ends)
      by_test false passes parts are ends = subst EndsInPart (sym (slice_split-cons_no p x (front ++ c ∷ []) passes)) (longer x (slice_split p (front ++ c ∷ [])) ends)

-- ---- the end of the line

module _ (w d : ℕ) where
  abbrev parts_of : Text → List Text
  parts_of text = slice_split (λ c. c == d) text

  ends-cons : (first : Text) (parts : List Text) → EndsInPart (first ∷ parts) → EndsInPart parts
  ends-cons first [] ends = tt
  ends-cons first (part ∷ parts) ends = ends

  -- a line takes the parts of a prefix that ends within it, and then goes on with the next parts
  pub front-taken : (front : Text) (more : List Text) → length front ≤ w → (length front < w) ⊎ EndsInPart (parts_of front)
      → printable_end w (parts_of front ++ more) ≡ length front + printable_taken w (length front) more
  front-taken front more within ends = by_parts has.parts has.are
    where
      has : HasFirstPart (λ c. c == d) front
      has = first_part (λ c. c == d) front

      by_parts : (parts : List Text) → parts_of front ≡ has.part ∷ parts → printable_end w (parts_of front ++ more) ≡ length front + printable_taken w (length front) more
      by_parts parts are =
          let long = spans (λ c. c == d) parts front has.part are in
          let fits : nat_lt w (length has.part) ≡ false = grind (arith, nat_tests, long, within) in
          let room : (length has.part + spanned parts < w) ⊎ EndsInPart parts = elim ends [ inl fewer ↦ inl (omega (arith, fewer, long)) | inr some ↦ inr (ends-cons has.part parts (subst EndsInPart are some)) ] in
          ap (λ (ps : List Text). printable_end w (ps ++ more)) are
          ∙ ap (λ (b : Bool). if b then w else length has.part + printable_taken w (length has.part) (parts ++ more)) fits
          ∙ ap (λ n. length has.part + n) (taken-front w (length has.part) parts more (omega (arith, long, within)) room)
          ∙ (let sum : (n : ℕ) → length has.part + (spanned parts + n) ≡ length front + n = λ n. omega (arith, long) in sum (printable_taken w (length has.part + spanned parts) more))
          ∙ ap (λ n. length front + printable_taken w n more) (sym long)

  -- if the first n bytes of a text have no delimiter, its first part has at least n bytes
  pub first-long : (n : ℕ) (text first : Text) (parts : List Text) → n ≤ length text → list_any (λ c. c == d) (take n text) ≡ false → parts_of text ≡ first ∷ parts → n ≤ length first
  first-long zero text first parts within clear are = omega arith
  first-long (suc n) [] first parts within clear are = absurd (omega (arith, within))
  first-long (suc n) (x ∷ xs) first parts within clear are =
      let both = or_parts (x == d) (list_any (λ c. c == d) (take n xs)) clear in
      let has = first_part (λ c. c == d) xs in
      let longer : (x ∷ has.part) ∷ has.parts ≡ first ∷ parts = sym (slice_split-cons_no (λ c. c == d) x xs both.0 ∙ ap (onto_first x) has.are) ∙ are in
      let long : suc (length has.part) ≡ length first = ap (λ (ps : List Text). length (slice_index_or ps 0 [])) longer in
      omega (arith, long, first-long n xs has.part has.parts (omega (arith, within)) both.1 has.are)

  -- if the byte at n is a delimiter, the first part has at most n bytes
  pub first-short : (n : ℕ) (text first : Text) (parts : List Text) → n < length text → (slice_index_or text n 0 == d) ≡ true → parts_of text ≡ first ∷ parts → length first ≤ n
  first-short n [] first parts below here are = absurd (omega (arith, below))
  first-short n (x ∷ xs) first parts below here are = by_test (x == d) refl (λ m within found. first-short m xs has.part has.parts within found has.are) n below here
    where
      has : HasFirstPart (λ c. c == d) xs
      has = first_part (λ c. c == d) xs

      by_test : (b : Bool) → (x == d) ≡ b → ((m : ℕ) → m < length xs → (slice_index_or xs m 0 == d) ≡ true → length has.part ≤ m) → (n : ℕ) → n < suc (length xs) → (slice_index_or (x ∷ xs) n 0 == d) ≡ true → length first ≤ n
      by_test true passes shorter n below here = let long : 0 ≡ length first = ap (λ (ps : List Text). length (slice_index_or ps 0 [])) (sym (slice_split-cons_yes (λ c. c == d) x xs passes) ∙ are) in omega (arith, long)
      by_test false fails shorter zero below here = absurd (grind (arith, here, fails))
      by_test false fails shorter (suc n) below here =
          let longer : (x ∷ has.part) ∷ has.parts ≡ first ∷ parts = sym (slice_split-cons_no (λ c. c == d) x xs fails ∙ ap (onto_first x) has.are) ∙ are in
          let long : suc (length has.part) ≡ length first = ap (λ (ps : List Text). length (slice_index_or ps 0 [])) longer in
          omega (arith, long, shorter n (omega (arith, below)) here)

  -- no delimiter is between a position and the end of the line's last column
  abbrev pub IsClearAfter : Text → ℕ → Type 0
  IsClearAfter text at = list_any (λ c. c == d) (take (w - at) (drop (at + 1) text)) ≡ false

  -- a text that ends within the line is one line
  pub end-all : (text : Text) → IsPrintable w d text → length text ≤ w → (length text < w) ⊎ EndsInPart (parts_of text) → line_end w d text ≡ length text
  end-all text plain within ends =
      line_end-printable w d text plain ∙ ap (printable_end w) (sym (append-nil (parts_of text))) ∙ front-taken text [] within ends ∙ (let zero : (n : ℕ) → n + 0 ≡ n = λ n. omega arith in zero (length text))

  -- a line doesn't end with a delimiter in its last column
  pub end-before : (text front rest : Text) (more : List Text) → IsPrintable w d text → text ≡ front ++ d ∷ rest → 2 ≤ w → length front ≡ w - 1 → parts_of rest ≡ [] ∷ more → line_end w d text ≡ w - 1
  end-before text front rest more plain is wide at empty =
      let same : (d == d) ≡ true = grind (arith, nat_tests) in
      let within : length front < w = omega (arith, at, wide) in
      line_end-printable w d text plain
      ∙ ap (λ (t : Text). printable_end w (parts_of t)) is
      ∙ ap (printable_end w) (parts-around (λ c. c == d) front d rest same ∙ ap (λ (ps : List Text). parts_of front ++ ps) empty)
      ∙ front-taken front ([] ∷ more) (omega (arith, within)) (inl within)
      ∙ ap (λ n. n + printable_taken w n ([] ∷ more)) at
      ∙ ap (λ n. w - 1 + n) (taken-up_to w more wide)
      ∙ (let zero : w - 1 + 0 ≡ w - 1 = omega arith in zero)

  -- if the part after a delimiter has no room, the line ends before the delimiter, or within that part
  pub end-at : (text front back next : Text) (others : List Text) → IsPrintable w d text → text ≡ front ++ d ∷ back → length front ≤ w → (length front < w) ⊎ EndsInPart (parts_of front)
      → parts_of back ≡ next ∷ others → w < length front + 1 + length next
      → line_end w d text ≡ length front + (if nat_lt w (length next) && nat_le (length front + 4) w then w - length front else 0)
  end-at text front back next others plain is within ends are over =
      let same : (d == d) ≡ true = grind (arith, nat_tests) in
      line_end-printable w d text plain
      ∙ ap (λ (t : Text). printable_end w (parts_of t)) is
      ∙ ap (printable_end w) (parts-around (λ c. c == d) front d back same ∙ ap (λ (ps : List Text). parts_of front ++ ps) are)
      ∙ front-taken front (next ∷ others) within ends
      ∙ ap (λ n. length front + n) (taken-over w (length front) next others over)

  -- a first part that is wider than the line is cut at the line's last column
  pub end-wide : (text first : Text) (parts : List Text) → IsPrintable w d text → parts_of text ≡ first ∷ parts → w < length first → line_end w d text ≡ w
  end-wide text first parts plain are wide = grind (arith, nat_tests, line_end-printable, printable_end, printable_taken)

  -- no delimiter is among the first n + 1 bytes if the first byte isn't one, nor any of the n bytes after it
  first-clear : (n : ℕ) (text : Text) → 0 < length text → (slice_index_or text 0 0 == d) ≡ false → list_any (λ c. c == d) (take n (drop 1 text)) ≡ false → list_any (λ c. c == d) (take (suc n) text) ≡ false
  first-clear n [] some first clear = absurd (omega (arith, some))
  first-clear n (x ∷ xs) some first clear = grind arith

-- ---- by positions in the text

module _ (w d : ℕ) (text : Text) (plain : IsPrintable w d text) (otherwise : begins_with d text ≡ false) where
  begins : 0 < length text → (slice_index_or text 0 0 == d) ≡ false
  begins some = grind (arith, chars-printable)

  -- the text before and after a delimiter
  cut_at : (i : ℕ) → i < length text → slice_index_or text i 0 ≡ d → text ≡ take i text ++ d ∷ drop (i + 1) text
  cut_at i below here = grind (arith, take-append-drop, drop_more)

  same : (d == d) ≡ true
  same = grind (arith, nat_tests)

  -- if the end of the text or a delimiter follows w bytes, and the last of these is a delimiter, the line ends before
  -- that
  pub at-delimiter : w ≤ length text → (w < length text → slice_index_or text w 0 ≡ d) → slice_index_or text (w - 1) 0 ≡ d → line_end w d text ≡ w - 1
  at-delimiter enough found here = end-before w d text (take (w - 1) text) (drop (w - 1 + 1) text) more.0 plain (cut_at (w - 1) (omega (arith, enough, plain.columns)) here) two (length-take-le (w - 1) text (omega (arith, enough))) more.1
    where
      next : w - 1 + 1 ≡ w
      next = let wide = plain.columns in omega (arith, wide)

      two : 2 ≤ w
      two = by_last (w - 1) refl
        where
          by_last : (n : ℕ) → w - 1 ≡ n → 2 ≤ w
          by_last zero first = absurd (grind (arith, nat_tests, first, here, enough, plain.columns, begins))
          by_last (suc n) later = omega (arith, later)

      more : (more : List Text) × (parts_of w d (drop (w - 1 + 1) text) ≡ [] ∷ more)
      more = by_rest (nat_lt w (length text)) refl
        where
          by_rest : (b : Bool) → nat_lt w (length text) ≡ b → (more : List Text) × (parts_of w d (drop (w - 1 + 1) text) ≡ [] ∷ more)
          by_rest true longer =
              let below : w < length text = grind (arith, nat_tests, longer) in
              (parts_of w d (drop (w + 1) text), ap (λ n. parts_of w d (drop n text)) next ∙ ap (parts_of w d) (drop_more text w 0 below ∙ ap (λ (c : ℕ). c ∷ drop (w + 1) text) (found below)) ∙ slice_split-cons_yes (λ c. c == d) d (drop (w + 1) text) same)
          by_rest false ends =
              let past : length text ≤ w = grind (arith, nat_tests, ends) in
              ([], ap (λ n. parts_of w d (drop n text)) next ∙ ap (parts_of w d) (drop_all w text past))

  -- if the end of the text or a delimiter follows w bytes, and the last of these is another character, the line is full
  pub at-width : w ≤ length text → (w < length text → slice_index_or text w 0 ≡ d) → (slice_index_or text (w - 1) 0 == d) ≡ false → line_end w d text ≡ w
  at-width enough found other = by_rest (nat_lt w (length text)) refl
    where
      front : length (take w text) ≡ w
      front = length-take-le w text enough

      ends : EndsInPart (parts_of w d (take w text))
      ends =
          let last : w ≡ suc (w - 1) = let wide = plain.columns in omega (arith, wide) in
          let is : take w text ≡ take (w - 1) text ++ slice_index_or text (w - 1) 0 ∷ [] = ap (λ n. take n text) last ∙ take-suc text (w - 1) 0 (omega (arith, enough, plain.columns)) in
          subst (λ (t : Text). EndsInPart (parts_of w d t)) (sym is) (last-some (λ c. c == d) (take (w - 1) text) (slice_index_or text (w - 1) 0) other)

      nothing : (b : Bool) (n : ℕ) → n ≡ w → n + (if b then w - n else 0) ≡ w
      nothing true n full = omega (arith, full)
      nothing false n full = omega (arith, full)

      by_rest : (b : Bool) → nat_lt w (length text) ≡ b → line_end w d text ≡ w
      by_rest true longer =
          let below : w < length text = grind (arith, nat_tests, longer) in
          let has = first_part (λ c. c == d) (drop (w + 1) text) in
          end-at w d text (take w text) (drop (w + 1) text) has.part has.parts plain (cut_at w below (found below)) (omega (arith, front)) (inr ends) has.are (omega (arith, front))
          ∙ nothing (nat_lt w (length has.part) && nat_le (length (take w text) + 4) w) (length (take w text)) front
      by_rest false short =
          let whole : length text ≤ w = grind (arith, nat_tests, short) in
          end-all w d text plain whole (inr (subst (λ (t : Text). EndsInPart (parts_of w d t)) (take_all w text whole) ends)) ∙ (let same : length text ≡ w = omega (arith, whole, enough) in same)

  -- if no delimiter is within the line, the first part is cut
  pub no-break : w < length text → IsClearAfter w d text 0 → line_end w d text ≡ w
  no-break longer clear =
      let has = first_part (λ c. c == d) text in
      let some : 0 < length text = omega (arith, longer) in
      let first : list_any (λ c. c == d) (take (w + 1) text) ≡ false = ap (λ n. list_any (λ c. c == d) (take n text)) (let more : w + 1 ≡ suc w = omega arith in more) ∙ first-clear w d w text some (begins some) (ap (λ n. list_any (λ c. c == d) (take n (drop 1 text))) (let all : w ≡ w - 0 = omega arith in all) ∙ clear) in
      end-wide w d text has.part has.parts plain has.are (let long = first-long w d (w + 1) text has.part has.parts (omega (arith, longer)) first has.are in omega (arith, long))

  -- the text after a position
  abbrev pub later : ℕ → Text
  later end = take (length text - (end + 1)) (drop (end + 1) text)

  -- otherwise the line ends at its last delimiter, or within the part after that
  at-break : (end : ℕ) (next : Text) (others : List Text) → end < w → w < length text → slice_index_or text end 0 ≡ d → IsClearAfter w d text end → parts_of w d (drop (end + 1) text) ≡ next ∷ others
      → line_end w d text ≡ end + (if nat_lt w (length next) && nat_le (end + 4) w then w - end else 0)
  at-break end next others before longer here clear are =
      let front = length-take-le end text (omega (arith, before, longer)) in
      let left = length-drop (end + 1) text in
      let long = first-long w d (w - end) (drop (end + 1) text) next others (omega (arith, left, longer)) clear are in
      end-at w d text (take end text) (drop (end + 1) text) next others plain (cut_at end (omega (arith, before, longer)) here) (omega (arith, front, before)) (inl (omega (arith, front, before))) are (omega (arith, front, long, before))
      ∙ ap (λ n. n + (if nat_lt w (length next) && nat_le (n + 4) w then w - n else 0)) front

  -- the first part after the last delimiter in the line, and the end of the line
  pub record LastBreak (end : ℕ) : Type 0 where
    pub next : Text
    pub others : List Text
    pub are : parts_of w d (later end) ≡ next ∷ others
    pub ends : line_end w d text ≡ end + (if nat_lt w (length next) && nat_le (end + 4) w then w - end else 0)

  pub last-break : (end : ℕ) → 0 < end → end < w → w ≤ length text → (w ≡ length text → end ≡ w) → (w < length text → 0 < end → slice_index_or text end 0 ≡ d) → IsClearAfter w d text end → LastBreak end
  last-break end some before enough at_end found clear =
      let longer : w < length text = grind (arith, nat_tests, before, enough, at_end) in
      let has = first_part (λ c. c == d) (drop (end + 1) text) in
      let all : later end ≡ drop (end + 1) text = take_all (length text - (end + 1)) (drop (end + 1) text) (omega (arith, length-drop (end + 1) text)) in
      record { next = has.part; others = has.parts; are = ap (parts_of w d) all ∙ has.are; ends = at-break end has.part has.parts before longer (found longer some) clear has.are }
