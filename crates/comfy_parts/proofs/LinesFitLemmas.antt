-- Wrapped lines fit their width, if words that are wider than it are cut well.
use Rattle.std.proofs.Common.{◌≡◌, ◌<◌, ◌≤◌, ℕ, zero, suc, ◌+◌, ◌-◌, Bool, true, false, ◌&&◌, ◌==◌, List, [], ◌∷◌, ◌++◌, length, map, nat_le, nat_lt, refl, sym, ap, ◌∙◌, subst, arith, append-nil, append_assoc, length-append, eqb-true, replicate}
use Rattle.std.specs.Char.{IsScalar}
use Rattle.std.specs.List.{All, slice_split}
use Rattle.std.specs.Prelude.{chars, encode_utf8, encode_utf8_all, IsUtf8}
use Rattle.std.specs.Str.{all_scalars}
use Rattle.std.proofs.lemmas.Bool.{and_parts, cond_both}
use Rattle.std.proofs.lemmas.Bool.Decides.{nat_tests}
use Rattle.std.proofs.lemmas.List.{append_cancel_left}
use Rattle.std.proofs.lemmas.List.Elements.{All-cons, All-nil, All-head, All-tail}
use Rattle.std.proofs.lemmas.Str.{chars-encodes, encodes-append, encodes-chars, scalars-chars, IsUtf8-append, IsUtf8-nil}
use Rattle.unicode_segmentation.proofs.TextLemmas.{encode_utf8_nonempty, IsUtf8-after}
use Rattle.comfy_parts.proofs.ElementLemmas.{elements-none, elements-first}
use Rattle.comfy_parts.proofs.FilledLemmas.{one_column}
use Rattle.comfy_parts.proofs.FollowingLemmas.{first-rest, line_end-narrow, line_end-wide}
use Rattle.comfy_parts.proofs.PlaceLemmas.{scalars-parts}
use Rattle.comfy_parts.proofs.EndLemmas.{same_front}
use Rattle.comfy_parts.proofs.PartLemmas.{AreNext, first_part}
use Rattle.comfy_parts.proofs.WrappingLemmas.{whole-past_gap}
use Rattle.comfy_parts.specs.Following.{Follow, IsFirstElement}
use Rattle.comfy_parts.specs.Text.{Text, measure, head, elements}
use Rattle.comfy_parts.specs.Wrapping.{IsWrapped, bytes_taken, head_or_first, line_end}
use Rattle.cluster_width.proofs.SpaceMeasureLemmas.{one_character}
use Rattle.comfy_parts.specs.Columns.{AddsOneColumn}

-- a line is whole characters, and measures at most w
pub record IsFittingLine (w : ℕ) (line : Text) : Type 0 where
  pub whole : IsUtf8 line
  pub fits : measure line ≤ w

-- ---- the first element of every text

record HasFirst (d : ℕ) (text : Text) : Type 0 where
  first : Text
  after : Text
  is : IsFirstElement d text first after

-- a first part is followed by a delimiter and the text of the later parts, or by nothing
follow-parts : (d : ℕ) (parts : List (List ℕ)) (rest : List ℕ) → all_scalars rest ≡ true → AreNext (λ c. c == d) parts rest → Follow d (map encode_utf8_all parts) (encode_utf8_all rest)
follow-parts d [] rest scalars nothing = ap encode_utf8_all nothing
follow-parts d (part ∷ parts) rest scalars (c, cs, is, delimiter, are) =
    let whole = (scalars-parts (c ∷ []) cs (ap all_scalars (sym is) ∙ scalars)).1 in (
      encode_utf8_all cs,
      ap encode_utf8_all is ∙ ap (λ x. encode_utf8 x ++ encode_utf8_all cs) (eqb-true c d delimiter),
      ap (λ xs. map encode_utf8_all (slice_split (λ c. c == d) xs)) (chars-encodes cs whole) ∙ ap (map encode_utf8_all) are,
    )

-- every text has a first element
first_exists : (d : ℕ) (text : Text) → IsUtf8 text → HasFirst d text
first_exists d text utf8 =
    let has = first_part (λ c. c == d) (chars text) in
    let parts = scalars-parts has.part has.is.rest (sym (ap all_scalars has.is.splits) ∙ scalars-chars text utf8) in
    record {
      first = encode_utf8_all has.part;
      after = encode_utf8_all has.is.rest;
      is = record { others = map encode_utf8_all has.parts; elements_are = ap (map encode_utf8_all) has.are; follow = follow-parts d has.parts has.is.rest parts.1 has.is.next; joined = sym (encodes-append has.part has.is.rest) ∙ ap encode_utf8_all (sym has.is.splits) ∙ encodes-chars text utf8; whole_first = (has.part, (parts.0, refl)); whole_after = (has.is.rest, (parts.1, refl)) };
    }

-- the elements after an element depend only on the text there
follow-same : (d : ℕ) (xs ys : List Text) (after : Text) → Follow d xs after → Follow d ys after → xs ≡ ys
follow-same d [] [] after none none' = refl
follow-same d [] (y ∷ ys) after none (more, splits, parts) =
    absurd (omega (arith, encode_utf8_nonempty d, length-append (encode_utf8 d) more, ap length (sym splits ∙ none)))
follow-same d (x ∷ xs) [] after (more, splits, parts) none =
    absurd (omega (arith, encode_utf8_nonempty d, length-append (encode_utf8 d) more, ap length (sym splits ∙ none)))
follow-same d (x ∷ xs) (y ∷ ys) after (more, splits, parts) (more', splits', parts') = grind (arith, append_cancel_left)

-- ---- words that can be cut well

-- a word whose prefix measures at most k, and whose rest is such a word again
pub record IsCut (Word : Text → Type 0) (k : ℕ) (front word : Text) : Type 0 where
  pub rest : Text
  pub splits : word ≡ front ++ rest
  pub whole_front : IsUtf8 front
  pub whole_rest : IsUtf8 rest
  pub fits : measure front ≤ k
  pub keeps : Word rest

-- wherever a line may end within such a word that is wider than w, the prefix before that end fits
pub record BreaksWell (w : ℕ) (Word : Text → Type 0) : Type 0 where
  pub empty : Word []
  pub part : (k : ℕ) (word : Text) → Word word → IsUtf8 word → w < measure word → IsCut Word k (head k word) word
  pub first : (word : Text) → Word word → IsUtf8 word → w < measure word → IsCut Word w (head_or_first w word) word

module _ (w d : ℕ) (Word : Text → Type 0) (breaks : BreaksWell w Word) (scalar : IsScalar d) (adds : AddsOneColumn d) where
  -- all elements of a text are such words
  abbrev Words : Text → Type 0
  Words text = All Word (elements d text)

  words-nil : Words []
  words-nil = subst (All Word) (sym (elements-none d [] IsUtf8-nil ([], refl, tt))) (All-cons Word [] [] breaks.empty (All-nil Word))

  words-after : (es : List Text) (after : Text) → Follow d es after → All Word es → Words after
  words-after [] after none words = subst Words (sym none) words-nil
  words-after (e ∷ es) after (more, splits, parts) words =
      subst Words (sym splits)
      (subst (All Word) (sym (elements-first d [] more scalar IsUtf8-nil ([], refl, tt) ∙ ap (λ xs. [] ∷ xs) parts)) (All-cons Word [] (e ∷ es) breaks.empty words))

  -- the n bytes that a line takes after its first elements, which measure `filled`, fit, and only such words are left
  record IsTaken (filled n : ℕ) (after : Text) : Type 0 where
    taken : Text
    rest : Text
    splits : after ≡ taken ++ rest
    bytes : length taken ≡ n
    whole_taken : IsUtf8 taken
    whole_rest : IsUtf8 rest
    fits : (front : Text) → IsUtf8 front → measure front ≡ filled → measure (front ++ taken) ≤ w
    keeps : Words rest

  -- a line that takes nothing more
  takes-none : (filled : ℕ) (after : Text) → filled ≤ w → IsUtf8 after → Words after → IsTaken filled 0 after
  takes-none filled after room whole words =
      record { taken = []; rest = after; splits = refl; bytes = refl; whole_taken = IsUtf8-nil; whole_rest = whole; fits = λ front utf8 same. subst (λ t. measure t ≤ w) (sym (append-nil front)) (omega (arith, same, room)); keeps = words }

  -- a delimiter and a word measure one terminal column more than the word
  after-delimiter : (front word : Text) → IsUtf8 front → measure (front ++ (encode_utf8 d ++ word)) ≡ measure front + (1 + measure word)
  after-delimiter front word utf8 = adds front word utf8

  takes : (filled : ℕ) (es : List Text) (after : Text) → Follow d es after → IsUtf8 after → All Word es → filled ≤ w → IsTaken filled (bytes_taken w d filled es) after
  takes filled [] after none whole words room = takes-none filled after room whole (words-after [] after none words)
  takes filled (next ∷ others) after (more, splits, parts) whole words room =
      cond_both (nat_lt (w - 2) filled) _ _ Takes (λ _. none)
      (λ _. cond_both (nat_lt w (filled + 1 + measure next)) _ _ Takes (λ _. cond_both (nat_lt w (measure next) && nat_le (filled + 4) w) _ _ Takes part (λ _. none))
      (λ test. whole_next test (λ fits. takes filled' others first.after follow is.whole_after (All-tail Word next others words) fits)))
    where
      Takes : ℕ → Type 0
      Takes n = IsTaken filled n after

      filled' : ℕ
      filled' = filled + measure next + measure (encode_utf8 d)

      whole_more : IsUtf8 more
      whole_more = IsUtf8-after after (encode_utf8 d) more whole (one_character d scalar).0 splits

      first : HasFirst d more
      first = first_exists d more whole_more

      both : first.first ∷ first.is.others ≡ next ∷ others
      both = sym first.is.elements_are ∙ parts

      same_first : first.first ≡ next
      same_first = cc both

      same_others : first.is.others ≡ others
      same_others = cc both

      is : IsFirstElement d more next first.after
      is = subst (λ t. IsFirstElement d more t first.after) same_first first.is

      follow : Follow d others first.after
      follow = subst (λ es. Follow d es first.after) same_others first.is.follow

      none : IsTaken filled 0 after
      none = takes-none filled after room whole (words-after (next ∷ others) after (more, splits, parts) words)

      -- the line takes a part of the next element
      part : (nat_lt w (measure next) && nat_le (filled + 4) w) ≡ true → IsTaken filled (length (encode_utf8 d) + length (head (w - filled - 1) next)) after
      part takes =
          let tests = and_parts (nat_lt w (measure next)) (nat_le (filled + 4) w) takes in
          let wide : w < measure next = grind (arith, nat_tests, tests.0) in
          let free : filled + 4 ≤ w = grind (arith, nat_tests, tests.1) in
          let cut = breaks.part (w - filled - 1) next (All-head Word next others words) is.whole_first wide in
          let part = head (w - filled - 1) next in
          let after : IsFirstElement d (cut.rest ++ first.after) cut.rest first.after = first-rest d more part cut.rest first.after cut.whole_front cut.whole_rest (subst (λ t. IsFirstElement d more t first.after) cut.splits is) in
          record {
            taken = encode_utf8 d ++ part;
            rest = cut.rest ++ first.after;
            splits = splits ∙ ap (λ t. encode_utf8 d ++ t) (sym is.joined ∙ ap (λ t. t ++ first.after) cut.splits ∙ append_assoc part cut.rest first.after) ∙ sym (append_assoc (encode_utf8 d) part (cut.rest ++ first.after));
            bytes = length-append (encode_utf8 d) part;
            whole_taken = IsUtf8-append (encode_utf8 d) part (one_character d scalar).0 cut.whole_front;
            whole_rest = IsUtf8-append cut.rest first.after cut.whole_rest is.whole_after;
            fits = λ front utf8 same. let all = after-delimiter front part utf8 in let fits = cut.fits in omega (arith, all, fits, same, free);
            keeps = subst (All Word) (sym after.elements_are) (All-cons Word cut.rest after.others cut.keeps (subst (All Word) (follow-same d others after.others first.after follow after.follow) (All-tail Word next others words)));
          }

      -- the line takes the whole next element, and perhaps more
      whole_next : nat_lt w (filled + 1 + measure next) ≡ false → (filled' ≤ w → IsTaken filled' (bytes_taken w d filled' others) first.after)
          → IsTaken filled (length (encode_utf8 d) + length next + bytes_taken w d filled' others) after
      whole_next test rest =
          let room' : filled + 1 + measure next ≤ w = grind (arith, nat_tests, test) in
          let place = one_column d adds in
          let further = rest (omega (arith, room', place)) in
          record {
            taken = encode_utf8 d ++ (next ++ further.taken);
            rest = further.rest;
            splits = splits ∙ ap (λ t. encode_utf8 d ++ t) (sym is.joined ∙ ap (λ t. next ++ t) further.splits ∙ sym (append_assoc next further.taken further.rest)) ∙ sym (append_assoc (encode_utf8 d) (next ++ further.taken) further.rest);
            bytes = (let outer = length-append (encode_utf8 d) (next ++ further.taken) in let inner = length-append next further.taken in let bytes = further.bytes in omega (arith, outer, inner, bytes));
            whole_taken = IsUtf8-append (encode_utf8 d) (next ++ further.taken) (one_character d scalar).0 (IsUtf8-append next further.taken is.whole_first further.whole_taken);
            whole_rest = further.whole_rest;
            fits = λ front utf8 same.
                let all = after-delimiter front next utf8 in
                let whole_front = IsUtf8-append front (encode_utf8 d ++ next) utf8 (IsUtf8-append (encode_utf8 d) next (one_character d scalar).0 is.whole_first) in
                subst (λ t. measure t ≤ w) (append_assoc front (encode_utf8 d ++ next) further.taken ∙ ap (λ t. front ++ t) (append_assoc (encode_utf8 d) next further.taken))
                (further.fits (front ++ (encode_utf8 d ++ next)) whole_front (omega (arith, all, same, place)));
            keeps = further.keeps;
          }

  -- ---- a line and the text after it

  -- the line at the front of a text fits, and all elements after it are such words
  record IsLineThatFits (line tail : Text) : Type 0 where
    fits : measure line ≤ w
    whole : IsUtf8 tail
    keeps : Words tail

  line_fits : (line tail : Text) → IsUtf8 (line ++ tail) → Words (line ++ tail) → length line ≡ line_end w d (line ++ tail) → IsLineThatFits line tail
  line_fits line tail utf8 words ends = by_width (nat_lt w (measure has.first)) refl
    where
      has : HasFirst d (line ++ tail)
      has = first_exists d (line ++ tail) utf8

      is : IsFirstElement d (line ++ tail) has.first has.after
      is = has.is

      all : All Word (has.first ∷ is.others)
      all = subst (All Word) is.elements_are words

      word : Word has.first
      word = All-head Word has.first is.others all

      by_width : (b : Bool) → nat_lt w (measure has.first) ≡ b → IsLineThatFits line tail
      by_width true wide =
          let front = head_or_first w has.first in
          let cut = breaks.first has.first word is.whole_first (grind (arith, nat_tests, wide)) in
          let splits : line ++ tail ≡ front ++ (cut.rest ++ has.after) = sym is.joined ∙ ap (λ t. t ++ has.after) cut.splits ∙ append_assoc front cut.rest has.after in
          let same = same_front line tail front (cut.rest ++ has.after) splits (ends ∙ line_end-wide w d (line ++ tail) has.first has.after is wide) in
          let after : IsFirstElement d (cut.rest ++ has.after) cut.rest has.after = first-rest d (line ++ tail) front cut.rest has.after cut.whole_front cut.whole_rest (subst (λ t. IsFirstElement d (line ++ tail) t has.after) cut.splits is) in
          record {
            fits = subst (λ t. measure t ≤ w) (sym same.0) cut.fits;
            whole = subst IsUtf8 (sym same.1) (IsUtf8-append cut.rest has.after cut.whole_rest is.whole_after);
            keeps = subst Words (sym same.1) (subst (All Word) (sym after.elements_are) (All-cons Word cut.rest after.others cut.keeps (subst (All Word) (follow-same d is.others after.others has.after is.follow after.follow) (All-tail Word has.first is.others all))));
          }
      by_width false narrow =
          let room : measure has.first ≤ w = grind (arith, nat_tests, narrow) in
          let further = takes (measure has.first) is.others has.after is.follow is.whole_after (All-tail Word has.first is.others all) room in
          let splits : line ++ tail ≡ (has.first ++ further.taken) ++ further.rest = sym is.joined ∙ ap (λ t. has.first ++ t) further.splits ∙ sym (append_assoc has.first further.taken further.rest) in
          let bytes : length (has.first ++ further.taken) ≡ length line = length-append has.first further.taken ∙ ap (λ n. length has.first + n) further.bytes ∙ sym (ends ∙ line_end-narrow w d (line ++ tail) has.first has.after is narrow) in
          let same = same_front line tail (has.first ++ further.taken) further.rest splits (sym bytes) in
          record {
            fits = subst (λ t. measure t ≤ w) (sym same.0) (further.fits has.first is.whole_first refl);
            whole = subst IsUtf8 (sym same.1) further.whole_rest;
            keeps = subst Words (sym same.1) further.keeps;
          }

  -- ---- all lines

  -- after a gap of delimiters, all elements are such words
  words-past_gap : (n : ℕ) (rest : Text) → Words (encode_utf8_all (replicate n d) ++ rest) → Words rest
  words-past_gap zero rest words = words
  words-past_gap (suc n) rest words =
      let more = encode_utf8_all (replicate n d) ++ rest in
      words-past_gap n rest
      (All-tail Word [] (elements d more)
      (subst (All Word) (elements-first d [] more scalar IsUtf8-nil ([], refl, tt)) (subst Words (append_assoc (encode_utf8 d) (encode_utf8_all (replicate n d)) rest) words)))

  -- the line is whole characters, and measures at most w
  abbrev Fits : Text → Type 0
  Fits line = IsUtf8 line × (measure line ≤ w)

  -- each line of such a text fits
  pub wrapped-fit : (text : Text) (lines : List Text) → IsWrapped w d text lines → IsUtf8 text → Words text → All Fits lines
  wrapped-fit text [] wrapped whole words = All-nil Fits
  wrapped-fit text (line ∷ lines) (tail, slice, ends, more) whole words =
      let gap = slice.gap_is_delimiters in
      let splits : text ≡ encode_utf8_all (replicate gap.0 d) ++ (line ++ tail) = slice.splits ∙ ap (λ g. g ++ (line ++ tail)) gap.1 in
      let it = line_fits line tail (whole-past_gap d gap.0 (line ++ tail) (subst IsUtf8 splits whole)) (words-past_gap gap.0 (line ++ tail) (subst Words splits words)) ends in
      All-cons Fits line lines (slice.whole_characters, it.fits) (wrapped-fit tail lines more it.whole it.keeps)
