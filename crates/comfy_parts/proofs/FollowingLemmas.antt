-- The first element of a text by its first delimiter, and the end of a line by the text after its first element.
use Rattle.comfy_parts.proofs.WrappingLemmas.{begins_otherwise-unless}
use Rattle.std.proofs.Common.{◌≡◌, ◌<◌, ◌≤◌, ℕ, ◌+◌, ◌-◌, Bool, true, false, ◌==◌, List, [], ◌∷◌, ◌++◌, length, take, drop, Some, map, nat_lt, refl, sym, ap, ap₂, ◌∙◌, subst, arith, append-nil, length-append, take_at, drop_at}
use Rattle.std.specs.Char.{IsScalar}
use Rattle.std.specs.List.{slice_split, onto_first}
use Rattle.std.specs.Prelude.{chars, encode_utf8, encode_utf8_all, IsUtf8}
use Rattle.std.specs.Str.{all_scalars, IsCharBoundary, NoCharPasses}
use Rattle.std.specs.Str.Pattern.{FindsChar, FindsCharPrefix, SplitsAroundMatch, StripsPrefix}
use Rattle.std.proofs.Math.Seq.{take-add}
use Rattle.std.proofs.lemmas.Bool.{cond-true, cond-false, cond_both}
use Rattle.std.proofs.lemmas.List.Splits.{slice_split-cons_yes}
use Rattle.comfy_parts.proofs.PartLemmas.{first_part}
use Rattle.std.proofs.lemmas.Bool.Decides.{nat_tests}
use Rattle.std.proofs.lemmas.List.{append_assoc, append_cancel_left, take-append-drop, length-map, length-drop, length-take-le}
use Rattle.std.proofs.lemmas.Str.{IsUtf8-nil, IsUtf8-take, IsUtf8-drop, IsUtf8-between, IsCharBoundary-at_seam, chars-append, encodes-append, encodes-chars, encodes_same}
use Rattle.unicode_segmentation.proofs.TextLemmas.{encode_utf8_nonempty}
use Rattle.comfy_parts.specs.Text.{Text, measure, begins_with, elements}
use Rattle.comfy_parts.specs.Following.{Follow, IsFirstElement}
use Rattle.comfy_parts.specs.Wrapping.{bytes_taken, head_or_first, line_end, part_taken}
use Rattle.comfy_parts.proofs.ElementLemmas.{elements-none, elements-first}
use Rattle.comfy_parts.proofs.PlaceLemmas.{scalars-parts}
use Rattle.comfy_parts.proofs.PrintableLineLemmas.{some_parts}

-- ---- the first element

pub some_elements : (d : ℕ) (text : Text) → 0 < length (elements d text)
some_elements d text = grind (arith, length-map, some_parts)

-- after an element come a delimiter and the other elements
pub follow-delimiter : (d : ℕ) (more rest : Text) → rest ≡ encode_utf8 d ++ more → Follow d (elements d more) rest
follow-delimiter d more rest splits = by_elements (elements d more) refl
  where
    by_elements : (es : List Text) → elements d more ≡ es → Follow d es rest
    by_elements [] none = absurd (omega (arith, ap length none, some_elements d more))
    by_elements (e ∷ es) some = (more, splits, some)

-- a text without a delimiter is its own first element, with nothing after it
pub first-none : (d : ℕ) (text : Text) → IsUtf8 text → NoCharPasses (λ c. c == d) text → IsFirstElement d text text []
first-none d text utf8 none = grind (arith, elements-none, append-nil, IsUtf8-nil)

-- the elements of a text with its first delimiter at i, and a rest from j on
pub elements-found : (d : ℕ) (text : Text) (i j : ℕ) → IsScalar d → IsUtf8 text → FindsChar d text (Some (i, j)) → IsCharBoundary text i
    → elements d text ≡ take i text ∷ elements d (drop j text)
elements-found d text i j scalar utf8 (none, at) boundary =
    let splits : text ≡ take i text ++ (encode_utf8 d ++ drop j text) = sym (take-append-drop i text) ∙ ap (λ rest. take i text ++ rest) at.split in
    ap (elements d) splits ∙ elements-first d (take i text) (drop j text) scalar (IsUtf8-take text i utf8 boundary) none

-- the text before the first delimiter is the first element, and this delimiter follows it
pub first-found : (d : ℕ) (text : Text) (i j : ℕ) → IsScalar d → IsUtf8 text → FindsChar d text (Some (i, j)) → IsCharBoundary text i
    → IsFirstElement d text (take i text) (drop i text)
first-found d text i j scalar utf8 found boundary =
    record { others = elements d (drop j text); elements_are = elements-found d text i j scalar utf8 found boundary; follow = follow-delimiter d (drop j text) (drop i text) found.1.split; joined = take-append-drop i text; whole_first = IsUtf8-take text i utf8 boundary; whole_after = IsUtf8-drop text i utf8 boundary }

-- the text before the first delimiter is whole characters
utf8-found : (d : ℕ) (text : Text) (i j : ℕ) → IsUtf8 text → FindsChar d text (Some (i, j)) → IsUtf8 (take i text)
utf8-found d text i j (all, (scalars, spelt)) ((cs, encoded, none), at) =
    let utf8 : IsUtf8 text = (all, (scalars, spelt)) in
    let rest = IsUtf8-drop text j utf8 (subst (IsCharBoundary text) (sym at.ends) at.after) in
    let joined : encode_utf8_all all ≡ encode_utf8_all (cs ++ d ∷ rest.0) =
    spelt ∙ sym (take-append-drop i text) ∙ ap₂ (λ x y. x ++ y) (sym encoded) (at.split ∙ ap (λ t. encode_utf8 d ++ t) (sym rest.1.1)) ∙ sym (encodes-append cs (d ∷ rest.0)) in
    let same = encodes_same all (cs ++ d ∷ rest.0) joined in
    (cs, ((scalars-parts cs (d ∷ rest.0) (sym (ap all_scalars same) ∙ scalars)).0, encoded))

-- the elements of a text that is split at its first delimiter
pub elements-around : (d : ℕ) (text front after : Text) → IsScalar d → IsUtf8 text → SplitsAroundMatch (FindsChar d) text front after → elements d text ≡ front ∷ elements d after
elements-around d text front after scalar utf8 (i, j, found, is_front, is_after, order, front_len, after_len) =
    let splits : text ≡ take i text ++ (encode_utf8 d ++ drop j text) = sym (take-append-drop i text) ∙ ap (λ rest. take i text ++ rest) found.1.split in
    ap (elements d) splits ∙ elements-first d (take i text) (drop j text) scalar (utf8-found d text i j utf8 found) found.0 ∙ ap₂ (λ x y. x ∷ elements d y) (sym is_front) (sym is_after)

-- the text after the first delimiter is whole characters
pub utf8-around : (d : ℕ) (text front after : Text) → IsUtf8 text → SplitsAroundMatch (FindsChar d) text front after → IsUtf8 after
utf8-around d text front after utf8 (i, j, found, is_front, is_after, order, front_len, after_len) = grind (arith, IsUtf8-drop)

-- ---- the next element

-- a text from whose front a delimiter was stripped
pub stripped : (d : ℕ) (text after : Text) → StripsPrefix (FindsCharPrefix d) text after → text ≡ encode_utf8 d ++ after
stripped d text after (n, at, same, bytes) = at.split ∙ ap (λ t. encode_utf8 d ++ t) (sym same)

-- if a delimiter is stripped from the text after an element, the next element begins there
pub follow-next : (d : ℕ) (es : List Text) (rest more next after : Text) → Follow d es rest → rest ≡ encode_utf8 d ++ more → IsFirstElement d more next after
    → (others : List Text) × (es ≡ next ∷ others) × Follow d others after
follow-next d [] rest more next after none splits first =
    absurd (omega (arith, encode_utf8_nonempty d, length-append (encode_utf8 d) more, ap length (sym splits ∙ none)))
follow-next d (e ∷ es) rest more next after (more', same, parts) splits first = grind (arith, append_cancel_left)

-- ---- the rest of a first element

-- without a prefix of its first part, a list has the rest of that part and the other parts
slice_split-rest : (p : ℕ → Bool) (xs ys zs : List ℕ) (parts : List (List ℕ)) → slice_split p (xs ++ ys) ≡ (xs ++ zs) ∷ parts → slice_split p ys ≡ zs ∷ parts
slice_split-rest p [] ys zs parts same = same
slice_split-rest p (x ∷ xs) ys zs parts same =
    let first = first_part p (xs ++ ys) in
    cond_both (p x) _ _ (λ split. split ≡ (x ∷ (xs ++ zs)) ∷ parts → slice_split p ys ≡ zs ∷ parts) (λ _ same. absurd (nothing same))
    (λ _ same. slice_split-rest p xs ys zs parts (first.are ∙ rest first.part first.parts (sym (ap (onto_first x) first.are) ∙ same))) same
  where
    nothing : {split : List (List ℕ)} → [] ∷ split ≡ (x ∷ (xs ++ zs)) ∷ parts → ⊥
    nothing same =
        let empty : [] ≡ x ∷ (xs ++ zs) = cc same in
        omega (arith, ap length empty)

    rest : (q : List ℕ) (qs : List (List ℕ)) → (x ∷ q) ∷ qs ≡ (x ∷ (xs ++ zs)) ∷ parts → q ∷ qs ≡ (xs ++ zs) ∷ parts
    rest q qs same = cc same

-- if a text is cut inside its first element, the rest of that element is the first element of the text after the cut
pub first-rest : (d : ℕ) (text front rest after : Text) → IsUtf8 front → IsUtf8 rest → IsFirstElement d text (front ++ rest) after → IsFirstElement d (rest ++ after) rest after
first-rest d text front rest after utf8 utf8' first = by_parts (slice_split (λ c. c == d) (chars text)) refl
  where
    all : chars text ≡ chars front ++ chars (rest ++ after)
    all = ap chars (sym first.joined ∙ append_assoc front rest after) ∙ chars-append front (rest ++ after) utf8

    by_parts : (parts : List (List ℕ)) → slice_split (λ c. c == d) (chars text) ≡ parts → IsFirstElement d (rest ++ after) rest after
    by_parts [] none = absurd (omega (arith, ap length none, some_parts (λ c. c == d) (chars text)))
    by_parts (q ∷ qs) some =
        let both : encode_utf8_all q ∷ map encode_utf8_all qs ≡ (front ++ rest) ∷ first.others = sym (ap (map encode_utf8_all) some) ∙ first.elements_are in
        let spelt : encode_utf8_all q ≡ front ++ rest = cc both in
        let others : map encode_utf8_all qs ≡ first.others = cc both in
        let spells : encode_utf8_all (chars front ++ chars rest) ≡ front ++ rest = encodes-append (chars front) (chars rest) ∙ ap₂ (λ x y. x ++ y) (encodes-chars front utf8) (encodes-chars rest utf8') in
        let same : q ≡ chars front ++ chars rest = encodes_same q (chars front ++ chars rest) (spelt ∙ sym spells) in
        let parts : slice_split (λ c. c == d) (chars (rest ++ after)) ≡ chars rest ∷ qs =
        slice_split-rest (λ c. c == d) (chars front) (chars (rest ++ after)) (chars rest) qs (ap (slice_split (λ c. c == d)) (sym all) ∙ some ∙ ap (λ x. x ∷ qs) same) in
        record { others = first.others; elements_are = ap (map encode_utf8_all) parts ∙ ap₂ (λ x y. x ∷ y) (encodes-chars rest utf8') others; follow = first.follow; joined = refl; whole_first = utf8'; whole_after = first.whole_after }

-- a text whose first element isn't empty doesn't begin with d
pub begins_otherwise-first : (d : ℕ) (text first after : Text) → IsUtf8 text → IsFirstElement d text first after → 0 < length first → begins_with d text ≡ false
begins_otherwise-first d text first after utf8 is some = grind (arith, begins_otherwise-unless, slice_split-cons_yes)

-- the first element and the text after it, by the position between them
pub first-at : (d : ℕ) (text first after : Text) → IsFirstElement d text first after → IsCharBoundary text (length first) × IsFirstElement d text (take (length first) text) (drop (length first) text)
first-at d text first after is =
    let front : take (length first) text ≡ first = ap (take (length first)) (sym is.joined) ∙ take_at first after (length first) refl in
    let back : drop (length first) text ≡ after = ap (drop (length first)) (sym is.joined) ∙ drop_at first after (length first) refl in
    (IsCharBoundary-at_seam text first after (sym is.joined) is.whole_after, rw (front, back) is)

-- after a position inside the first element, the rest of this element is the first element
pub first-inside : (d : ℕ) (text : Text) (first end : ℕ) → IsUtf8 text → IsFirstElement d text (take first text) (drop first text) → IsCharBoundary text first → IsCharBoundary text end → end < first
    → IsCharBoundary (drop end text) (first - end) × IsFirstElement d (drop end text) (take (first - end) (drop end text)) (drop (first - end) (drop end text)) × (begins_with d (drop end text) ≡ false)
first-inside d text first end utf8 is place cut inside =
    let rest : Text = take (first - end) (drop end text) in
    let back : Text = drop (first - end) (drop end text) in
    let sum : first ≡ end + (first - end) = omega arith in
    let front : take first text ≡ take end text ++ rest = ap (λ n. take n text) sum ∙ take-add end (first - end) text in
    let joined : rest ++ back ≡ drop end text = take-append-drop (first - end) (drop end text) in
    let all : (take end text ++ rest) ++ back ≡ (take end text ++ rest) ++ drop first text =
    append_assoc (take end text) rest back ∙ ap (λ t. take end text ++ t) joined ∙ take-append-drop end text ∙ sym (take-append-drop first text) ∙ ap (λ t. t ++ drop first text) front in
    let after : back ≡ drop first text = append_cancel_left (take end text ++ rest) back (drop first text) all in
    let long : length rest ≡ first - end = length-take-le (first - end) (drop end text) (let whole = length-drop end text in let below = place.0 in omega arith) in
    let whole_rest : IsUtf8 rest = IsUtf8-between text end first utf8 (omega arith) cut place in
    let element : IsFirstElement d (rest ++ drop first text) rest (drop first text) = first-rest d text (take end text) rest (drop first text) (IsUtf8-take text end utf8 cut) whole_rest (rw front at is) in
    let here : IsFirstElement d (drop end text) rest back = subst (λ b. IsFirstElement d (drop end text) rest b) (sym after) (subst (λ t. IsFirstElement d t rest (drop first text)) (ap (λ b. rest ++ b) (sym after) ∙ joined) element) in
    let boundary = IsCharBoundary-at_seam (drop end text) rest back (sym joined) here.whole_after in
    (subst (IsCharBoundary (drop end text)) long boundary, here, begins_otherwise-first d (drop end text) rest back (IsUtf8-drop text end utf8 cut) here (omega (arith, long)))

-- ---- the end of a line, by its first element and the elements after it

-- after an element that doesn't fill the line, the line takes a part of the next one, or all of it and goes on
module _ (w d filled : ℕ) (next : Text) (others : List Text) (free : filled ≤ w - 2) where
  not_full : nat_lt (w - 2) filled ≡ false
  not_full = grind (arith, nat_tests, free)

  pub taken-part : w - filled ≤ measure next → bytes_taken w d filled (next ∷ others) ≡ part_taken w d filled next
  taken-part wide = grind (arith, cond-false, not_full, cond-true, nat_tests)

  pub taken-more : measure next < w - filled → bytes_taken w d filled (next ∷ others) ≡ length (encode_utf8 d) + length next + bytes_taken w d (filled + measure next + measure (encode_utf8 d)) others
  taken-more room = grind (arith, cond-false, not_full, nat_tests)

-- a line ends within its first element if that is wider than the line
pub line_end-wide : (w d : ℕ) (text first after : Text) → IsFirstElement d text first after → nat_lt w (measure first) ≡ true → line_end w d text ≡ length (head_or_first w first)
unfolding line_end
line_end-wide w d text first after is wide = grind (arith, cond-true)

-- any other line ends by the elements after its first one
pub line_end-narrow : (w d : ℕ) (text first after : Text) (is : IsFirstElement d text first after) → nat_lt w (measure first) ≡ false → line_end w d text ≡ length first + bytes_taken w d (measure first) is.others
unfolding line_end
line_end-narrow w d text first after is narrow = grind (arith, cond-false)
