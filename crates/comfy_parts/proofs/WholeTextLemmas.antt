-- A text that is a cell's only line is written unchanged if each reset in it follows visible text and closes a
-- sequence, and none is open at its end.
use Rattle.std.proofs.Common.{◌≡◌, ◌<◌, ◌≤◌, ◌⊎◌, inl, inr, ℕ, zero, suc, Bool, true, false, not, ◌==◌, ◌&&◌, List, [], ◌∷◌, ◌++◌, length, map, nat_le, zip, refl, sym, ap, ◌∙◌, subst, arith, append_assoc, append-nil, length-append}
use Rattle.std.specs.List.{concat, flat_map}
use Rattle.std.specs.Prelude.{if◌then◌else◌, bytes_eq}
use Rattle.std.proofs.lemmas.Bool.{and_parts, true≢false}
use Rattle.std.proofs.lemmas.Bool.Decides.{nat_tests}
use Rattle.std.proofs.lemmas.List.Folds.{concat-append}
use Rattle.std.proofs.lemmas.Slice.Eq.{bytes_eq-Decides}
use Rattle.comfy_parts.specs.Cursor.{sequence_part, visible_part}
use Rattle.comfy_parts.specs.Text.{Text, measure}
use Rattle.comfy_parts.specs.VisibleLines.{line_texts, starts_past}
use Rattle.comfy_parts.specs.VisibleText.{Part, closing, line_text, opened, opened_by, parts, parts_before, parts_from, parts_up_to, reset, visible_bytes, visible_text}
use Rattle.comfy_parts.specs.Wrapping.{wrapped}
use Rattle.comfy_parts.proofs.ScanLemmas.{AreScanned, bytes_of, scan}
use Rattle.comfy_parts.proofs.WrittenLemmas.{line_text-written}

-- true if each reset follows visible text and closes a sequence, and none is open at the end; the first two values are
-- true if a sequence is open before the parts, and if they follow visible text
abbrev pub closes_itself : Bool → Bool → List Part → Bool
closes_itself is_open follows_visible [] = not is_open
closes_itself is_open follows_visible (p ∷ ps) =
    if p.is_sequence then (if bytes_eq reset p.bytes then is_open && (follows_visible && closes_itself false false ps) else closes_itself true false ps) else closes_itself is_open true ps

-- the number of visible bytes of some parts
abbrev visible_byte_count : List Part → ℕ
visible_byte_count ps = length (flat_map visible_bytes ps)

-- true if one of these sequences is open
abbrev is_open : List Text → Bool
is_open ss = not (length ss == 0)

some_open : (ss : List Text) (s : Text) → true ≡ is_open (ss ++ s ∷ [])
some_open ss s =
    let some : (length (ss ++ s ∷ []) == 0) ≡ false = grind (arith, nat_tests, length-append ss (s ∷ [])) in
    sym (ap not some)

-- ---- a sequence

-- the sequence is the reset, or another one
record IsReset (ss : List Text) (o follows : Bool) (s : Text) (ps : List Part) : Type 0 where
  is : reset ≡ s
  opens : opened_by ss (sequence_part s) ≡ []
  closes : o ≡ true
  follows_visible : follows ≡ true
  more : closes_itself false false ps ≡ true

record IsOther (ss : List Text) (s : Text) (ps : List Part) : Type 0 where
  opens : opened_by ss (sequence_part s) ≡ ss ++ s ∷ []
  more : closes_itself true false ps ≡ true

at_sequence : (ss : List Text) (o follows : Bool) (s : Text) (ps : List Part) → closes_itself o follows (sequence_part s ∷ ps) ≡ true → IsReset ss o follows s ps ⊎ IsOther ss s ps
at_sequence ss o follows s ps = by_reset (bytes_eq reset s) refl
  where
    by_reset : (b : Bool) → bytes_eq reset s ≡ b → (if b then o && (follows && closes_itself false false ps) else closes_itself true false ps) ≡ true → IsReset ss o follows s ps ⊎ IsOther ss s ps
    by_reset true is closes =
        let first = and_parts o (follows && closes_itself false false ps) closes in
        let second = and_parts follows (closes_itself false false ps) first.1 in
        inl (record { is = (bytes_eq-Decides reset s).0 is; opens = ap (λ (b : Bool). if b then [] else ss ++ s ∷ []) is; closes = first.0; follows_visible = second.0; more = second.1 })
    by_reset false is closes = inr (record { opens = ap (λ (b : Bool). if b then [] else ss ++ s ∷ []) is; more = closes })

-- after visible bytes, a reset follows visible text
pub closes-visible : (o follows : Bool) (bs : Text) (ps : List Part) → 0 < length bs → closes_itself o follows (map visible_part bs ++ ps) ≡ closes_itself o true ps
closes-visible o follows [] ps some = absurd (omega (arith, some))
closes-visible o follows (b ∷ []) ps some = refl
closes-visible o follows (b ∷ c ∷ bs) ps some = closes-visible o true (c ∷ bs) ps (omega arith)

-- ---- no more visible text

-- then no part is left, and no sequence is open
record AreNone (o : Bool) (ps : List Part) : Type 0 where
  empty : ps ≡ []
  closed : o ≡ false

none_left : (o : Bool) (ps : List Part) (rest : Text) → AreScanned ps rest → visible_byte_count ps ≡ 0 → closes_itself o false ps ≡ true → AreNone o ps
none_left false [] rest scanned none closes = record { empty = refl; closed = refl }
none_left true [] rest scanned none closes = absurd (true≢false (sym closes))
none_left o (p ∷ ps) rest (inr part, more) none closes =
    let visible = ap (λ (x : Part). visible_byte_count (x ∷ ps)) part.is in absurd (omega (arith, none, visible))
none_left o (p ∷ ps) rest (inl part, more) none closes =
    by_kind (at_sequence [] o false p.bytes ps (ap (λ (x : Part). closes_itself o false (x ∷ ps)) (sym part.is) ∙ closes))
    (none_left true ps rest more (ap (λ (x : Part). visible_byte_count (x ∷ ps)) (sym part.is) ∙ none))
  where
    by_kind : IsReset [] o false p.bytes ps ⊎ IsOther [] p.bytes ps → (closes_itself true false ps ≡ true → AreNone true ps) → AreNone o (p ∷ ps)
    by_kind (inl same) after = absurd (true≢false (sym same.follows_visible))
    by_kind (inr other) after = absurd (true≢false (after other.more).closed)

-- ---- the written text

-- the bytes up to the n-th visible byte, and the reset that is needed after it
abbrev shut : ℕ → List Text → List Part → Text
shut n ss ps = bytes_of (parts_up_to n ps) ++ closing (opened ss (parts_up_to n ps))

-- up to the last visible byte, these are all bytes of the parts
all_shut : (ss : List Text) (o follows : Bool) (ps : List Part) (rest : Text) → AreScanned ps rest → o ≡ is_open ss → closes_itself o follows ps ≡ true → shut (visible_byte_count ps) ss ps ≡ bytes_of ps
all_shut ss o follows [] rest scanned is closes = by_length (length ss == 0) (ap not (sym is) ∙ closes)
  where
    by_length : (b : Bool) → not (not b) ≡ true → (if b then [] else reset) ≡ []
    by_length true closed = refl
    by_length false closed = absurd (true≢false (sym closed))
all_shut ss o follows (p ∷ ps) rest (inr part, more) is closes =
    subst (λ (x : Part). shut (visible_byte_count (x ∷ ps)) ss (x ∷ ps) ≡ bytes_of (x ∷ ps)) (sym part.is)
    (ap (λ (t : Text). part.byte ∷ t) (all_shut ss o true ps rest more is (ap (λ (x : Part). closes_itself o follows (x ∷ ps)) (sym part.is) ∙ closes)))
all_shut ss o follows (p ∷ ps) rest (inl part, more) is closes =
    subst (λ (x : Part). shut (visible_byte_count (x ∷ ps)) ss (x ∷ ps) ≡ bytes_of (x ∷ ps)) (sym part.is)
    (by_count (visible_byte_count ps) refl (at_sequence ss o follows p.bytes ps (ap (λ (x : Part). closes_itself o follows (x ∷ ps)) (sym part.is) ∙ closes)) (λ ts t is. all_shut ts t false ps rest more is))
  where
    q : Part
    q = sequence_part p.bytes

    IsShut : List Text → Type 0
    IsShut ts = shut (visible_byte_count ps) ts ps ≡ bytes_of ps

    needs_reset : (b : Bool) → not b ≡ true → (if b then [] else reset) ≡ reset
    needs_reset true some = absurd (true≢false (sym some))
    needs_reset false some = refl

    by_kind : IsReset ss o follows p.bytes ps ⊎ IsOther ss p.bytes ps → ((ts : List Text) (t : Bool) → t ≡ is_open ts → closes_itself t false ps ≡ true → IsShut ts) → IsShut (opened_by ss q)
    by_kind (inl same) after = subst IsShut (sym same.opens) (after [] false refl same.more)
    by_kind (inr other) after = subst IsShut (sym other.opens) (after (ss ++ p.bytes ∷ []) true (some_open ss p.bytes) other.more)

    by_count : (n : ℕ) → visible_byte_count ps ≡ n → IsReset ss o follows p.bytes ps ⊎ IsOther ss p.bytes ps → ((ts : List Text) (t : Bool) → t ≡ is_open ts → closes_itself t false ps ≡ true → IsShut ts)
        → shut n ss (q ∷ ps) ≡ p.bytes ++ bytes_of ps
    by_count zero none (inr other) after = absurd (true≢false (none_left true ps rest more none other.more).closed)
    by_count zero none (inl same) after =
        let empty = (none_left false ps rest more none same.more).empty in
        needs_reset (length ss == 0) (sym is ∙ same.closes) ∙ same.is ∙ sym (append-nil p.bytes) ∙ ap (λ (qs : List Part). p.bytes ++ bytes_of qs) (sym empty)
    by_count (suc n) some kind after =
        append_assoc p.bytes (bytes_of (parts_up_to (suc n) ps)) (closing (opened (opened_by ss q) (parts_up_to (suc n) ps)))
        ∙ ap (λ (t : Text). p.bytes ++ t) (subst (λ k. shut k (opened_by ss q) ps ≡ bytes_of ps) some (by_kind kind after))

-- the bytes with the sequences before the first visible byte
abbrev resumed : List Text → List Part → Text
resumed ss ps = concat (opened ss (parts_before 0 ps)) ++ shut (visible_byte_count ps) (opened ss (parts_before 0 ps)) (parts_from 0 ps)

all_resumed : (ss : List Text) (o : Bool) (ps : List Part) (rest : Text) → AreScanned ps rest → o ≡ is_open ss → 0 < visible_byte_count ps → closes_itself o false ps ≡ true → resumed ss ps ≡ concat ss ++ bytes_of ps
all_resumed ss o [] rest scanned is some closes = absurd (omega (arith, some))
all_resumed ss o (p ∷ ps) rest (inr part, more) is some closes =
    subst (λ (x : Part). resumed ss (x ∷ ps) ≡ concat ss ++ shut (visible_byte_count (x ∷ ps)) ss (x ∷ ps)) (sym part.is) refl
    ∙ ap (λ (t : Text). concat ss ++ t) (all_shut ss o false (p ∷ ps) rest (inr part, more) is closes)
all_resumed ss o (p ∷ ps) rest (inl part, more) is some closes =
    subst (λ (x : Part). resumed ss (x ∷ ps) ≡ concat ss ++ bytes_of (x ∷ ps)) (sym part.is) (by_kind (at_sequence ss o false p.bytes ps (ap (λ (x : Part). closes_itself o false (x ∷ ps)) (sym part.is) ∙ closes))
    (all_resumed (ss ++ p.bytes ∷ []) true ps rest more (some_open ss p.bytes) (subst (λ (x : Part). 0 < visible_byte_count (x ∷ ps)) part.is some)))
  where
    s : Text
    s = p.bytes

    by_kind : IsReset ss o false s ps ⊎ IsOther ss s ps → (closes_itself true false ps ≡ true → resumed (ss ++ s ∷ []) ps ≡ concat (ss ++ s ∷ []) ++ bytes_of ps)
        → resumed ss (sequence_part s ∷ ps) ≡ concat ss ++ (s ++ bytes_of ps)
    by_kind (inl same) after = absurd (true≢false (sym same.follows_visible))
    by_kind (inr other) after =
        ap (λ (ts : List Text). resumed ts ps) other.opens
        ∙ after other.more
        ∙ ap (λ (t : Text). t ++ bytes_of ps) (concat-append ss (s ∷ []) ∙ ap (λ (t : Text). concat ss ++ t) (append-nil s))
        ∙ append_assoc (concat ss) s (bytes_of ps)

-- a text that passes the test `closes_itself` is written unchanged
pub written_whole : (text : Text) → closes_itself false false (parts text) ≡ true → line_text [] text 0 (length (visible_text text)) ≡ text
written_whole text closes = sym (line_text-written [] text 0 (visible_byte_count ps)) ∙ by_count (visible_byte_count ps) refl ∙ (scan text).bytes
  where
    ps : List Part
    ps = parts text

    by_count : (n : ℕ) → visible_byte_count ps ≡ n → (if n == 0 then [] else concat (opened [] (parts_before 0 ps)) ++ shut n (opened [] (parts_before 0 ps)) (parts_from 0 ps)) ≡ bytes_of ps
    by_count zero none = sym (ap bytes_of (none_left false ps [] (scan text).scanned none closes).empty)
    by_count (suc n) some =
        let more : (suc n == 0) ≡ false = grind (arith, nat_tests) in
        ap (λ (b : Bool). if b then [] else concat (opened [] (parts_before 0 ps)) ++ shut (suc n) (opened [] (parts_before 0 ps)) (parts_from 0 ps)) more
        ∙ ap (λ k. concat (opened [] (parts_before 0 ps)) ++ shut k (opened [] (parts_before 0 ps)) (parts_from 0 ps)) (sym some)
        ∙ all_resumed [] false ps [] (scan text).scanned refl (omega (arith, some)) closes

-- a cell of such a text alone is written unchanged, if its visible text fits
pub line_of_whole : (w d : ℕ) (text : Text) → measure (visible_text text) ≤ w → line_text [] text 0 (length (visible_text text)) ≡ text → line_texts w d (text ∷ []) ≡ record { measured = visible_text text; written = text } ∷ []
line_of_whole w d text fits whole =
    let visible = visible_text text in
    let fit : nat_le (measure visible) w ≡ true = grind (arith, nat_tests, fits) in
    ap (λ (b : Bool). map (λ (p : ℕ × Text). record { measured = p.1; written = line_text [] text p.0 (length p.1) }) (zip (if b then 0 ∷ [] else starts_past w d 0 0 visible) (if b then visible ∷ [] else wrapped w d visible)) ++ []) fit
    ∙ ap (λ (t : Text). record { measured = visible; written = t } ∷ []) whole
