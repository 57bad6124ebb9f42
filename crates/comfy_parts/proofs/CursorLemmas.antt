-- A cursor over the parts of a text line: the parts that it passes, and its position after them.
use Rattle.std.proofs.Common.{◌≡◌, ◌<◌, ◌≤◌, ℕ, zero, suc, ◌+◌, ◌-◌, true, false, List, [], ◌∷◌, ◌++◌, length, map, take, drop, replicate, refl, sym, ap, ap₂, ◌∙◌, subst, arith, append_assoc, append-nil, length-append}
use Rattle.std.specs.List.{concat, flat_map}
use Rattle.std.specs.Prelude.{if◌then◌else◌, encode_utf8, encode_utf8_all, IsUtf8}
use Rattle.std.specs.Str.{all_scalars, IsCharBoundary}
use Rattle.std.proofs.Math.Utf8.{scalar as scalar_of}
use Rattle.std.proofs.lemmas.Bool.{and_parts, true≢false}
use Rattle.std.proofs.lemmas.Bool.{cases_lt, cond_both}
use Rattle.std.proofs.lemmas.Grind.{flat_map-append}
use Rattle.std.proofs.Math.Seq.{take-append-add, take-append_seam, take-length, drop-append-add, drop-append_seam}
use Rattle.std.proofs.lemmas.List.{length-take-le, take-append-le}
use Rattle.std.proofs.lemmas.Str.{IsCharBoundary-from_take, IsUtf8-drop}
use Rattle.comfy_parts.specs.Cursor.{CursorValue, IsAt, at_byte, begins_with_sequence, bytes_up_to, character_parts, open_at_end, parts_after, past_bytes, visible_part}
use Rattle.comfy_parts.specs.Text.{Text, IsOnly, begins_with}
use Rattle.comfy_parts.specs.VisibleText.{Part, opened, parts, parts_before, parts_from, parts_up_to, visible_bytes, visible_text}
use Rattle.comfy_parts.proofs.FrontLemmas.{parts-after_sequence, visible_bytes-visible}
use Rattle.comfy_parts.proofs.LineTextLemmas.{before_from, before_further}
use Rattle.comfy_parts.proofs.OpenLemmas.{opened-append}
use Rattle.comfy_parts.proofs.ScanLemmas.{bytes_of, scan}
use Rattle.comfy_parts.proofs.SequenceLemmas.{begins_with_sequence as begins}
use Rattle.comfy_parts.proofs.VisibleWholeLemmas.{none_at_front, visible_character}
use Rattle.cluster_width.proofs.SpaceMeasureLemmas.{one_character}
use Rattle.comfy_parts.proofs.WrappingLemmas.{begins_with-append}

-- a cursor with these open sequences and these parts after it
abbrev pub at : List Text → List Part → CursorValue
at ss ps = record { sequences = ss; ahead = ps }

-- ---- parts

-- the parts from a visible byte on don't include a sequence before it
from_sequence : (k : ℕ) (p : Part) (ps : List Part) → p.is_sequence ≡ true → parts_from k (p ∷ ps) ≡ parts_from k ps
from_sequence zero p ps is = ap (λ b. if b then parts_from zero ps else p ∷ ps) is
from_sequence (suc k) p ps is = ap (λ b. parts_from (if b then suc k else k) ps) is

-- the parts from a visible byte on don't include the sequences before the first visible byte
from_zero : (k : ℕ) (ps : List Part) → parts_from k (parts_from zero ps) ≡ parts_from k ps
from_zero k [] = refl
from_zero k (p ∷ ps) = grind (arith, cond_both, from_sequence, from_zero k ps)

from_nil : (n : ℕ) → parts_from n [] ≡ []
from_nil zero = refl
from_nil (suc n) = refl

-- the parts from the k-th visible byte after the n-th one on are those from the (n + k)-th one on
from_further : (n k m : ℕ) (ps : List Part) → m ≡ n + k → parts_from k (parts_from n ps) ≡ parts_from m ps
from_further zero k m ps is = grind (arith, from_zero)
from_further (suc n) k m [] is = from_nil k ∙ sym (from_nil m)
from_further (suc n) k zero (p ∷ ps) is = absurd (omega (arith, is))
from_further (suc n) k (suc m) (p ∷ ps) is =
    from_further (if p.is_sequence then suc n else n) k (if p.is_sequence then suc m else m) ps
    (elim p.is_sequence as (λ b. (if b then suc m else m) ≡ (if b then suc n else n) + k) [ true ↦ is | false ↦ omega (arith, is) ])

-- the parts up to a visible byte, and the parts after it, are all parts
pub up_to_after : (n : ℕ) (ps : List Part) → parts_up_to n ps ++ parts_after n ps ≡ ps
up_to_after zero ps = refl
up_to_after (suc n) [] = refl
up_to_after (suc n) (p ∷ ps) = ap (λ qs. p ∷ qs) (up_to_after (if p.is_sequence then suc n else n) ps)

-- the parts up to the n-th visible byte, and the sequences after it, are the parts before the next visible byte
up_to_before : (n : ℕ) (ps : List Part) → parts_up_to n ps ++ parts_before zero (parts_after n ps) ≡ parts_before n ps
up_to_before zero ps = refl
up_to_before (suc n) [] = refl
up_to_before (suc n) (p ∷ ps) = ap (λ qs. p ∷ qs) (up_to_before (if p.is_sequence then suc n else n) ps)

after_from : (n : ℕ) (ps : List Part) → parts_from zero (parts_after n ps) ≡ parts_from n ps
after_from zero ps = refl
after_from (suc n) [] = refl
after_from (suc n) (p ∷ ps) = after_from (if p.is_sequence then suc n else n) ps

-- ---- positions of a cursor

-- a cursor moved by n visible bytes and then by k is moved by n + k
pub at_further : (n k : ℕ) (c : CursorValue) → at_byte k (at_byte n c) ≡ at_byte (n + k) c
at_further n k c =
    ap₂ at
    (sym (opened-append c.sequences (parts_before n c.ahead) (parts_before k (parts_from n c.ahead))) ∙ ap (opened c.sequences) (sym (before_further n k (n + k) c.ahead refl)))
    (from_further n k (n + k) c.ahead refl)

-- a cursor after the next sequences is at its old position up to sequences
pub at-itself : (c : CursorValue) → IsAt (at_byte 0 c) 0 c
at-itself c = at_further 0 0 c

-- two moves by n and by k visible bytes are a move by n + k
pub at-more : (n k : ℕ) (old mid new : CursorValue) → IsAt mid n old → IsAt new k mid → IsAt new (n + k) old
at-more n k old mid new first next =
    let plain : 0 + k ≡ k = omega arith in
    next ∙ ap (λ j. at_byte j mid) (sym plain) ∙ sym (at_further 0 k mid) ∙ ap (at_byte k) first ∙ at_further n k old

-- a cursor moved past n visible bytes is at the n-th one up to sequences
pub at-past : (n : ℕ) (c : CursorValue) → IsAt (past_bytes n c) n c
at-past n c =
    ap₂ at
    (sym (opened-append c.sequences (parts_up_to n c.ahead) (parts_before zero (parts_after n c.ahead))) ∙ ap (opened c.sequences) (up_to_before n c.ahead))
    (after_from n c.ahead)

-- a move doesn't change the sequences that are open at the end of the text line
pub end-at : (n : ℕ) (c : CursorValue) → open_at_end (at_byte n c) ≡ open_at_end c
end-at n c =
    sym (opened-append c.sequences (parts_before n c.ahead) (parts_from n c.ahead)) ∙ ap (opened c.sequences) (before_from n c.ahead)

-- a cursor that is at the new position only up to sequences has the same sequences at the end of the text line
pub end-same : (n : ℕ) (new old : CursorValue) → IsAt new n old → open_at_end new ≡ open_at_end old
end-same n new old is_at = sym (end-at 0 new) ∙ ap open_at_end is_at ∙ end-at n old

-- ---- after sequences

-- no sequence follows directly after the next sequences
pub front-free : (ps : List Part) → begins_with_sequence (parts_from zero ps) ≡ false
front-free [] = refl
front-free (p ∷ ps) = grind (arith, cond_both, front-free ps)

-- at most as many parts are left after the next sequences
pub from-fewer : (ps : List Part) → length (parts_from zero ps) ≤ length ps
from-fewer [] = omega arith
from-fewer (p ∷ ps) = grind (arith, cond_both, from-fewer ps)

-- sequences have no visible bytes
pub visible-front : (ps : List Part) → flat_map visible_bytes (parts_from zero ps) ≡ flat_map visible_bytes ps
visible-front [] = refl
visible-front (p ∷ ps) = grind (arith, cond_both, visible-front ps)

-- ---- visible bytes are passed

-- visible bytes at the front are passed first, and fewer are left to pass
pub visible-after : (n : ℕ) (ss : List Text) (bs : Text) (ps : List Part) → length bs ≤ n → past_bytes n (at ss (map visible_part bs ++ ps)) ≡ past_bytes (n - length bs) (at ss ps)
visible-after n ss [] ps few = grind arith
visible-after zero ss (b ∷ bs) ps few = absurd (omega (arith, few))
visible-after (suc n) ss (b ∷ bs) ps few = grind (arith, visible-after n ss bs ps (omega (arith, few)))

-- a cursor after some visible bytes is as many bytes further on
visible-at : (ss : List Text) (bs : Text) (ps : List Part) → IsAt (at ss ps) (length bs) (at ss (map visible_part bs ++ ps))
visible-at ss [] ps = refl
visible-at ss (b ∷ bs) ps = visible-at ss bs ps

pub character-at : (ss : List Text) (c : ℕ) (ps : List Part) → IsAt (at ss ps) (length (encode_utf8 c)) (at ss (character_parts c ++ ps))
character-at ss c ps = visible-at ss (encode_utf8 c) ps

-- ---- the front of a text

-- if the first part of a text isn't a sequence, the text doesn't begin with one
pub none_ahead : (text : Text) → begins_with_sequence (parts text) ≡ false → begins text ≡ false
none_ahead text none = grind (arith, none_at_front, true≢false, parts-after_sequence)

-- if a text begins with neither a sequence nor d, its visible text doesn't begin with d
pub begins_visible : (d : ℕ) (text : Text) → IsUtf8 text → begins text ≡ false → begins_with d text ≡ false → begins_with d (visible_text text) ≡ false
begins_visible d text ([], (scalars, is)) free otherwise = grind arith
begins_visible d text (c ∷ cs, (scalars, is)) free otherwise =
    let more = encode_utf8_all cs in
    let one = one_character c (and_parts (scalar_of c) (all_scalars cs) scalars).0 in
    ap (λ t. begins_with d (visible_text t)) (sym is)
    ∙ ap (begins_with d) (visible_character c more (ap begins is ∙ free))
    ∙ begins_with-append d c (encode_utf8 c) (visible_text more) [] one.0 one.1
    ∙ sym (begins_with-append d c (encode_utf8 c) more [] one.0 one.1)
    ∙ ap (begins_with d) is
    ∙ otherwise

-- ---- whole characters

-- if n bytes are whole characters, and so are the first of them, the rest of them is whole characters
pub whole-after : (n : ℕ) (run rest : Text) → IsUtf8 run → length run ≤ n → IsUtf8 (take n (run ++ rest)) → IsUtf8 (take (n - length run) rest)
whole-after n run rest whole few all =
    subst IsUtf8 (ap (drop (length run)) cut ∙ drop-append_seam run (take (n - length run) rest)) (IsUtf8-drop (take n (run ++ rest)) (length run) all place)
  where
    cut : take n (run ++ rest) ≡ run ++ take (n - length run) rest
    cut =
        let same : n ≡ length run + (n - length run) = omega (arith, few) in
        ap (λ k. take k (run ++ rest)) same ∙ take-append-add run rest (n - length run)

    place : IsCharBoundary (take n (run ++ rest)) (length run)
    place =
        let long = ap length cut ∙ length-append run (take (n - length run) rest) in
        IsCharBoundary-from_take (take n (run ++ rest)) (length run) all (omega (arith, long)) (subst IsUtf8 (sym (ap (take (length run)) cut ∙ take-append_seam run (take (n - length run) rest))) whole)

-- dropping n bytes after a run that has at most n drops the rest of them after the run
pub drops-after : (n : ℕ) (run rest : Text) → length run ≤ n → drop n (run ++ rest) ≡ drop (n - length run) rest
drops-after n run rest few = grind (arith, drop-append-add)

-- a run of visible bytes at the front of a text ends at a character boundary
pub run-place : (n most : ℕ) (text : Text) → IsUtf8 text → n ≤ most → n ≤ length text → (n < most → IsCharBoundary text n)
    → parts text ≡ map visible_part (take n text) ++ parts (drop n text) → (most ≤ length text → IsUtf8 (take most (visible_text text))) → IsCharBoundary text n
run-place n most text utf8 within inside before divides whole = grind (arith, cases_lt, visible_bytes-visible, length-take-le, take-append-le, take-length, IsCharBoundary-from_take)

-- ---- delimiters

-- a gap of delimiters with one more delimiter is such a gap
pub only-push : (d : ℕ) (gap : Text) → IsOnly d gap → IsOnly d (gap ++ encode_utf8 d)
only-push d gap (n, only) = (suc n, ap (λ g. g ++ encode_utf8 d) only ∙ turned n)
  where
    turned : (n : ℕ) → encode_utf8_all (replicate n d) ++ encode_utf8 d ≡ encode_utf8 d ++ encode_utf8_all (replicate n d)
    turned zero = sym (append-nil (encode_utf8 d))
    turned (suc n) =
        append_assoc (encode_utf8 d) (encode_utf8_all (replicate n d)) (encode_utf8 d) ∙ ap (λ t. encode_utf8 d ++ t) (turned n)

-- ---- taken bytes

-- a text consists of the bytes that a cursor passed and the bytes after it
pub record IsTaken (taken text rest : Text) : Type 0 where
  pub joined : text ≡ taken ++ rest
  pub fits : length rest ≤ length text
  pub place : length text - length rest ≡ length taken

-- a cursor that passed n visible bytes has passed such bytes
pub is_taken : (n : ℕ) (old : CursorValue) (text rest : Text) → old.ahead ≡ parts text → parts_after n old.ahead ≡ parts rest → IsTaken (bytes_up_to n old) text rest
is_taken n old text rest before after =
    let bytes = ap length joined ∙ length-append (bytes_up_to n old) rest in
    record { joined = joined; fits = omega (arith, bytes); place = omega (arith, bytes) }
  where
    joined : text ≡ bytes_up_to n old ++ rest
    joined =
        sym (scan text).bytes
        ∙ ap bytes_of (sym before ∙ sym (up_to_after n old.ahead))
        ∙ flat_map-append (λ (p : Part). p.bytes) (parts_up_to n old.ahead) (parts_after n old.ahead)
        ∙ ap (λ t. bytes_up_to n old ++ t) (ap bytes_of after ∙ (scan rest).bytes)

-- ---- sequences

-- concatenating images of a list is the concatenation of the list of images
pub concat-map : {X : Type 0} (f : X → Text) (xs : List X) → flat_map f xs ≡ concat (map f xs)
concat-map f [] = refl
concat-map f (x ∷ xs) = ap (λ t. f x ++ t) (concat-map f xs)
