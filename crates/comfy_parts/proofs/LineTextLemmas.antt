-- The text of a line of a cell with sequences: no sequence is left open, the sequences open at its start are resumed,
-- and its visible text is the line.
use Rattle.std.proofs.Common.{◌≡◌, inl, inr, ◌<◌, ◌≤◌, ℕ, zero, suc, ◌+◌, Bool, true, false, ◌==◌, List, [], ◌∷◌, ◌++◌, length, map, take, drop, refl, sym, ap, ◌∙◌, subst, arith, append_assoc, append-nil, eqb-true}
use Rattle.std.specs.List.{list_any, flat_map, concat, AllByRecursion}
use Rattle.std.specs.Prelude.{if◌then◌else◌}
use Rattle.std.proofs.lemmas.Bool.{cond_both, or_parts}
use Rattle.std.proofs.lemmas.Bool.Decides.{nat_tests}
use Rattle.std.proofs.lemmas.Grind.{flat_map-append}
use Rattle.std.proofs.lemmas.List.{length-drop}
use Rattle.comfy_parts.specs.Cursor.{sequence_part}
use Rattle.comfy_parts.specs.Text.{HasNo, Text}
use Rattle.comfy_parts.specs.VisibleText.{Part, parts, visible_bytes, visible_text, reset, open_after, opened, parts_before, parts_from, parts_up_to, active, closed, line_text}
use Rattle.comfy_parts.proofs.OpenLemmas.{every-opened, open_after-again, opened-append}
use Rattle.comfy_parts.proofs.ScanLemmas.{AreScanned, bytes_of, parts-scanned, scanned-parts, scanned-stops, scan}
use Rattle.comfy_parts.proofs.SequenceLemmas.{IsSequence, Stops-nil, Stops-escape}
use Rattle.comfy_parts.proofs.ShownLemmas.{Shows, Shows-nil, Shows-append, Shows-byte, Shows-sequence}

-- ---- parts before and after a visible byte

-- the visible bytes of some parts
abbrev pub visible_bytes_of : List Part → Text
visible_bytes_of ps = flat_map visible_bytes ps

-- the number of visible bytes of some parts
abbrev pub visible_count : List Part → ℕ
visible_count [] = 0
visible_count (p ∷ ps) = if p.is_sequence then visible_count ps else suc (visible_count ps)

-- no part is before a visible byte of an empty list
before_nil : (n : ℕ) → parts_before n [] ≡ []
before_nil zero = refl
before_nil (suc n) = refl

-- the parts before a visible byte, and those from it on, are all parts
pub before_from : (n : ℕ) (ps : List Part) → parts_before n ps ++ parts_from n ps ≡ ps
before_from zero [] = refl
before_from (suc n) [] = refl
before_from zero (p ∷ ps) = grind (arith, before_from zero ps)
before_from (suc n) (p ∷ ps) = ap (λ xs. p ∷ xs) (before_from (if p.is_sequence then suc n else n) ps)

-- the parts up to a visible byte are a prefix of all parts
up_to_more : (n : ℕ) (ps : List Part) → (more : List Part) × (ps ≡ parts_up_to n ps ++ more)
up_to_more zero ps = (ps, refl)
up_to_more (suc n) [] = ([], refl)
up_to_more (suc n) (p ∷ ps) = grind (arith, up_to_more (if p.is_sequence then suc n else n) ps)

-- a sequence at the front is before each visible byte
before_sequence : (k : ℕ) (p : Part) (ps : List Part) → p.is_sequence ≡ true → parts_before k (p ∷ ps) ≡ p ∷ parts_before k ps
before_sequence zero p ps is = ap (λ b. if b then p ∷ parts_before zero ps else []) is
before_sequence (suc k) p ps is = ap (λ b. p ∷ parts_before (if b then suc k else k) ps) is

-- sequences at the front are before each visible byte
before_sequences : (k : ℕ) (ss : List Text) (ps : List Part) → parts_before k (map sequence_part ss ++ ps) ≡ map sequence_part ss ++ parts_before k ps
before_sequences k [] ps = refl
before_sequences k (s ∷ ss) ps = grind (arith, before_sequence, before_sequences k ss ps)

-- the parts before a visible byte begin with those before the first one
before_zero : (k : ℕ) (ps : List Part) → parts_before k ps ≡ parts_before zero ps ++ parts_before k (parts_from zero ps)
before_zero k [] = refl
before_zero k (p ∷ ps) = grind (arith, before_sequence, before_zero k ps)

-- the parts before a visible byte begin with those before each earlier one
pub before_further : (n k m : ℕ) (ps : List Part) → m ≡ n + k → parts_before m ps ≡ parts_before n ps ++ parts_before k (parts_from n ps)
before_further zero k m ps is = grind (arith, before_zero)
before_further (suc n) k m [] is = before_nil m ∙ sym (before_nil k)
before_further (suc n) k zero (p ∷ ps) is = absurd (omega (arith, is))
before_further (suc n) k (suc m) (p ∷ ps) is =
    ap (λ xs. p ∷ xs) (before_further (if p.is_sequence then suc n else n) k (if p.is_sequence then suc m else m) ps
    (elim p.is_sequence as (λ b. (if b then suc m else m) ≡ (if b then suc n else n) + k) [ true ↦ is | false ↦ omega (arith, is) ]))

-- parts after the `len`-th visible byte don't change the parts before an earlier one
before_within : (k len : ℕ) (ps more : List Part) → k < len → k < visible_count ps → parts_before k (parts_up_to len ps ++ more) ≡ parts_before k ps
before_within k zero ps more short some = absurd (omega (arith, short))
before_within k (suc len) [] more short some = absurd (omega (arith, some))
before_within k (suc len) (p ∷ ps) more short some =
    by_test p.is_sequence refl some (λ j l. before_within j l ps more)
  where
    by_test : (b : Bool) → p.is_sequence ≡ b → k < (if b then visible_count ps else suc (visible_count ps))
        → ((j l : ℕ) → j < l → j < visible_count ps → parts_before j (parts_up_to l ps ++ more) ≡ parts_before j ps)
        → parts_before k (p ∷ (parts_up_to (if b then suc len else len) ps ++ more)) ≡ parts_before k (p ∷ ps)
    by_test true is some rest =
        before_sequence k p (parts_up_to (suc len) ps ++ more) is ∙ ap (λ xs. p ∷ xs) (rest k (suc len) short some) ∙ sym (before_sequence k p ps is)
    by_test false is some rest = visible k short some
      where
        visible : (k : ℕ) → k < suc len → k < suc (visible_count ps) → parts_before k (p ∷ (parts_up_to len ps ++ more)) ≡ parts_before k (p ∷ ps)
        visible zero short some =
            ap (λ b. if b then p ∷ parts_before zero (parts_up_to len ps ++ more) else []) is ∙ sym (ap (λ b. if b then p ∷ parts_before zero ps else []) is)
        visible (suc k) short some =
            ap (λ b. p ∷ parts_before (if b then suc k else k) (parts_up_to len ps ++ more)) is
            ∙ ap (λ xs. p ∷ xs) (rest k len (omega (arith, short)) (omega (arith, some)))
            ∙ sym (ap (λ b. p ∷ parts_before (if b then suc k else k) ps) is)

-- ---- visible bytes of scanned parts

-- the visible bytes from the n-th one on
visible_bytes_from : (n : ℕ) (ps : List Part) (rest : Text) → AreScanned ps rest → visible_bytes_of (parts_from n ps) ≡ drop n (visible_bytes_of ps)
visible_bytes_from zero [] rest scanned = refl
visible_bytes_from (suc n) [] rest scanned = refl
visible_bytes_from zero (p ∷ ps) rest (inl part, more) = grind (arith, visible_bytes_from zero ps rest more)
visible_bytes_from zero (p ∷ ps) rest (inr part, more) = grind arith
visible_bytes_from (suc n) (p ∷ ps) rest (inl part, more) = grind (arith, visible_bytes_from (suc n) ps rest more)
visible_bytes_from (suc n) (p ∷ ps) rest (inr part, more) = grind (arith, visible_bytes_from n ps rest more)

-- the first n visible bytes
visible_bytes_up_to : (n : ℕ) (ps : List Part) (rest : Text) → AreScanned ps rest → visible_bytes_of (parts_up_to n ps) ≡ take n (visible_bytes_of ps)
visible_bytes_up_to zero ps rest scanned = refl
visible_bytes_up_to (suc n) [] rest scanned = refl
visible_bytes_up_to (suc n) (p ∷ ps) rest (inl part, more) = grind (arith, visible_bytes_up_to (suc n) ps rest more)
visible_bytes_up_to (suc n) (p ∷ ps) rest (inr part, more) = grind (arith, visible_bytes_up_to n ps rest more)

-- the count of visible bytes is their length
count-visible : (ps : List Part) (rest : Text) → AreScanned ps rest → visible_count ps ≡ length (visible_bytes_of ps)
count-visible [] rest scanned = refl
count-visible (p ∷ ps) rest (inl part, more) = grind (arith, count-visible ps rest more)
count-visible (p ∷ ps) rest (inr part, more) = grind (arith, count-visible ps rest more)

-- ---- closed texts

-- the reset that closes a text, as a part, or no part
abbrev closing_part : List Text → List Part
closing_part ss = if length ss == 0 then [] else sequence_part reset ∷ []

-- a closed text has the parts of the text, and perhaps a reset
parts-closed : (text : Text) → parts (closed text) ≡ parts text ++ closing_part (open_after (parts text))
parts-closed text =
    elim (length (open_after (parts text)) == 0) as (λ b. parts (text ++ (if b then [] else reset)) ≡ parts text ++ (if b then [] else sequence_part reset ∷ [])) [
      | true ↦ ap parts (append-nil text) ∙ sym (append-nil (parts text))
      | false ↦ ap (λ t. parts (t ++ reset)) (sym (scan text).bytes) ∙ parts-scanned (parts text) reset (scanned-stops (parts text) [] reset (Stops-escape _) (scan text).scanned)
    ]

-- no sequence is open at the end of a closed text
pub none_open : (text : Text) → open_after (parts (closed text)) ≡ []
none_open text =
    ap open_after (parts-closed text)
    ∙ opened-append [] (parts text) (closing_part (open_after (parts text)))
    ∙ by_count (open_after (parts text))
  where
    by_count : (ss : List Text) → opened ss (closing_part ss) ≡ []
    by_count [] = refl
    by_count (s ∷ ss) =
        let some : (length (s ∷ ss) == 0) ≡ false = grind (arith, nat_tests) in
        ap (λ b. opened (s ∷ ss) (if b then [] else sequence_part reset ∷ [])) some

-- a closed text has the same visible text
pub visible-closed : (text : Text) → visible_text (closed text) ≡ visible_text text
visible-closed text = grind (arith, parts-closed, flat_map-append, cond_both, append-nil)

-- ---- sequences that are resumed

-- the sequences that earlier text lines leave open are sequences
every_earlier : (ss texts : List Text) → AllByRecursion IsSequence ss → AllByRecursion IsSequence (opened ss (flat_map parts texts))
every_earlier ss [] each = each
every_earlier ss (text ∷ texts) each = grind (arith, opened-append, every-opened, scan, every_earlier (opened ss (parts text)) texts (every-opened ss (parts text) [] each (scan text).scanned))

-- sequences are scanned parts, whatever follows them
sequences_scanned : (ss : List Text) (rest : Text) → AllByRecursion IsSequence ss → AreScanned (map sequence_part ss) rest
sequences_scanned [] rest each = tt
sequences_scanned (s ∷ ss) rest each = grind (arith, sequences_scanned ss rest each.1)

-- the bytes of sequences are the sequences, joined
bytes_of-sequences : (ss : List Text) → bytes_of (map sequence_part ss) ≡ concat ss
bytes_of-sequences [] = refl
bytes_of-sequences (s ∷ ss) = ap (λ xs. s ++ xs) (bytes_of-sequences ss)

-- sequences have no visible bytes
visible_bytes_of-sequences : (ss : List Text) → visible_bytes_of (map sequence_part ss) ≡ []
visible_bytes_of-sequences [] = refl
visible_bytes_of-sequences (s ∷ ss) = visible_bytes_of-sequences ss

-- ---- the text of a line

module _ (earlier : List Text) (text : Text) (start len : ℕ) where
  -- the sequences that are resumed, the parts that the line takes, and the text of both
  abbrev resumed : List Text
  resumed = active earlier text start

  abbrev taken : List Part
  taken = parts_up_to len (parts_from start (parts text))

  abbrev written : Text
  written = concat resumed ++ bytes_of taken

  every_resumed : AllByRecursion IsSequence resumed
  every_resumed =
      subst (AllByRecursion IsSequence) (sym (opened-append [] (flat_map parts earlier) (parts_before start (parts text))))
      (every-opened (open_after (flat_map parts earlier)) (parts_before start (parts text)) (bytes_of (parts_from start (parts text)) ++ []) (every_earlier [] earlier tt)
      (scanned-parts (parts_before start (parts text)) (parts_from start (parts text)) [] (subst (λ ps. AreScanned ps []) (sym (before_from start (parts text))) (scan text).scanned)).0)

  from_scanned : AreScanned (parts_from start (parts text)) []
  from_scanned =
      (scanned-parts (parts_before start (parts text)) (parts_from start (parts text)) [] (subst (λ ps. AreScanned ps []) (sym (before_from start (parts text))) (scan text).scanned)).1

  taken_scanned : AreScanned taken []
  taken_scanned =
      let rest = up_to_more len (parts_from start (parts text)) in
      scanned-stops taken (bytes_of rest.0 ++ []) [] Stops-nil (scanned-parts taken rest.0 [] (subst (λ ps. AreScanned ps []) rest.1 from_scanned)).0

  -- the text that is written has these parts
  pub parts-written : parts written ≡ map sequence_part resumed ++ taken
  parts-written =
      ap (λ xs. parts (xs ++ bytes_of taken)) (sym (bytes_of-sequences resumed))
      ∙ parts-scanned (map sequence_part resumed) (bytes_of taken) (sequences_scanned resumed (bytes_of taken) every_resumed)
      ∙ ap (λ xs. map sequence_part resumed ++ parts xs) (sym (append-nil (bytes_of taken)))
      ∙ ap (λ xs. map sequence_part resumed ++ xs) (parts-scanned taken [] taken_scanned ∙ append-nil taken)

  visible_taken : visible_bytes_of taken ≡ take len (drop start (visible_text text))
  visible_taken = visible_bytes_up_to len (parts_from start (parts text)) [] from_scanned ∙ ap (take len) (visible_bytes_from start (parts text) [] (scan text).scanned)

  visible_written : visible_text written ≡ take len (drop start (visible_text text))
  visible_written = grind (arith, parts-written, flat_map-append, visible_bytes_of-sequences, visible_taken)

  -- no sequence is open at the end of the line
  pub line_closed : open_after (parts (line_text earlier text start len)) ≡ []
  line_closed = grind (arith, cond_both, none_open)

  -- the visible text of the line is its slice of the visible text of the text line
  pub line_visible : visible_text (line_text earlier text start len) ≡ take len (drop start (visible_text text))
  line_visible = grind (arith, cond_both, eqb-true, visible-closed, visible_written)

  -- before each visible byte of the line, the open sequences are those that are open there in the cell
  pub line_resumes : (k : ℕ) → start + len ≤ length (visible_text text) → k < len → open_after (parts_before k (parts (line_text earlier text start len))) ≡ active earlier text (start + k)
  line_resumes k within below =
      ap (λ (b : Bool). open_after (parts_before k (parts (if b then [] else closed written)))) some
      ∙ ap (λ ps. open_after (parts_before k ps)) (parts-closed written ∙ ap (λ ps. ps ++ last) parts-written ∙ append_assoc (map sequence_part resumed) taken last)
      ∙ ap open_after (before_sequences k resumed (taken ++ last) ∙ ap (λ ps. map sequence_part resumed ++ ps) (before_within k len (parts_from start (parts text)) last below enough))
      ∙ open_after-again (flat_map parts earlier ++ parts_before start (parts text)) inner
      ∙ ap open_after (append_assoc (flat_map parts earlier) (parts_before start (parts text)) inner ∙ ap (λ ps. flat_map parts earlier ++ ps) (sym (before_further start k (start + k) (parts text) refl)))
    where
      last : List Part
      last = closing_part (open_after (parts written))

      inner : List Part
      inner = parts_before k (parts_from start (parts text))

      some : (len == 0) ≡ false
      some = grind (arith, nat_tests, below)

      enough : k < visible_count (parts_from start (parts text))
      enough =
          let counted = count-visible (parts_from start (parts text)) [] from_scanned in
          let visible = ap length (visible_bytes_from start (parts text) [] (scan text).scanned) in
          let left = length-drop start (visible_text text) in
          omega (arith, counted, visible, left, within, below)

-- ---- visible text before any other text

-- scanned parts without a visible ESC show their visible bytes, whatever follows them
Shows-scanned : (ps : List Part) (rest : Text) → AreScanned ps rest → HasNo 0x1B (visible_bytes_of ps) → Shows (visible_bytes_of ps) (bytes_of ps)
Shows-scanned [] rest scanned clear = Shows-nil
Shows-scanned (p ∷ ps) rest (inl part, more) clear = grind (arith, bytes_of, Shows-append, Shows-sequence, Shows-scanned ps rest more (subst (λ (x : Part). HasNo 0x1B (visible_bytes_of (x ∷ ps))) part.is clear))
Shows-scanned (p ∷ ps) rest (inr part, more) clear =
    let here = or_parts (part.byte == 0x1B) (list_any (λ b. b == 0x1B) (visible_bytes_of ps)) (subst (λ (x : Part). HasNo 0x1B (visible_bytes_of (x ∷ ps))) part.is clear) in
    subst (λ (x : Part). Shows (visible_bytes_of (x ∷ ps)) (x.bytes ++ bytes_of ps)) (sym part.is)
    (Shows-append (part.byte ∷ []) (visible_bytes_of ps) (part.byte ∷ []) (bytes_of ps) (Shows-byte part.byte here.0) (Shows-scanned ps rest more here.1))

-- a text without a visible ESC shows its visible text
pub Shows-visible : (text : Text) → HasNo 0x1B (visible_text text) → Shows (visible_text text) text
Shows-visible text clear = subst (Shows (visible_text text)) (scan text).bytes (Shows-scanned (parts text) [] (scan text).scanned clear)
