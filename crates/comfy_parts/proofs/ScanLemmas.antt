-- Scanned parts: parts that a scan of their own bytes gives again. Their prefixes and suffixes are scanned too, also
-- with sequences before them and a reset after them.
use Rattle.std.proofs.Common.{◌≡◌, ◌⊎◌, inl, inr, ◌≤◌, ℕ, zero, suc, true, false, List, [], ◌∷◌, ◌++◌, length, refl, sym, ap, ap₂, ◌∙◌, subst, arith, append_assoc, append-nil, length-append}
use Rattle.std.specs.List.{list_all, flat_map}
use Rattle.std.proofs.lemmas.Grind.{flat_map-append}
use Rattle.comfy_parts.specs.Cursor.{sequence_part, visible_part}
use Rattle.comfy_parts.specs.Text.{Text}
use Rattle.comfy_parts.specs.VisibleText.{Part, is_parameter, parts}
use Rattle.comfy_parts.proofs.SequenceLemmas.{IsSequence, BeginsWithSequence, Stops, begins_with_sequence, front_of, visible-stops, parts-sequence, parts-visible}

-- ---- lists of parts

-- the bytes of some parts
abbrev pub bytes_of : List Part → Text
bytes_of ps = flat_map (λ (p : Part). p.bytes) ps

-- the part is a visible byte if `rest` follows it
pub record IsVisibleBefore (rest : Text) (p : Part) : Type 0 where
  pub byte : ℕ
  pub free : begins_with_sequence (byte ∷ rest) ≡ false
  pub is : p ≡ visible_part byte

-- the part is a sequence
pub record IsSequencePart (p : Part) : Type 0 where
  pub sequence : IsSequence p.bytes
  pub is : p ≡ sequence_part p.bytes

-- the parts are those of their bytes if `rest` follows these
abbrev pub AreScanned : List Part → Text → Type 0
AreScanned [] rest = Unit {0}
AreScanned (p ∷ ps) rest = (IsSequencePart p ⊎ IsVisibleBefore (bytes_of ps ++ rest) p) × AreScanned ps rest

-- scanned parts are the first parts of their bytes and the text after them
pub parts-scanned : (ps : List Part) (rest : Text) → AreScanned ps rest → parts (bytes_of ps ++ rest) ≡ ps ++ parts rest
parts-scanned [] rest scanned = refl
parts-scanned (p ∷ ps) rest (inl part, more) =
    let s = part.sequence in
    let joined : p.bytes ++ (bytes_of ps ++ rest) ≡ 0x1B ∷ 0x5B ∷ (s.code ++ (0x6D ∷ (bytes_of ps ++ rest))) =
    ap (λ xs. xs ++ (bytes_of ps ++ rest)) s.is ∙ ap (λ xs. 0x1B ∷ 0x5B ∷ xs) (append_assoc s.code (0x6D ∷ []) (bytes_of ps ++ rest)) in
    let first : sequence_part (0x1B ∷ 0x5B ∷ (s.code ++ (0x6D ∷ []))) ≡ p = ap sequence_part (sym s.is) ∙ sym part.is in
    ap parts (append_assoc p.bytes (bytes_of ps) rest ∙ joined)
    ∙ parts-sequence s.code (bytes_of ps ++ rest) s.parameters
    ∙ ap₂ (λ (x : Part) xs. x ∷ xs) first (parts-scanned ps rest more)
parts-scanned (p ∷ ps) rest (inr part, more) =
    ap (λ (x : Part). parts ((x.bytes ++ bytes_of ps) ++ rest)) part.is
    ∙ parts-visible part.byte (bytes_of ps ++ rest) part.free
    ∙ ap₂ (λ (x : Part) xs. x ∷ xs) (sym part.is) (parts-scanned ps rest more)

-- scanned parts stay scanned before another text, if that can't continue an unfinished sequence
pub scanned-stops : (ps : List Part) (rest other : Text) → Stops other → AreScanned ps rest → AreScanned ps other
scanned-stops [] rest other stops scanned = tt
scanned-stops (p ∷ ps) rest other stops (inl part, more) = (inl part, scanned-stops ps rest other stops more)
scanned-stops (p ∷ ps) rest other stops (inr part, more) = (
  inr (record { byte = part.byte; free = visible-stops part.byte (bytes_of ps) rest other stops part.free; is = part.is }),
  scanned-stops ps rest other stops more,
)

-- the bytes of two lists of parts, joined
joined_bytes : (ps qs : List Part) (rest : Text) → bytes_of (ps ++ qs) ++ rest ≡ bytes_of ps ++ (bytes_of qs ++ rest)
joined_bytes ps qs rest =
    ap (λ xs. xs ++ rest) (flat_map-append (λ (p : Part). p.bytes) ps qs) ∙ append_assoc (bytes_of ps) (bytes_of qs) rest

-- both lists of a joined list of scanned parts are scanned
pub scanned-parts : (ps qs : List Part) (rest : Text) → AreScanned (ps ++ qs) rest → AreScanned ps (bytes_of qs ++ rest) × AreScanned qs rest
scanned-parts [] qs rest scanned = (tt, scanned)
scanned-parts (p ∷ ps) qs rest (inl part, scanned) =
    let more = scanned-parts ps qs rest scanned in
    ((inl part, more.0), more.1)
scanned-parts (p ∷ ps) qs rest (inr part, scanned) =
    let more = scanned-parts ps qs rest scanned in
    ((inr (subst (λ t. IsVisibleBefore t p) (joined_bytes ps qs rest) part), more.0), more.1)

-- ---- the parts of a text are scanned, and have its bytes

-- the parts of the text are scanned, and have its bytes
pub record IsScan (text : Text) : Type 0 where
  pub scanned : AreScanned (parts text) []
  pub bytes : bytes_of (parts text) ≡ text

-- a text with a sequence at its front
scan-sequence : (code rest : Text) → list_all is_parameter code ≡ true → IsScan rest → IsScan (0x1B ∷ 0x5B ∷ (code ++ (0x6D ∷ rest)))
scan-sequence code rest all more =
    let first = parts-sequence code rest all in
    let s : Text = 0x1B ∷ 0x5B ∷ (code ++ (0x6D ∷ [])) in
    record {
      scanned = subst (λ ps. AreScanned ps []) (sym first) (inl (record { sequence = record { code = code; parameters = all; is = refl }; is = refl }), more.scanned);
      bytes = ap bytes_of first ∙ ap (λ xs. s ++ xs) more.bytes ∙ ap (λ xs. 0x1B ∷ 0x5B ∷ xs) (append_assoc code (0x6D ∷ []) rest);
    }

-- a text with a visible byte at its front
scan-visible : (b : ℕ) (rest : Text) → begins_with_sequence (b ∷ rest) ≡ false → IsScan rest → IsScan (b ∷ rest)
scan-visible b rest free more =
    let first = parts-visible b rest free in
    let after : rest ≡ bytes_of (parts rest) ++ [] = sym more.bytes ∙ sym (append-nil (bytes_of (parts rest))) in
    record {
      scanned = subst (λ ps. AreScanned ps []) (sym first) (inr (record { byte = b; free = ap (λ xs. begins_with_sequence (b ∷ xs)) (sym after) ∙ free; is = refl }), more.scanned);
      bytes = ap bytes_of first ∙ ap (λ xs. b ∷ xs) more.bytes;
    }

-- each text of at most `fuel` bytes
scan-within : (fuel : ℕ) (text : Text) → length text ≤ fuel → IsScan text
scan-within fuel [] short = record { scanned = tt; bytes = refl }
scan-within zero (b ∷ rest) short = absurd (omega (arith, short))
scan-within (suc fuel) (b ∷ rest) short = by_front (front_of (b ∷ rest)) (scan-within fuel)
  where
    by_front : BeginsWithSequence (b ∷ rest) ⊎ (begins_with_sequence (b ∷ rest) ≡ false) → ((text : Text) → length text ≤ fuel → IsScan text) → IsScan (b ∷ rest)
    by_front (inl s) more =
        let long = ap length s.is in
        let after = length-append s.code (0x6D ∷ s.rest) in
        subst IsScan (sym s.is) (scan-sequence s.code s.rest s.parameters (more s.rest (omega (arith, short, long, after))))
    by_front (inr free) more = scan-visible b rest free (more rest (omega (arith, short)))

-- every text
pub scan : (text : Text) → IsScan text
scan text = scan-within (length text) text (omega arith)
