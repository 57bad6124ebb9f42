-- Texts that open no sequence, whatever follows them: texts without ESC, and closed texts that the text after them
-- can't continue.
use Rattle.std.proofs.Common.{◌≡◌, inl, inr, ◌==◌, true, List, [], ◌∷◌, ◌++◌, refl, sym, ap, ◌∙◌, subst, append_assoc, append-nil}
use Rattle.std.specs.List.{list_all, list_any}
use Rattle.std.proofs.lemmas.Bool.{or_parts}
use Rattle.comfy_parts.proofs.BreakLemmas.{HasNo-visible}
use Rattle.comfy_parts.proofs.LineTextLemmas.{visible-closed, visible_bytes_of}
use Rattle.comfy_parts.proofs.OpenLemmas.{opened-append}
use Rattle.comfy_parts.proofs.ScanLemmas.{AreScanned, bytes_of, parts-scanned, scan, scanned-stops}
use Rattle.comfy_parts.proofs.SequenceLemmas.{Stops, Stops-escape, no_sequence, parts-sequence, parts-visible}
use Rattle.comfy_parts.specs.Text.{HasNo, Text}
use Rattle.comfy_parts.specs.VisibleText.{Part, closed, is_parameter, open_after, opened, parts, reset, visible_text}

-- ---- texts that no other text continues

-- the parts of the text are the same before any text
pub record IsScannedAlone (text : Text) : Type 0 where
  pub alone : (rest : Text) → parts (text ++ rest) ≡ parts text ++ parts rest

-- the parts of a text don't depend on the text after it if they are scanned before any text
alone-scanned : (text : Text) → ((rest : Text) → AreScanned (parts text) rest) → IsScannedAlone text
alone-scanned text scanned =
    record { alone = λ rest. ap (λ t. parts (t ++ rest)) (sym (scan text).bytes) ∙ parts-scanned (parts text) rest (scanned rest) }

-- scanned parts without a visible ESC are scanned before any text
scanned-clear : (ps : List Part) (rest other : Text) → AreScanned ps rest → HasNo 0x1B (visible_bytes_of ps) → AreScanned ps other
scanned-clear [] rest other scanned clear = tt
scanned-clear (p ∷ ps) rest other (inl part, more) clear =
    (inl part, scanned-clear ps rest other more (subst (λ (x : Part). HasNo 0x1B (visible_bytes_of (x ∷ ps))) part.is clear))
scanned-clear (p ∷ ps) rest other (inr part, more) clear =
    let here = or_parts (part.byte == 0x1B) (list_any (λ b. b == 0x1B) (visible_bytes_of ps)) (subst (λ (x : Part). HasNo 0x1B (visible_bytes_of (x ∷ ps))) part.is clear) in
    (inr (record { byte = part.byte; free = no_sequence part.byte (bytes_of ps ++ other) here.0; is = part.is }), scanned-clear ps rest other more here.1)

-- the parts of a text without a visible ESC don't depend on the text after it
pub alone-visible : (text : Text) → HasNo 0x1B (visible_text text) → IsScannedAlone text
alone-visible text clear = alone-scanned text (λ rest. scanned-clear (parts text) [] rest (scan text).scanned clear)

-- the parts of a text without ESC don't depend on the text after it, nor do those of its closed text
pub alone-clear : (text : Text) → HasNo 0x1B text → IsScannedAlone text
alone-clear text clear = alone-visible text (HasNo-visible 0x1B text clear)

pub alone-closed : (text : Text) → HasNo 0x1B text → IsScannedAlone (closed text)
alone-closed text clear = alone-visible (closed text) (subst (HasNo 0x1B) (sym (visible-closed text)) (HasNo-visible 0x1B text clear))

-- the parts of a concatenation of two such texts don't depend on the text after it
pub alone-append : (xs ys : Text) → IsScannedAlone xs → IsScannedAlone ys → IsScannedAlone (xs ++ ys)
alone-append xs ys front back =
    record { alone = λ rest. ap parts (append_assoc xs ys rest) ∙ front.alone (ys ++ rest) ∙ ap (λ ps. parts xs ++ ps) (back.alone rest) ∙ sym (append_assoc (parts xs) (parts ys) (parts rest)) ∙ ap (λ ps. ps ++ parts rest) (sym (front.alone ys)) }

-- the parts of a sequence don't depend on the text after it
pub alone-sequence : (code : Text) → list_all is_parameter code ≡ true → IsScannedAlone (0x1B ∷ 0x5B ∷ (code ++ (0x6D ∷ [])))
alone-sequence code all =
    record { alone = λ rest. ap (λ t. parts (0x1B ∷ 0x5B ∷ t)) (append_assoc code (0x6D ∷ []) rest) ∙ parts-sequence code rest all ∙ ap (λ ps. ps ++ parts rest) (sym (parts-sequence code [] all)) }

-- ---- texts that open no sequence

-- after the text and any other text, the open sequences are those of the other text
pub record OpensNone (text : Text) : Type 0 where
  pub none : (rest : Text) → open_after (parts (text ++ rest)) ≡ open_after (parts rest)

-- no sequence is open after such a text
pub none-after : (text : Text) → OpensNone text → open_after (parts text) ≡ []
none-after text own = ap (λ t. open_after (parts t)) (sym (append-nil text)) ∙ own.none []

-- a text opens no sequence if none is open after it, and its parts don't depend on the text after it
pub opens-alone : (text : Text) → open_after (parts text) ≡ [] → IsScannedAlone text → OpensNone text
opens-alone text ends own =
    record { none = λ rest. ap open_after (own.alone rest) ∙ opened-append [] (parts text) (parts rest) ∙ ap (λ ss. opened ss (parts rest)) ends }

-- two texts that open none do so together
pub opens-append : (xs ys : Text) → OpensNone xs → OpensNone ys → OpensNone (xs ++ ys)
opens-append xs ys front back =
    record { none = λ rest. ap (λ t. open_after (parts t)) (append_assoc xs ys rest) ∙ front.none (ys ++ rest) ∙ back.none rest }

-- a text without ESC opens none
pub opens-clear : (text : Text) → HasNo 0x1B text → OpensNone text
opens-clear [] clear = record { none = λ rest. refl }
opens-clear (b ∷ bs) clear =
    let both = or_parts (b == 0x1B) (list_any (λ x. x == 0x1B) bs) clear in
    record { none = λ rest. ap open_after (parts-visible b (bs ++ rest) (no_sequence b (bs ++ rest) both.0)) ∙ (opens-clear bs both.1).none rest }

-- a text that can't continue an unfinished sequence goes on with the sequences that the text before it leaves open
open-before : (text other : Text) → Stops other → open_after (parts (text ++ other)) ≡ opened (open_after (parts text)) (parts other)
open-before text other stops =
    ap (λ t. open_after (parts (t ++ other))) (sym (scan text).bytes)
    ∙ ap open_after (parts-scanned (parts text) other (scanned-stops (parts text) [] other stops (scan text).scanned))
    ∙ opened-append [] (parts text) (parts other)

-- a text after which none is open opens none, if a space follows and the rest from the space on opens none
pub opens-spaced : (text more : Text) → open_after (parts text) ≡ [] → OpensNone (0x20 ∷ more) → OpensNone (text ++ 0x20 ∷ more)
opens-spaced text more ends own =
    record { none = λ rest. ap (λ t. open_after (parts t)) (append_assoc text (0x20 ∷ more) rest) ∙ open-before text (0x20 ∷ (more ++ rest)) (record { no_end = refl; no_start = refl }) ∙ ap (λ ss. opened ss (parts (0x20 ∷ (more ++ rest)))) ends ∙ own.none rest }

-- a text with a reset after it opens none
pub opens-reset : (text : Text) → OpensNone (text ++ reset)
opens-reset text =
    record { none = λ rest. ap (λ t. open_after (parts t)) (append_assoc text reset rest) ∙ open-before text (reset ++ rest) (Stops-escape _) ∙ ap (opened (open_after (parts text))) (parts-sequence (0x30 ∷ []) rest refl) }
