-- The lines of text lines without ESC are written unchanged.
use Rattle.std.proofs.Common.{◌≡◌, ℕ, zero, suc, ◌==◌, false, List, [], ◌∷◌, ◌++◌, length, map, take, drop, refl, sym, ap, ap₂, ◌∙◌, append-nil, eqb-true}
use Rattle.std.specs.List.{concat, list_any, flat_map, AllByRecursion}
use Rattle.std.proofs.lemmas.Bool.{cond_both, or_parts}
use Rattle.std.proofs.lemmas.Grind.{flat_map-append}
use Rattle.comfy_parts.proofs.EscapedLemmas.{clear_text}
use Rattle.comfy_parts.proofs.AbsentByteLemmas.{HasNo-drop, HasNo-take}
use Rattle.comfy_parts.proofs.OpenLemmas.{opened-append}
use Rattle.comfy_parts.proofs.FrontLemmas.{parts-clear}
use Rattle.comfy_parts.specs.Cursor.{visible_part}
use Rattle.comfy_parts.proofs.VisibleLineLemmas.{each_slice}
use Rattle.comfy_parts.specs.Text.{Text}
use Rattle.comfy_parts.specs.VisibleLines.{CellLine, line_texts, line_texts_of_text, line_texts_past}
use Rattle.comfy_parts.specs.VisibleText.{Part, active, closed, closing, has_escape, line_text, parts, parts_before, parts_from, open_after, opened, parts_up_to, text_between}
use Rattle.comfy_parts.proofs.ListLemmas.{every-append, every-second}

-- each part of a text without ESC is a visible byte
clear_parts : (text : Text) → has_escape text ≡ false → parts text ≡ map visible_part text
clear_parts text clear = ap parts (sym (append-nil text)) ∙ parts-clear text [] clear ∙ append-nil (map visible_part text)

-- visible bytes before a position open no sequence
before_clear : (ss : List Text) (n : ℕ) (bs : Text) → opened ss (parts_before n (map visible_part bs)) ≡ ss
before_clear ss n [] = refl
before_clear ss zero (b ∷ bs) = refl
before_clear ss (suc n) (b ∷ bs) = before_clear ss n bs

-- visible bytes open no sequence
none_opened : (ss : List Text) (bs : Text) → opened ss (map visible_part bs) ≡ ss
none_opened ss [] = refl
none_opened ss (b ∷ bs) = none_opened ss bs

-- the parts from the n-th visible byte on, if all parts are visible bytes
from_clear : (n : ℕ) (bs : Text) → parts_from n (map visible_part bs) ≡ map visible_part (drop n bs)
from_clear zero [] = refl
from_clear (suc n) [] = refl
from_clear zero (b ∷ bs) = refl
from_clear (suc n) (b ∷ bs) = from_clear n bs

-- the bytes of the first n parts, if all parts are visible bytes
up_to_clear : (n : ℕ) (bs : Text) → flat_map (λ (p : Part). p.bytes) (parts_up_to n (map visible_part bs)) ≡ take n bs
up_to_clear zero bs = refl
up_to_clear (suc n) [] = refl
up_to_clear (suc n) (b ∷ bs) = ap (λ (t : Text). b ∷ t) (up_to_clear n bs)

-- these texts together leave no sequence open
abbrev AreClear : List Text → Type 0
AreClear texts = open_after (flat_map parts texts) ≡ []

-- no sequence is open in a text without ESC after such texts
none_active : (earlier : List Text) (text : Text) (n : ℕ) → AreClear earlier → has_escape text ≡ false → active earlier text n ≡ []
none_active earlier text n before clear =
    opened-append [] (flat_map parts earlier) (parts_before n (parts text))
    ∙ ap₂ (λ (ss : List Text) (ps : List Part). opened ss (parts_before n ps)) before (clear_parts text clear)
    ∙ before_clear [] n text

-- a text without ESC needs no reset
closed_clear : (text : Text) → has_escape text ≡ false → closed text ≡ text
closed_clear text clear =
    ap (λ (ps : List Part). text ++ closing (open_after ps)) (clear_parts text clear)
    ∙ ap (λ (ss : List Text). text ++ closing ss) (none_opened [] text)
    ∙ append-nil text

-- a line of a text without ESC after such texts is written unchanged
line_text-clear : (earlier : List Text) (text : Text) (start len : ℕ) → AreClear earlier → has_escape text ≡ false → line_text earlier text start len ≡ take len (drop start text)
line_text-clear earlier text start len before clear =
    cond_both (len == 0) _ _ (λ t. t ≡ take len (drop start text)) (λ is. sym (ap (λ n. take n (drop start text)) (eqb-true len 0 is)))
    (λ _. ap closed (
    ap (λ (ss : List Text). concat ss ++ text_between text start len) (none_active earlier text start before clear)
    ∙ ap (λ (ps : List Part). flat_map (λ (p : Part). p.bytes) (parts_up_to len (parts_from start ps))) (clear_parts text clear)
    ∙ ap (λ (ps : List Part). flat_map (λ (p : Part). p.bytes) (parts_up_to len ps)) (from_clear start text)
    ∙ up_to_clear len (drop start text))
    ∙ closed_clear (take len (drop start text)) (HasNo-take 0x1B len (drop start text) (HasNo-drop 0x1B start text clear)))

-- the line is written as its visible text
abbrev pub IsAsMeasured : CellLine → Type 0
IsAsMeasured line = line.written ≡ line.measured

-- the lines of texts without ESC after such texts are written unchanged
clear_past : (w d : ℕ) (earlier texts : List Text) → AreClear earlier → list_any has_escape texts ≡ false → AllByRecursion IsAsMeasured (line_texts_past w d earlier texts)
clear_past w d earlier [] before clear = tt
clear_past w d earlier (text ∷ texts) before clear =
    let both = or_parts (has_escape text) (list_any has_escape texts) clear in
    every-append IsAsMeasured (line_texts_of_text w d earlier text) (line_texts_past w d (earlier ++ text ∷ []) texts)
    (every-second IsAsMeasured _ (line_texts_of_text w d earlier text) (each_slice w d (λ from line. IsAsMeasured line) earlier text (λ start line is_at.
    line_text-clear earlier text start (length line) before both.0 ∙ ap (λ (t : Text). take (length line) (drop start t)) (sym (clear_text text both.0)) ∙ is_at)))
    (clear_past w d (earlier ++ text ∷ []) texts (further both.0) both.1)
  where
    further : has_escape text ≡ false → AreClear (earlier ++ text ∷ [])
    further clear =
        ap open_after (flat_map-append parts earlier (text ∷ []))
        ∙ opened-append [] (flat_map parts earlier) (flat_map parts (text ∷ []))
        ∙ ap₂ (λ (ss : List Text) (ps : List Part). opened ss ps) before (append-nil (parts text) ∙ clear_parts text clear)
        ∙ none_opened [] text

-- the lines of a cell without ESC are written unchanged
pub clear_written : (w d : ℕ) (texts : List Text) → list_any has_escape texts ≡ false → AllByRecursion IsAsMeasured (line_texts w d texts)
clear_written w d texts clear = clear_past w d [] texts refl clear
