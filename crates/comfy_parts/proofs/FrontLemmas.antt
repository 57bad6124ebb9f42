-- The part at the front of a text: a whole sequence, or a visible byte.
use Rattle.std.proofs.Common.{◌≡◌, ◌<◌, ℕ, zero, suc, ◌-◌, true, false, ◌==◌, ⊎_elim, List, [], ◌∷◌, ◌++◌, length, map, take, drop, nat_lt, refl, sym, ap, ◌∙◌, subst, arith, length-append, eqb-true}
use Rattle.std.specs.List.{flat_map, list_any}
use Rattle.std.specs.Prelude.{if◌then◌else◌, encode_utf8}
use Rattle.std.proofs.lemmas.Bool.{cases_Bool, or_parts}
use Rattle.std.proofs.lemmas.Bool.Decides.{nat_tests}
use Rattle.std.proofs.lemmas.List.{length-map}
use Rattle.unicode_segmentation.proofs.TextLemmas.{encode_utf8_nonempty}
use lib.Utf8.{encode}
use Rattle.comfy_parts.proofs.AbsentByteLemmas.{encoded_clear}
use Rattle.comfy_parts.specs.Cursor.{character_parts, sequence_part, visible_part}
use Rattle.comfy_parts.specs.Text.{Text}
use Rattle.comfy_parts.specs.VisibleText.{Part, parts, parts_past, sequence_len, visible_bytes}
use Rattle.comfy_parts.proofs.SequenceLemmas.{begins_with_sequence, no_sequence, parts-visible}

-- the parts after n skipped bytes are those of the text without its first n bytes
parts_past-drop : (n : ℕ) (text : Text) → parts_past n text ≡ parts (drop n text)
parts_past-drop zero text = refl
parts_past-drop (suc n) [] = refl
parts_past-drop (suc n) (b ∷ rest) = parts_past-drop n rest

-- dropping n - 1 bytes after the first one drops n bytes
drop-next : (n : ℕ) (b : ℕ) (rest : Text) → 0 < n → drop (n - 1) rest ≡ drop n (b ∷ rest)
drop-next zero b rest some = absurd (omega (arith, some))
drop-next (suc n) b rest some =
    let back : suc n - 1 ≡ n = omega arith in
    ap (λ k. drop k rest) back

-- the parts of a text with a sequence at its front
pub parts-after_sequence : (text : Text) → 0 < sequence_len text → parts text ≡ sequence_part (take (sequence_len text) text) ∷ parts (drop (sequence_len text) text)
parts-after_sequence [] some = absurd (omega (arith, some))
parts-after_sequence (b ∷ rest) some =
    let n = sequence_len (b ∷ rest) in
    let test : nat_lt 0 n ≡ true = grind (arith, nat_tests, some) in
    ap (λ t. (if t then record { is_sequence = true; bytes = take n (b ∷ rest) } else record { is_sequence = false; bytes = take 1 (b ∷ rest) }) ∷ parts_past (n - 1) rest) test
    ∙ ap (λ (ps : List Part). sequence_part (take n (b ∷ rest)) ∷ ps) (parts_past-drop (n - 1) rest ∙ ap parts (drop-next n b rest some))

-- bytes other than ESC are visible
pub parts-clear : (xs more : Text) → list_any (λ b. b == 0x1B) xs ≡ false → parts (xs ++ more) ≡ map visible_part xs ++ parts more
parts-clear [] more clear = refl
parts-clear (b ∷ bs) more clear =
    let each = or_parts (b == 0x1B) (list_any (λ b. b == 0x1B) bs) clear in
    parts-visible b (bs ++ more) (no_sequence b (bs ++ more) each.0) ∙ ap (λ (ps : List Part). visible_part b ∷ ps) (parts-clear bs more each.1)

-- an ESC that begins no sequence is a visible byte
parts-escape : (more : Text) → begins_with_sequence (encode_utf8 0x1B ++ more) ≡ false → parts (encode_utf8 0x1B ++ more) ≡ character_parts 0x1B ++ parts more
unfolding encode
parts-escape more free = parts-visible 0x1B more free

-- the parts of a text with a visible character at its front
pub parts-character : (c : ℕ) (more : Text) → begins_with_sequence (encode_utf8 c ++ more) ≡ false → parts (encode_utf8 c ++ more) ≡ character_parts c ++ parts more
parts-character c more free =
    ⊎_elim (λ escape.
    let at : c ≡ 0x1B = eqb-true c 0x1B escape in
    subst (λ n. parts (encode_utf8 n ++ more) ≡ character_parts n ++ parts more) (sym at) (parts-escape more (ap (λ n. begins_with_sequence (encode_utf8 n ++ more)) (sym at) ∙ free)))
    (λ other. parts-clear (encode_utf8 c) more (encoded_clear 0x1B c (omega arith) other)) (cases_Bool (c == 0x1B))

-- a character has at least one byte
pub character_parts-some : (c : ℕ) (ps : List Part) → length ps < length (character_parts c ++ ps)
character_parts-some c ps =
    let some = encode_utf8_nonempty c in
    let each = length-map (encode_utf8 c) visible_part in
    let both = length-append (character_parts c) ps in
    omega (arith, some, each, both)

-- visible bytes at the front are visible
pub visible_bytes-visible : (bs : Text) (ps : List Part) → flat_map visible_bytes (map visible_part bs ++ ps) ≡ bs ++ flat_map visible_bytes ps
visible_bytes-visible [] ps = refl
visible_bytes-visible (b ∷ bs) ps = ap (λ (xs : Text). b ∷ xs) (visible_bytes-visible bs ps)

pub character-visible : (c : ℕ) (ps : List Part) → flat_map visible_bytes (character_parts c ++ ps) ≡ encode_utf8 c ++ flat_map visible_bytes ps
character-visible c ps = visible_bytes-visible (encode_utf8 c) ps
