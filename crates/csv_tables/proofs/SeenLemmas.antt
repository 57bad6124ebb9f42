-- Texts that add their own width to any text before them: the truncation indicator, and characters of one terminal
-- column.
use Rattle.std.proofs.Common.{◌≡◌, ◌≤◌, ◌<◌, ◌==◌, ◌&&◌, ℕ, true, false, List, [], ◌∷◌, arith, chars, nat_le, refl, sym, ap, ap₂, ◌∙◌, subst, tests}
use Rattle.std.specs.Int.{is_in_range}
use Rattle.std.specs.List.{list_all}
use Rattle.std.specs.Prelude.{encode_utf8}
use Rattle.std.proofs.lemmas.Bool.{and_parts}
use Rattle.std.proofs.lemmas.Bool.Decides.{nat_tests}
use Rattle.std.proofs.lemmas.Str.{chars-IsAscii, encode_ascii}
use lib.Utf8.{encode}
use Rattle.cluster_width.specs.ClusterSums.{clashes, is_presentation, selectors_agree}
use Rattle.comfy_parts.proofs.CallerLemmas.{ascii-printable, frame_apart, measure-printable}
use Rattle.comfy_parts.specs.Columns.{CharactersFit, IsApart, SelectorsAgree, character_fits}
use Rattle.comfy_parts.specs.Text.{Text, is_printable_ascii, measure}
use Rattle.comfy_table.specs.TableValue.{ellipsis}

-- ---- the indicator

-- no text before the indicator joins it
pub ellipsis_is_apart : IsApart ellipsis
unfolding encode
ellipsis_is_apart = frame_apart 0x2026 [] refl

-- ---- characters

-- characters that fit a column fit a wider one
pub wider_column : (n w : ℕ) → n ≤ w → (text : Text) → CharactersFit n text → CharactersFit w text
wider_column n w room text fit =
    let both = and_parts (list_all (character_fits n) (chars text)) (selectors_agree (chars text)) fit in
    ap₂ (λ a b. a && b) (each (chars text) both.0) both.1
  where
    more_room : (size : ℕ) → nat_le size n ≡ true → nat_le size w ≡ true
    more_room size fits = grind (arith, nat_tests, room)

    each : (cs : List ℕ) → list_all (character_fits n) cs ≡ true → list_all (character_fits w) cs ≡ true
    each [] all = refl
    each (c ∷ cs) all =
        let both = and_parts (character_fits n c) (list_all (character_fits n) cs) all in
        ap₂ (λ a b. a && b) (more_room (measure (encode_utf8 c)) both.0) (each cs both.1)

-- the characters of printable ASCII take one terminal column
pub printable_fits : (text : Text) → is_printable_ascii text ≡ true → CharactersFit 1 text
printable_fits text printable =
    let same = chars-IsAscii text (ascii-printable text printable) in
    subst (λ (cs : List ℕ). (list_all (character_fits 1) cs && selectors_agree cs) ≡ true) (sym same)
    (ap₂ (λ a b. a && b) (each text printable) (agree text printable))
  where
    is_low : (c : ℕ) → is_in_range 0x20 0x7E c ≡ true → c < 128
    is_low c is = grind (arith, tests)

    one : (c : ℕ) → is_in_range 0x20 0x7E c ≡ true → measure (encode_utf8 c) ≡ 1
    one c is = ap measure (encode_ascii c (is_low c is)) ∙ measure-printable (c ∷ []) (rw is refl)

    each : (cs : List ℕ) → is_printable_ascii cs ≡ true → list_all (character_fits 1) cs ≡ true
    each [] all = refl
    each (c ∷ cs) all =
        let both = and_parts (is_in_range 0x20 0x7E c) (is_printable_ascii cs) all in
        rw (one c both.0) (each cs both.1)

    no_selector : (c : ℕ) → is_in_range 0x20 0x7E c ≡ true → ((c == 0xFE01) ≡ false) × (is_presentation c ≡ false)
    no_selector c is = (grind (arith, tests), grind (arith, tests))

    no_clash : (c : ℕ) (cs : List ℕ) → is_in_range 0x20 0x7E c ≡ true → clashes c cs ≡ false
    no_clash c [] is = refl
    no_clash c (d ∷ cs) is = let own = no_selector c is in rw own.0 (rw own.1 refl)

    agree : (cs : List ℕ) → is_printable_ascii cs ≡ true → selectors_agree cs ≡ true
    agree [] all = refl
    agree (c ∷ cs) all =
        let both = and_parts (is_in_range 0x20 0x7E c) (is_printable_ascii cs) all in
        rw (no_clash c cs both.0) (agree cs both.1)

-- variation selectors agree in such a text
pub fitting_agree : (n : ℕ) (text : Text) → CharactersFit n text → SelectorsAgree text
fitting_agree n text fit = (and_parts (list_all (character_fits n) (chars text)) (selectors_agree (chars text)) fit).1
