-- The text lines of a text whose characters fit a column.
use Rattle.std.proofs.Common.{◌≡◌, ◌==◌, ◌&&◌, ℕ, Bool, true, false, List, [], ◌∷◌, ◌++◌, arith, chars, encode_utf8, encode_utf8_all, eqb-true, length, map, refl, sym, ap, ap₂, ◌∙◌, subst}
use Rattle.std.proofs.Math.Utf8.{scalar as scalar_of}
use Rattle.std.proofs.lemmas.Bool.{and_parts, or_parts}
use Rattle.std.proofs.lemmas.List.Elements.{All-cons, All-map, All-nil}
use Rattle.std.proofs.lemmas.List.Splits.{slice_split-cons_no, slice_split-cons_yes}
use Rattle.std.proofs.lemmas.Str.{chars-encodes, encode_ascii, encodes-chars, scalars-chars}
use Rattle.std.specs.List.{All, list_all, list_any, onto_first, slice_split}
use Rattle.std.specs.Str.{IsUtf8, all_scalars}
use Rattle.cluster_width.specs.ClusterSums.{selectors_agree}
use Rattle.comfy_parts.proofs.CallerLemmas.{encoded_clear, fitting-parts}
use Rattle.comfy_parts.proofs.ClusterFitLemmas.{parts-agree}
use Rattle.comfy_parts.proofs.PrintableLineLemmas.{parts-all, some_parts}
use Rattle.comfy_parts.specs.CellValue.{plain_cell}
use Rattle.comfy_parts.specs.Columns.{CharactersFit, character_fits}
use Rattle.comfy_parts.specs.Text.{HasNo, Text}

abbrev is_feed : ℕ → Bool
is_feed c = c == 0x0A

-- a front without a line feed joins the first part of the text after it
onto_front : (front text first : Text) (others : List Text) → HasNo 0x0A front → slice_split is_feed text ≡ first ∷ others → slice_split is_feed (front ++ text) ≡ (front ++ first) ∷ others
onto_front [] text first others clear are = are
onto_front (b ∷ front) text first others clear are =
    let each = or_parts (b == 0x0A) (list_any is_feed front) clear in
    slice_split-cons_no is_feed b (front ++ text) each.0 ∙ ap (onto_first b) (onto_front front text first others each.1 are)

-- splitting a text at line feeds splits the list of its characters there
split : (cs : List ℕ) → slice_split is_feed (encode_utf8_all cs) ≡ map encode_utf8_all (slice_split is_feed cs)
split [] = refl
split (c ∷ cs) = by_test (c == 0x0A) refl (split cs)
  where
    by_parts : (parts : List (List ℕ)) → (c == 0x0A) ≡ false → slice_split is_feed cs ≡ parts → slice_split is_feed (encode_utf8_all cs) ≡ map encode_utf8_all (slice_split is_feed cs)
        → slice_split is_feed (encode_utf8 c ++ encode_utf8_all cs) ≡ map encode_utf8_all (slice_split is_feed (c ∷ cs))
    by_parts [] other are rest = absurd (let none = ap length are in let some = some_parts is_feed cs in omega (arith, none, some))
    by_parts (part ∷ parts) other are rest =
        onto_front (encode_utf8 c) (encode_utf8_all cs) (encode_utf8_all part) (map encode_utf8_all parts) (encoded_clear 0x0A c (omega arith) other) (rest ∙ ap (map encode_utf8_all) are)
        ∙ ap (map encode_utf8_all) (sym (slice_split-cons_no is_feed c cs other ∙ ap (onto_first c) are))

    by_test : (t : Bool) → (c == 0x0A) ≡ t → slice_split is_feed (encode_utf8_all cs) ≡ map encode_utf8_all (slice_split is_feed cs)
        → slice_split is_feed (encode_utf8 c ++ encode_utf8_all cs) ≡ map encode_utf8_all (slice_split is_feed (c ∷ cs))
    by_test true is rest =
        let one : encode_utf8 c ≡ 0x0A ∷ [] = ap encode_utf8 (eqb-true c 0x0A is) ∙ encode_ascii 0x0A (omega arith) in
        ap (λ (t : Text). slice_split is_feed (t ++ encode_utf8_all cs)) one ∙ slice_split-cons_yes is_feed 0x0A (encode_utf8_all cs) refl
        ∙ ap (λ (parts : List Text). [] ∷ parts) rest ∙ ap (map encode_utf8_all) (sym (slice_split-cons_yes is_feed c cs is))
    by_test false is rest = by_parts (slice_split is_feed cs) is refl rest

module _ (w : ℕ) where
  fits_again : (cs : List ℕ) → all_scalars cs ≡ true → list_all (character_fits w) cs ≡ true → selectors_agree cs ≡ true → CharactersFit w (encode_utf8_all cs)
  fits_again cs scalars fit agree =
      ap (λ (xs : List ℕ). list_all (character_fits w) xs && selectors_agree xs) (chars-encodes cs scalars) ∙ ap₂ (λ a b. a && b) fit agree

  each_fits : (parts : List (List ℕ)) → list_all all_scalars parts ≡ true → list_all (list_all (character_fits w)) parts ≡ true → list_all selectors_agree parts ≡ true
      → All (λ part. CharactersFit w (encode_utf8_all part)) parts
  each_fits [] scalars fit agree = All-nil (λ part. CharactersFit w (encode_utf8_all part))
  each_fits (part ∷ parts) scalars fit agree =
      let s = and_parts (all_scalars part) (list_all all_scalars parts) scalars in
      let f = and_parts (list_all (character_fits w) part) (list_all (list_all (character_fits w)) parts) fit in
      let a = and_parts (selectors_agree part) (list_all selectors_agree parts) agree in
      All-cons (λ part. CharactersFit w (encode_utf8_all part)) part parts (fits_again part s.0 f.0 a.0) (each_fits parts s.1 f.1 a.1)

  pub fitting_lines : (text : Text) → IsUtf8 text → CharactersFit w text → All (CharactersFit w) (plain_cell text).text_lines
  fitting_lines text utf8 fits =
      let cs = chars text in
      let both = fitting-parts w text fits in
      subst (λ (t : Text). All (CharactersFit w) (slice_split is_feed t)) (encodes-chars text utf8)
      (subst (All (CharactersFit w)) (sym (split cs))
      (All-map (CharactersFit w) encode_utf8_all (slice_split is_feed cs) (each_fits (slice_split is_feed cs) (parts-all scalar_of is_feed cs (scalars-chars text utf8)) (parts-all (character_fits w) is_feed cs both.0) (parts-agree is_feed cs both.1))))
