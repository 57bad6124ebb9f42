-- A pass over a text that looks for two selectors that clash.
use Rattle.std.proofs.Common.{◌≡◌, ℕ, true, false, not, ◌&&◌, ◌++◌, List, [], ◌∷◌, length, refl, sym, ap, ◌∙◌}
use Rattle.std.specs.Prelude.{chars, encode_utf8, IsUtf8}
use Rattle.std.proofs.StrCases.{chars_of_empty}
use Rattle.std.proofs.lemmas.Str.{IsUtf8-past_char, chars_past_char}
use Rattle.cluster_width.specs.ClusterSums.{Text, clash, selectors_agree}

-- the selectors of the text agree exactly if those of the rest do, with the character before it
pub record AgreesAlike (text rest : Text) (previous : ℕ) : Type 0 where
  pub utf8 : IsUtf8 rest
  pub same : selectors_agree (previous ∷ chars rest) ≡ selectors_agree (chars text)

after_space : (cs : List ℕ) → selectors_agree (0x20 ∷ cs) ≡ selectors_agree cs
after_space [] = refl
after_space (c ∷ cs) = refl

pub alike-all : (text : Text) → IsUtf8 text → AgreesAlike text text 0x20
alike-all text utf8 = record { utf8 = utf8; same = after_space (chars text) }

-- two characters that clash
pub alike-clash : (text rest later : Text) (previous c : ℕ) → AgreesAlike text rest previous → rest ≡ encode_utf8 c ++ later → clash previous c ≡ true → false ≡ selectors_agree (chars text)
alike-clash text rest later previous c alike splits clashing =
    ap (λ b. not b && selectors_agree (c ∷ chars later)) (sym clashing) ∙ sym (ap (λ cs. selectors_agree (previous ∷ cs)) (chars_past_char rest later c alike.utf8 splits)) ∙ alike.same

-- two characters that don't clash
pub alike-more : (text rest later : Text) (previous c : ℕ) → AgreesAlike text rest previous → rest ≡ encode_utf8 c ++ later → clash previous c ≡ false → AgreesAlike text later c
alike-more text rest later previous c alike splits apart =
    record {
      utf8 = IsUtf8-past_char rest later c alike.utf8 splits;
      same = ap (λ b. not b && selectors_agree (c ∷ chars later)) (sym apart) ∙ sym (ap (λ cs. selectors_agree (previous ∷ cs)) (chars_past_char rest later c alike.utf8 splits)) ∙ alike.same;
    }

-- the end of the text
pub alike-end : (text rest : Text) (previous : ℕ) → AgreesAlike text rest previous → length rest ≡ 0 → true ≡ selectors_agree (chars text)
alike-end text rest previous alike none = sym (ap (λ cs. selectors_agree (previous ∷ cs)) (chars_of_empty rest none)) ∙ alike.same
