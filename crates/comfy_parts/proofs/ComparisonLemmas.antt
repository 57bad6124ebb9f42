-- Equality, order and hashes of attributes, alignments, colours and cells.
use Rattle.std.proofs.Common.{◌≡◌, ◌∙◌, ◌&&◌, ◌==◌, Bool, true, false, List, [], ◌∷◌, Some, None, ℕ, nat_eq, ap, refl, sym, subst}
use Rattle.std.specs.Cmp.{Equal-is, first_so, second_so, unsigned_Decides}
use Rattle.std.specs.Cmp.Lexicographic.{pointwise, pointwise_decides}
use Rattle.std.specs.Option.{option_eq}
use Rattle.std.specs.Ordering.{eq_by_cmp}
use Rattle.std.specs.declared.cmp.Ordering.{Ordering}
use denote.Enum.Bare.{same_true, true_same}
use denote.Enum.Compared.{Each, by}
use denote.Enum.Declared.{Choice, values_one}
use denote.Struct.Field.{Field}
use denote.Struct.Values.{Values}
use mathlib.Core.Logic.{inl, inr}
use Rattle.comfy_parts.specs.CellEquality.{cell_eq, cell_eq_equiv}
use Rattle.comfy_parts.specs.CellValue.{CellValue}
use Rattle.comfy_parts.specs.Comparisons.{alignment_eq, attribute_cmp, attribute_eq, color_cmp, color_eq, EqIsSame, EqualIsSame}
use Rattle.comfy_parts.specs.declared.style.color.Color.{Color}
use Rattle.comfy_parts.specs.contracts.style.attribute.Attribute as attribute
use Rattle.comfy_parts.specs.contracts.style.attribute.AttributeOrd.TheImpl.Laws as attribute_ord
use Rattle.comfy_parts.specs.contracts.style.cell.CellAlignment as alignment
use Rattle.comfy_parts.specs.contracts.style.color.Color as color
use Rattle.comfy_parts.specs.contracts.style.color.ColorEq.TheImpl.Laws as color_equiv
use Rattle.comfy_parts.specs.contracts.style.color.ColorOrd.TheImpl.Laws as color_ord

-- if `==` agrees with an order, and means that values are the same, the order returns `Equal` exactly for the same
-- values
pub equal_is_same : {K : Type 0} (E : K → K → Bool) (R : K → K → Ordering) → EqIsSame E → ((a b : K) → E a b ≡ eq_by_cmp R a b) → EqualIsSame R
equal_is_same E R same ties a b =
    (λ e. (same a b).0 (ties a b ∙ (Equal-is (R a b)).1 e), λ e. (Equal-is (R a b)).0 (sym (ties a b) ∙ (same a b).1 e))

-- if `==` means that values are the same, `==` on options does too
pub options_same : {K : Type 0} (E : K → K → Bool) → EqIsSame E → EqIsSame (option_eq E)
options_same E same None None = (λ e. refl, λ e. refl)
options_same E same None (Some b) = (λ e. absurd (cc e), λ e. absurd (cc e))
options_same E same (Some a) None = (λ e. absurd (cc e), λ e. absurd (cc e))
options_same E same (Some a) (Some b) = (λ e. ap Some ((same a b).0 e), λ e. (same a b).1 (cc e))

-- two attributes are equal only if they are the same, because they have no fields
pub attribute_eq_is_same : EqIsSame attribute_eq
attribute_eq_is_same a b = (same_true attribute.the_type tt a b, true_same attribute.the_type a b)

-- two alignments are equal only if they are the same
pub alignment_eq_is_same : EqIsSame alignment_eq
alignment_eq_is_same a b = (same_true alignment.the_type tt a b, true_same alignment.the_type a b)

-- the order of attributes returns `Equal` exactly for the same attributes
pub attribute_equal_is_same : EqualIsSame attribute_cmp
attribute_equal_is_same = equal_is_same attribute_eq attribute_cmp attribute_eq_is_same attribute_ord.matches_eq-law

-- the test of each variant is true only for values that are the same
abbrev AreSame : (Fss : List (List Field)) → Each Bool Fss → Type 0
AreSame [] tests = Unit {0}
AreSame (Fs ∷ Fss) tests = ((a b : Values Fs) → tests.0 a b ≡ true → a ≡ b) × AreSame Fss tests.1

-- then the test of the whole enumeration is true only for values that are the same
choices_same : (Fss : List (List Field)) (tests : Each Bool Fss) → AreSame Fss tests → (a b : Choice Fss) → by false false Fss tests a b ≡ true → a ≡ b
choices_same [] tests same a b e = absurd a
choices_same (Fs ∷ Fss) tests same (inl a) (inl b) e = ap inl (same.0 a b e)
choices_same (Fs ∷ Fss) tests same (inl a) (inr b) e = absurd (cc e)
choices_same (Fs ∷ Fss) tests same (inr a) (inl b) e = absurd (cc e)
choices_same (Fs ∷ Fss) tests same (inr a) (inr b) e = ap inr (choices_same Fss tests.1 same.1 a b e)

-- three numbers that are equal in pairs are the same three numbers
rgb_same : (a b : ℕ × (ℕ × (ℕ × Unit {0}))) → (a.0 == b.0 && (a.1.0 == b.1.0 && a.1.1.0 == b.1.1.0)) ≡ true → a ≡ b
rgb_same a b e =
    let others = second_so (a.0 == b.0) (a.1.0 == b.1.0 && a.1.1.0 == b.1.1.0) e in
    let red = (unsigned_Decides a.0 b.0).0 (first_so (a.0 == b.0) (a.1.0 == b.1.0 && a.1.1.0 == b.1.1.0) e) in
    let green = (unsigned_Decides a.1.0 b.1.0).0 (first_so (a.1.0 == b.1.0) (a.1.1.0 == b.1.1.0) others) in
    let blue = (unsigned_Decides a.1.1.0 b.1.1.0).0 (second_so (a.1.0 == b.1.0) (a.1.1.0 == b.1.1.0) others) in
    λ i. (red i, (green i, (blue i, tt)))

-- a number that is equal to another is the same
ansi_same : (a b : ℕ × Unit {0}) → (a.0 == b.0) ≡ true → a ≡ b
ansi_same a b e = let number = (unsigned_Decides a.0 b.0).0 e in λ i. (number i, tt)

-- two colours are equal only if they have the same variant and the same numbers
pub color_eq_is_same : EqIsSame color_eq
color_eq_is_same a b = (values, λ e. subst (λ (other : Color). color_eq a other ≡ true) e (color_equiv.laws-law.refl a))
  where
    plain : (x y : Unit {0}) → true ≡ true → x ≡ y
    plain x y e = refl

    values : color_eq a b ≡ true → a ≡ b
    values e =
        values_one color.enum a b (choices_same color.the_parts _ (plain, (plain, (plain, (plain, (plain, (plain, (plain, (plain, (plain, (plain, (plain, (plain, (plain, (plain, (plain, (plain, (plain, (rgb_same, (ansi_same, tt))))))))))))))))))) (color.as_values a) (color.as_values b) e)

-- the order of colours returns `Equal` exactly for the same colours
pub color_equal_is_same : EqualIsSame color_cmp
color_equal_is_same = equal_is_same color_eq color_cmp color_eq_is_same color_ord.matches_eq-law

-- cells with the same fields are the same
pub cell_eq_is_same : EqIsSame cell_eq
cell_eq_is_same a b = (values, λ e. subst (λ (other : CellValue). cell_eq a other ≡ true) e (cell_eq_equiv.refl a))
  where
    values : cell_eq a b ≡ true → a ≡ b
    values e =
        let t = pointwise (pointwise nat_eq) a.text_lines b.text_lines in
        let d = option_eq nat_eq a.delimiter b.delimiter in
        let l = option_eq alignment_eq a.alignment b.alignment in
        let f = option_eq color_eq a.foreground b.foreground in
        let g = option_eq color_eq a.background b.background in
        let s = pointwise attribute_eq a.attributes b.attributes in
        let up_to_background = first_so (t && d && l && f && g) s e in
        let up_to_foreground = first_so (t && d && l && f) g up_to_background in
        let up_to_alignment = first_so (t && d && l) f up_to_foreground in
        let up_to_delimiter = first_so (t && d) l up_to_alignment in
        let text_lines = (pointwise_decides (pointwise_decides unsigned_Decides) a.text_lines b.text_lines).0 (first_so t d up_to_delimiter) in
        let delimiter = (options_same nat_eq unsigned_Decides a.delimiter b.delimiter).0 (second_so t d up_to_delimiter) in
        let alignment = (options_same alignment_eq alignment_eq_is_same a.alignment b.alignment).0 (second_so (t && d) l up_to_alignment) in
        let foreground = (options_same color_eq color_eq_is_same a.foreground b.foreground).0 (second_so (t && d && l) f up_to_foreground) in
        let background = (options_same color_eq color_eq_is_same a.background b.background).0 (second_so (t && d && l && f) g up_to_background) in
        let attributes = (pointwise_decides attribute_eq_is_same a.attributes b.attributes).0 (second_so (t && d && l && f && g) s e) in
        λ i. record {
          text_lines = text_lines i;
          delimiter = delimiter i;
          alignment = alignment i;
          foreground = foreground i;
          background = background i;
          attributes = attributes i;
        }
