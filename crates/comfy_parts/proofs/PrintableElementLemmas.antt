-- A run of printable ASCII without a delimiter is the first element of a text, if a delimiter or nothing follows it.
use Rattle.std.proofs.Common.{◌≡◌, inl, inr, ◌==◌, ℕ, Bool, true, false, List, [], ◌∷◌, ◌++◌, sym, ap, ◌∙◌, subst, append-nil}
use Rattle.std.specs.Char.{IsScalar}
use Rattle.std.specs.List.{list_any}
use Rattle.std.specs.Prelude.{encode_utf8_all, IsUtf8}
use Rattle.std.specs.Str.{NoCharPasses, NonePass}
use Rattle.std.proofs.lemmas.Bool.{or_parts}
use Rattle.std.proofs.lemmas.Str.{encodes-chars}
use Rattle.comfy_parts.specs.Following.{EndsElement, IsFirstElement}
use Rattle.comfy_parts.specs.Text.{Text, elements, is_printable_ascii}
use Rattle.comfy_parts.proofs.ElementLemmas.{elements-first}
use Rattle.comfy_parts.proofs.FollowingLemmas.{first-none, follow-delimiter}
use Rattle.comfy_parts.proofs.PrintableLemmas.{IsUtf8-printable, chars-printable}

none_passes : (p : ℕ → Bool) (cs : List ℕ) → list_any p cs ≡ false → NonePass p cs
none_passes p [] none = tt
none_passes p (c ∷ cs) none =
    let both = or_parts (p c) (list_any p cs) none in
    (both.0, none_passes p cs both.1)

no_delimiter : (d : ℕ) (front : Text) → is_printable_ascii front ≡ true → list_any (λ b. b == d) front ≡ false → NoCharPasses (λ c. c == d) front
no_delimiter d front printable none =
    (front, ap encode_utf8_all (sym (chars-printable front printable)) ∙ encodes-chars front (IsUtf8-printable front printable), none_passes (λ c. c == d) front none)

-- a prefix without a delimiter is the first element, if a delimiter or nothing follows it
pub first-clear : (d : ℕ) (text front after : Text) → IsScalar d → text ≡ front ++ after → IsUtf8 front → IsUtf8 after → NoCharPasses (λ c. c == d) front → EndsElement d after → IsFirstElement d text front after
first-clear d text front after scalar splits utf8 whole none (inl empty) =
    let same : text ≡ front = splits ∙ ap (λ t. front ++ t) empty ∙ append-nil front in
    subst (λ (t : Text). IsFirstElement d text front t) (sym empty)
    (subst (λ (t : Text). IsFirstElement d t front []) (sym same) (first-none d front utf8 none))
first-clear d text front after scalar splits utf8 whole none (inr (more, follows)) =
    record {
      others = elements d more;
      elements_are = ap (elements d) (splits ∙ ap (λ t. front ++ t) follows) ∙ elements-first d front more scalar utf8 none;
      follow = follow-delimiter d more after follows;
      joined = sym splits;
      whole_first = utf8;
      whole_after = whole;
    }

pub first-printable : (d : ℕ) (text front after : Text) → IsScalar d → IsUtf8 text → text ≡ front ++ after → IsUtf8 after → is_printable_ascii front ≡ true → list_any (λ b. b == d) front ≡ false
    → EndsElement d after → IsFirstElement d text front after
first-printable d text front after scalar utf8 splits whole printable none ends =
    first-clear d text front after scalar splits (IsUtf8-printable front printable) whole (no_delimiter d front printable none) ends
