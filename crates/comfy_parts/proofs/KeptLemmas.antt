-- The lines of a cell keep its text, except delimiters.
use Rattle.std.proofs.Common.{◌≡◌, ℕ, zero, suc, not, ◌==◌, List, [], ◌∷◌, ◌++◌, filter, replicate, refl, sym, ap, ap₂, ◌∙◌, subst, append-nil, append_assoc}
use Rattle.std.specs.List.{All, concat, flat_map}
use Rattle.std.specs.Char.{IsScalar}
use Rattle.std.specs.Prelude.{chars, encode_utf8, encode_utf8_all, if◌then◌else◌, nat_le}
use Rattle.std.specs.Str.{IsUtf8}
use Rattle.std.specs.Cmp.{nat_eq_equiv}
use Rattle.std.proofs.lemmas.Bool.{cond_both}
use Rattle.std.proofs.lemmas.List.Elements.{All-head, All-tail, filter-append}
use Rattle.std.proofs.lemmas.Str.{IsUtf8-append, IsUtf8-encode, IsUtf8-nil, chars-append, chars-encodes, chars-nil}
use Rattle.comfy_parts.proofs.UncutLemmas.{scalars-replicate}
use Rattle.comfy_parts.proofs.WholeLineLemmas.{lines_of_text-utf8}
use Rattle.comfy_parts.proofs.WrappedLemmas.{wrapped_is_wrapped}
use Rattle.comfy_parts.specs.Laws.{LinesKeepTheText, characters_without}
use Rattle.comfy_parts.specs.Text.{IsOnly, Text, measure}
use Rattle.comfy_parts.specs.Wrapping.{IsSlicesWhere, lines_of_text, wrapped}

module _ (d : ℕ) where
  -- a concatenation keeps the characters that its two texts keep
  kept-append : (front back : Text) → IsUtf8 front → characters_without d (front ++ back) ≡ characters_without d front ++ characters_without d back
  kept-append front back utf8 = ap (filter (λ c. not (c == d))) (chars-append front back utf8) ∙ filter-append (λ c. not (c == d)) (chars front) (chars back)

  -- no character of a gap of delimiters is kept
  none_kept : (n : ℕ) → filter (λ c. not (c == d)) (replicate n d) ≡ []
  none_kept zero = refl
  none_kept (suc n) = ap (λ b. if not b then d ∷ filter (λ c. not (c == d)) (replicate n d) else filter (λ c. not (c == d)) (replicate n d)) (nat_eq_equiv.refl d) ∙ none_kept n

  module _ (scalar : IsScalar d) where
    gap-utf8 : (n : ℕ) → IsUtf8 (encode_utf8_all (replicate n d))
    gap-utf8 zero = IsUtf8-nil
    gap-utf8 (suc n) = IsUtf8-append (encode_utf8 d) (encode_utf8_all (replicate n d)) (IsUtf8-encode d scalar) (gap-utf8 n)

    gap_left_out : (gap : Text) → IsOnly d gap → (characters_without d gap ≡ []) × IsUtf8 gap
    gap_left_out gap (n, only) =
        let spells : chars gap ≡ replicate n d = ap chars only ∙ chars-encodes (replicate n d) (scalars-replicate n d scalar) in
        (ap (filter (λ c. not (c == d))) spells ∙ none_kept n, subst IsUtf8 (sym only) (gap-utf8 n))

    -- slices keep all characters except delimiters
    kept_slices : (Ends : Text → Text → Type 0) (text : Text) (lines : List Text) → IsSlicesWhere Ends d text lines → characters_without d (concat lines) ≡ characters_without d text
    kept_slices Ends text [] only = ap (filter (λ c. not (c == d))) chars-nil ∙ sym (gap_left_out text only).0
    kept_slices Ends text (line ∷ lines) (tail, slice, ends, more) =
        let gap = gap_left_out slice.gap slice.gap_is_delimiters in
        kept-append line (concat lines) slice.whole_characters ∙ ap (λ cs. characters_without d line ++ cs) (kept_slices Ends tail lines more)
        ∙ sym (ap (characters_without d) slice.splits ∙ kept-append slice.gap (line ++ tail) gap.1 ∙ ap (λ cs. cs ++ characters_without d (line ++ tail)) gap.0 ∙ kept-append line tail slice.whole_characters)

    -- the lines of a text line keep its characters
    kept_line : (w : ℕ) (text : Text) → IsUtf8 text → characters_without d (concat (lines_of_text w d text)) ≡ characters_without d text
    kept_line w text utf8 =
        cond_both (nat_le (measure text) w) _ _ (λ lines. characters_without d (concat lines) ≡ characters_without d text) (λ _. ap (characters_without d) (append-nil text))
        (λ _. kept_slices _ text (wrapped w d text) (wrapped_is_wrapped w d text scalar utf8))

    concat-utf8 : (texts : List Text) → All IsUtf8 texts → IsUtf8 (concat texts)
    concat-utf8 [] each = IsUtf8-nil
    concat-utf8 (text ∷ texts) each = IsUtf8-append text (concat texts) (All-head IsUtf8 text texts each) (concat-utf8 texts (All-tail IsUtf8 text texts each))

    concat-append : (xs ys : List Text) → concat (xs ++ ys) ≡ concat xs ++ concat ys
    concat-append [] ys = refl
    concat-append (x ∷ xs) ys = ap (λ t. x ++ t) (concat-append xs ys) ∙ sym (append_assoc x (concat xs) (concat ys))

    -- the lines of all text lines keep their characters
    kept_lines : (w : ℕ) (texts : List Text) → All IsUtf8 texts → characters_without d (concat (flat_map (lines_of_text w d) texts)) ≡ characters_without d (concat texts)
    kept_lines w [] each = refl
    kept_lines w (text ∷ texts) each =
        let own = All-head IsUtf8 text texts each in
        ap (characters_without d) (concat-append (lines_of_text w d text) (flat_map (lines_of_text w d) texts))
        ∙ kept-append (concat (lines_of_text w d text)) (concat (flat_map (lines_of_text w d) texts)) (concat-utf8 (lines_of_text w d text) (lines_of_text-utf8 w d text own))
        ∙ ap₂ (λ a b. a ++ b) (kept_line w text own) (kept_lines w texts (All-tail IsUtf8 text texts each)) ∙ sym (kept-append text (concat texts) own)

-- the lines of a cell keep the characters of its text
pub lines_keep_the_text : (w d : ℕ) (text_lines : List Text) → LinesKeepTheText w d text_lines
lines_keep_the_text w d text_lines scalar = kept_lines d scalar w text_lines
