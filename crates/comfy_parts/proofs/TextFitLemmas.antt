-- The lines of text lines whose words fit are at most as wide as their column.
use Rattle.std.proofs.Common.{◌<◌, ◌≤◌, inl, inr, ⊎_elim, ℕ, ◌==◌, List, [], ◌∷◌, ◌++◌, ◌&&◌, nat_le, slice_index_or, ap, ◌∙◌, subst, arith}
use Rattle.std.specs.Char.{IsScalar}
use Rattle.std.specs.List.{All, list_all, slice_split}
use Rattle.std.specs.Prelude.{chars, encode_utf8_all, IsUtf8}
use Rattle.std.specs.Str.{all_scalars}
use Rattle.std.proofs.Math.Utf8.{scalar as scalar_of}
use Rattle.std.proofs.lemmas.Bool.{and_from, cond_both}
use Rattle.std.proofs.lemmas.Bool.Decides.{nat_tests}
use Rattle.std.proofs.lemmas.List.Elements.{All-cons, All-nil, All-map, All-weaker}
use Rattle.std.proofs.lemmas.Str.{chars-encodes, scalars-chars}
use Rattle.comfy_parts.specs.Columns.{CharactersFit, FittingCharactersFit, SelectorsAgree, TextFits, TextLinesFit, WordFits, character_fits}
use Rattle.cluster_width.specs.ClusterSums.{selectors_agree}
use Rattle.comfy_parts.proofs.ClusterFitLemmas.{agree-texts, fitting-parts, head-cuts, head_fits, head_or_first-cuts, parts-agree}
use Rattle.comfy_parts.proofs.PlaceLemmas.{head-utf8}
use Rattle.comfy_parts.specs.Text.{Text, measure, head, elements}
use Rattle.comfy_parts.specs.Wrapping.{IsWrapped, head_or_first, lines_of_text, wrapped}
use Rattle.comfy_parts.proofs.LinesFitLemmas.{BreaksWell, IsCut, IsFittingLine, wrapped-fit}
use Rattle.comfy_parts.proofs.PrintableLineLemmas.{parts-all}
use Rattle.cluster_width.proofs.SpaceMeasureLemmas.{measure-nil}
use Rattle.comfy_parts.proofs.UncutLemmas.{only-utf8}
use Rattle.std.proofs.lemmas.List.Sums.{AllPass-from_list_all}
use Rattle.comfy_parts.proofs.WrappedLemmas.{wrapped_is_wrapped}

-- ---- words

-- words that fit, or whose characters fit, are cut well
breaks-words : (w : ℕ) → BreaksWell w (WordFits w)
breaks-words w = record { empty = inl (let none = measure-nil in omega (arith, none)); part = by_part; first = by_first }
  where
    either : (k : ℕ) (front word : Text) → IsCut (CharactersFit w) k front word → IsCut (WordFits w) k front word
    either k front word cut =
        record { rest = cut.rest; splits = cut.splits; whole_front = cut.whole_front; whole_rest = cut.whole_rest; fits = cut.fits; keeps = inr cut.keeps }

    by_part : (k : ℕ) (word : Text) → WordFits w word → IsUtf8 word → w < measure word → IsCut (WordFits w) k (head k word) word
    by_part k word (inl fits) utf8 wide = absurd (omega (arith, fits, wide))
    by_part k word (inr each) utf8 wide = either k (head k word) word (head-cuts w k word utf8 each)

    by_first : (word : Text) → WordFits w word → IsUtf8 word → w < measure word → IsCut (WordFits w) w (head_or_first w word) word
    by_first word (inl fits) utf8 wide = absurd (omega (arith, fits, wide))
    by_first word (inr each) utf8 wide = either w (head_or_first w word) word (head_or_first-cuts w word utf8 each)

-- ---- lines

-- the lines of a text that fits, fit
pub text_lines_fit : (w d : ℕ) (text : Text) → IsScalar d → IsUtf8 text → TextFits w d text → All (IsFittingLine w) (lines_of_text w d text)
text_lines_fit w d text scalar utf8 fits =
    cond_both (nat_le (measure text) w) _ _ (All (IsFittingLine w))
    (λ narrow. All-cons (IsFittingLine w) text [] (record { whole = utf8; fits = grind (arith, nat_tests, narrow) }) (All-nil (IsFittingLine w)))
    (λ wide. ⊎_elim (λ fits. absurd (grind (arith, nat_tests, wide, fits)))
    (λ words. All-weaker (λ line. IsUtf8 line × (measure line ≤ w)) (IsFittingLine w) (λ line both. record { whole = both.0; fits = both.1 }) (wrapped w d text)
    (wrapped-fit w d (WordFits w) (breaks-words w) scalar words.0 text (wrapped w d text) (wrapped_is_wrapped w d text scalar utf8) utf8 words.1)) fits)

pub text_lines_narrow : (w d : ℕ) (text : Text) → TextLinesFit w d text
text_lines_narrow w d text scalar utf8 fits =
    All-weaker (IsFittingLine w) (λ line. measure line ≤ w) (λ line fitting. fitting.fits) (lines_of_text w d text) (text_lines_fit w d text scalar utf8 fits)

-- the head of a text whose selectors agree fits
pub head-fitting : (k : ℕ) (text : Text) → IsUtf8 text → SelectorsAgree text → IsFittingLine k (head k text)
head-fitting k text utf8 agree = record { whole = head-utf8 k text utf8; fits = head_fits k text utf8 agree }

-- ---- texts of characters that fit

-- the elements of a text whose characters fit are such texts
elements-fit : (w d : ℕ) (text : Text) → IsUtf8 text → CharactersFit w text → All (CharactersFit w) (elements d text)
elements-fit w d text utf8 each =
    All-map (CharactersFit w) encode_utf8_all (slice_split (λ c. c == d) (chars text))
    (λ k default below.
    let parts = slice_split (λ c. c == d) (chars text) in
    let whole = AllPass-from_list_all all_scalars parts (parts-all scalar_of (λ c. c == d) (chars text) (scalars-chars text utf8)) k default below in
    let of_text = fitting-parts w text each in
    let fits = AllPass-from_list_all (list_all (character_fits w)) parts (parts-all (character_fits w) (λ c. c == d) (chars text) of_text.0) k default below in
    let agree = AllPass-from_list_all selectors_agree parts (parts-agree (λ c. c == d) (chars text) of_text.1) k default below in
    ap (λ cs. list_all (character_fits w) cs && selectors_agree cs) (chars-encodes (slice_index_or parts k default) whole) ∙ and_from _ _ fits agree)

-- a text whose characters fit, fits its column
pub fitting_characters_fit : (w d : ℕ) (text : Text) → FittingCharactersFit w d text
fitting_characters_fit w d text adds utf8 each =
    inr (adds, All-weaker (CharactersFit w) (WordFits w) (λ word own. inr own) (elements d text) (elements-fit w d text utf8 each))

-- ---- texts whose selectors agree

-- the selectors of the lines of such a text agree
wrapped-agree : (w d : ℕ) (text : Text) (lines : List Text) → IsScalar d → IsWrapped w d text lines → SelectorsAgree text → All SelectorsAgree lines
wrapped-agree w d text [] scalar wrapped each = All-nil SelectorsAgree
wrapped-agree w d text (line ∷ lines) scalar (tail, slice, ends, more) each =
    let gap = slice.gap_is_delimiters in
    let after = (agree-texts slice.gap (line ++ tail) (only-utf8 d slice.gap scalar gap) (subst SelectorsAgree slice.splits each)).1 in
    let both = agree-texts line tail slice.whole_characters after in
    All-cons SelectorsAgree line lines both.0 (wrapped-agree w d tail lines scalar more both.1)

pub lines-agree : (w d : ℕ) (text : Text) → IsScalar d → IsUtf8 text → SelectorsAgree text → All SelectorsAgree (lines_of_text w d text)
lines-agree w d text scalar utf8 each =
    cond_both (nat_le (measure text) w) _ _ (All SelectorsAgree) (λ _. All-cons SelectorsAgree text [] each (All-nil SelectorsAgree))
    (λ _. wrapped-agree w d text (wrapped w d text) scalar (wrapped_is_wrapped w d text scalar utf8) each)
