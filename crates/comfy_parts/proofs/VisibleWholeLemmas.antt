-- The visible text of a text of whole characters is whole characters.
use Rattle.std.proofs.Common.{◌≡◌, ◌⊎◌, inl, inr, ◌<◌, ◌≤◌, ℕ, zero, suc, ◌+◌, true, false, List, [], ◌∷◌, ◌++◌, length, drop, refl, sym, ap, ◌∙◌, subst, arith, length-append}
use Rattle.std.specs.List.{slice_index}
use Rattle.std.specs.Prelude.{if◌then◌else◌, encode_utf8, encode_utf8_all, IsUtf8}
use Rattle.std.specs.Str.{all_scalars}
use Rattle.std.proofs.lemmas.Bool.{and_parts, cond_both}
use Rattle.std.proofs.lemmas.List.{append_assoc}
use Rattle.std.proofs.lemmas.List.Prefix.{front_rest}
use Rattle.std.proofs.Math.Utf8.{scalar as scalar_of}
use Rattle.cluster_width.proofs.SpaceMeasureLemmas.{one_character}
use Rattle.std.proofs.lemmas.Str.{IsUtf8-append, IsUtf8-drop, IsUtf8-nil, IsCharBoundary-after_ascii}
use Rattle.unicode_segmentation.proofs.TextLemmas.{encode_utf8_nonempty}
use Rattle.comfy_parts.specs.Text.{Text}
use Rattle.comfy_parts.specs.VisibleText.{parts, parameter_count, sequence_len, visible_text, visible_bytes}
use Rattle.comfy_parts.proofs.SequenceLemmas.{BeginsWithSequence, begins_with_sequence, front_of, parts-sequence, sequence_len-sequence, slice_index_after}
use Rattle.comfy_parts.proofs.FrontLemmas.{character-visible, parts-character}
use Rattle.std.specs.List.{flat_map}

-- the text after a sequence at the front
pub past_sequence : (text : Text) (s : BeginsWithSequence text) (n : ℕ) → n ≡ length s.code + 3 → drop n text ≡ s.rest
past_sequence text s n place =
    let front : Text = 0x1B ∷ 0x5B ∷ (s.code ++ (0x6D ∷ [])) in
    let whole : n ≡ length front = omega (arith, place, length-append s.code (0x6D ∷ [])) in
    ap (λ i. drop i text) whole ∙ front_rest text front s.rest (s.is ∙ ap (λ xs. 0x1B ∷ 0x5B ∷ xs) (sym (append_assoc s.code (0x6D ∷ []) s.rest)))

-- the text after a sequence is whole characters
rest_whole : (text : Text) (s : BeginsWithSequence text) → IsUtf8 text → IsUtf8 s.rest
rest_whole text s utf8 =
    subst IsUtf8 (past_sequence text s (length s.code + 2 + 1) (omega arith))
    (IsUtf8-drop text (length s.code + 2 + 1) utf8 (IsCharBoundary-after_ascii text (length s.code + 2) utf8 (omega (arith, long, more)) (omega (arith, last))))
  where
    more : length (s.code ++ (0x6D ∷ s.rest)) ≡ length s.code + length (0x6D ∷ s.rest)
    more = length-append s.code (0x6D ∷ s.rest)

    long : length text ≡ length (0x1B ∷ 0x5B ∷ (s.code ++ (0x6D ∷ s.rest)))
    long = ap length s.is

    last : slice_index text (length s.code + 2) ≡ 0x6D
    last =
        let place : length s.code + 2 ≡ suc (suc (length s.code)) = omega arith in
        ap (slice_index text) place ∙ ap (λ (t : Text). slice_index t (suc (suc (length s.code)))) s.is ∙ slice_index_after s.code 0x6D s.rest

-- the visible text of each text of at most n bytes is whole characters
abbrev WholeWithin : ℕ → Type 0
WholeWithin fuel = (text : Text) → length text ≤ fuel → IsUtf8 text → IsUtf8 (visible_text text)

-- a character that begins no sequence is visible
pub visible_character : (c : ℕ) (more : Text) → begins_with_sequence (encode_utf8 c ++ more) ≡ false → visible_text (encode_utf8 c ++ more) ≡ encode_utf8 c ++ visible_text more
visible_character c more free = ap (flat_map visible_bytes) (parts-character c more free) ∙ character-visible c (parts more)

-- the visible text with a character at its front
after_character : (fuel c : ℕ) (cs : List ℕ) (text : Text) → text ≡ encode_utf8 c ++ encode_utf8_all cs → all_scalars (c ∷ cs) ≡ true → begins_with_sequence text ≡ false → length text ≤ suc fuel → WholeWithin fuel → IsUtf8 (visible_text text)
after_character fuel c cs text is scalars free short rest =
    subst IsUtf8 (sym shown) (IsUtf8-append (encode_utf8 c) (visible_text more) first (rest more shorter (cs, ((and_parts (scalar_of c) (all_scalars cs) scalars).1, refl))))
  where
    more : Text
    more = encode_utf8_all cs

    first : IsUtf8 (encode_utf8 c)
    first = (one_character c (and_parts (scalar_of c) (all_scalars cs) scalars).0).0

    shorter : length more ≤ fuel
    shorter =
        let some = encode_utf8_nonempty c in
        let bytes = ap length is ∙ length-append (encode_utf8 c) more in
        omega (arith, some, bytes, short)

    shown : visible_text text ≡ encode_utf8 c ++ visible_text more
    shown = ap visible_text is ∙ visible_character c more (ap begins_with_sequence (sym is) ∙ free)

whole_within : (fuel : ℕ) → WholeWithin fuel
whole_within fuel [] short utf8 = IsUtf8-nil
whole_within zero (b ∷ rest) short utf8 = absurd (omega (arith, short))
whole_within (suc fuel) (b ∷ rest) short utf8 = by_front (front_of (b ∷ rest)) utf8 (whole_within fuel)
  where
    by_front : BeginsWithSequence (b ∷ rest) ⊎ (begins_with_sequence (b ∷ rest) ≡ false) → IsUtf8 (b ∷ rest) → WholeWithin fuel → IsUtf8 (visible_text (b ∷ rest))
    by_front (inl s) utf8 more =
        let long = ap length s.is in
        let after = length-append s.code (0x6D ∷ s.rest) in
        let shown : visible_text (b ∷ rest) ≡ visible_text s.rest = ap visible_text s.is ∙ ap (flat_map visible_bytes) (parts-sequence s.code s.rest s.parameters) in
        subst IsUtf8 (sym shown) (more s.rest (omega (arith, short, long, after)) (rest_whole (b ∷ rest) s utf8))
    by_front (inr free) ([], (scalars, is)) more = absurd (let len = ap length is in omega (arith, len))
    by_front (inr free) (c ∷ cs, (scalars, is)) more = after_character fuel c cs (b ∷ rest) (sym is) scalars free short more

-- the visible text of every text of whole characters is whole characters
pub visible_text-whole : (text : Text) → IsUtf8 text → IsUtf8 (visible_text text)
visible_text-whole text utf8 = whole_within (length text) text (omega arith) utf8

-- ---- part by part

-- if the length of the sequence at the front is 0, the text doesn't begin with a sequence
pub none_at_front : (text : Text) → sequence_len text ≡ 0 → begins_with_sequence text ≡ false
none_at_front text none =
    cond_both (begins_with_sequence text) _ _ (λ n. n ≡ 0 → begins_with_sequence text ≡ false) (λ _ len. absurd (omega (arith, len))) (λ free _. free) none

-- the text after a sequence at the front
pub record IsTail (text rest : Text) : Type 0 where
  pub visible : visible_text text ≡ visible_text rest
  pub whole : IsUtf8 rest

pub after_sequence : (text : Text) → IsUtf8 text → 0 < sequence_len text → IsTail text (drop (sequence_len text) text)
after_sequence text utf8 some = by_front (front_of text)
  where
    by_front : BeginsWithSequence text ⊎ (begins_with_sequence text ≡ false) → IsTail text (drop (sequence_len text) text)
    by_front (inr free) = absurd (let none = ap (λ b. if b then parameter_count text + 3 else 0) free in omega (arith, none, some))
    by_front (inl s) =
        let len : sequence_len text ≡ length s.code + 3 = ap sequence_len s.is ∙ sequence_len-sequence s.code s.rest s.parameters ∙ omega arith in
        subst (IsTail text) (sym (past_sequence text s (sequence_len text) len))
        (record { visible = ap visible_text s.is ∙ ap (flat_map visible_bytes) (parts-sequence s.code s.rest s.parameters); whole = rest_whole text s utf8 })
