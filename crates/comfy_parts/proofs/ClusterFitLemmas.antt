-- A head fits its terminal columns, because the measures of its clusters add up to at least its own. So wrapping cuts
-- words well if each of their characters fits.
use Rattle.std.proofs.Common.{◌≡◌, ◌≤◌, ℕ, Bool, true, not, ◌==◌, List, [], ◌∷◌, ◌++◌, length, take, refl, sym, ap, ◌∙◌, arith, append-nil}
use Rattle.std.specs.List.{list_all, onto_first, slice_split}
use Rattle.std.specs.Prelude.{chars, encode_utf8, encode_utf8_all, IsUtf8}
use Rattle.std.specs.Str.{all_scalars}
use Rattle.std.proofs.lemmas.Bool.{and_from, and_parts, cond_both, leb-true}
use Rattle.std.proofs.lemmas.List.Folds.{list_all-append}
use Rattle.std.proofs.lemmas.Str.{chars-append, chars-encodes, encodes-append, encodes-chars, scalars-chars}
use Rattle.cluster_width.specs.ClusterSums.{clash, clashes, selectors_agree}
use Rattle.cluster_width.proofs.Fronts.{agree-front, fronts_bound}
use Rattle.comfy_parts.specs.Columns.{CharactersFit, HeadFits, SelectorsAgree, character_fits}
use Rattle.comfy_parts.specs.Text.{Text, first_character, head, measure}
use Rattle.comfy_parts.specs.Wrapping.{head_or_first}
use Rattle.comfy_parts.proofs.HeadLemmas.{head_is_longest}
use Rattle.comfy_parts.proofs.LinesFitLemmas.{IsCut}
use Rattle.comfy_parts.proofs.PlaceLemmas.{IsFront, head-front, scalars-parts}
use Rattle.cluster_width.proofs.SpaceMeasureLemmas.{measure-nil}

-- ---- heads

pub head_fits : (k : ℕ) (text : Text) → HeadFits k text
head_fits k text utf8 agree =
    let longest = head_is_longest k text in
    let bound = fronts_bound text longest.clusters_taken utf8 agree in
    let within = longest.within in
    let same = ap measure longest.whole_clusters in
    omega (arith, bound, within, same)

-- ---- selectors agree in parts of a text

pub agree-back : (xs ys : List ℕ) → selectors_agree (xs ++ ys) ≡ true → selectors_agree ys ≡ true
agree-back [] ys h = h
agree-back (x ∷ xs) ys h = agree-back xs ys (and_parts (not (clashes x (xs ++ ys))) (selectors_agree (xs ++ ys)) h).1

pub agree-texts : (front back : Text) → IsUtf8 front → SelectorsAgree (front ++ back) → SelectorsAgree front × SelectorsAgree back
agree-texts front back utf8 agree =
    let whole = sym (ap selectors_agree (chars-append front back utf8)) ∙ agree in
    (agree-front (chars front) (chars back) whole, agree-back (chars front) (chars back) whole)

-- ---- words are cut well

-- if the characters of a text fit, each of them does, and the selectors of the text agree
pub fitting-parts : (w : ℕ) (text : Text) → CharactersFit w text → (list_all (character_fits w) (chars text) ≡ true) × SelectorsAgree text
fitting-parts w text each = and_parts (list_all (character_fits w) (chars text)) (selectors_agree (chars text)) each

-- a prefix that fits is a good cut of a word whose characters fit
cuts : (w k : ℕ) (word taken : Text) → IsUtf8 word → CharactersFit w word → IsFront (chars word) taken → measure taken ≤ k → IsCut (CharactersFit w) k taken word
cuts w k word taken utf8 each front fits =
    let whole = scalars-parts front.front front.back (sym (ap all_scalars front.splits) ∙ scalars-chars word utf8) in
    let parts = fitting-parts w word each in
    let alone = and_parts (list_all (character_fits w) front.front) (list_all (character_fits w) front.back) (sym (list_all-append (character_fits w) front.front front.back) ∙ sym (ap (list_all (character_fits w)) front.splits) ∙ parts.0) in
    let agree = agree-back front.front front.back (sym (ap selectors_agree front.splits) ∙ parts.1) in
    let same = chars-encodes front.back whole.1 in
    record {
      rest = encode_utf8_all front.back;
      splits = sym (encodes-chars word utf8) ∙ ap encode_utf8_all front.splits ∙ encodes-append front.front front.back ∙ ap (λ t. t ++ encode_utf8_all front.back) front.spelt;
      whole_front = (front.front, (whole.0, front.spelt));
      whole_rest = (front.back, (whole.1, refl));
      fits = fits;
      keeps = and_from _ _ (ap (list_all (character_fits w)) same ∙ alone.1) (ap selectors_agree same ∙ agree);
    }

pub head-cuts : (w k : ℕ) (word : Text) → IsUtf8 word → CharactersFit w word → IsCut (CharactersFit w) k (head k word) word
head-cuts w k word utf8 each = cuts w k word (head k word) utf8 each (head-front k word) (head_fits k word utf8 (fitting-parts w word each).1)

-- the first character of a text is a prefix
first-front : (cs : List ℕ) → IsFront cs (encode_utf8_all (take 1 cs))
first-front [] = record { front = []; back = []; splits = refl; spelt = refl }
first-front (c ∷ cs) = record { front = c ∷ []; back = cs; splits = refl; spelt = refl }

first-fits : (w : ℕ) (cs : List ℕ) → list_all (character_fits w) cs ≡ true → measure (encode_utf8_all (take 1 cs)) ≤ w
first-fits w [] each = let none = measure-nil in omega (arith, none)
first-fits w (c ∷ cs) each =
    let one = leb-true _ _ (and_parts (character_fits w c) (list_all (character_fits w) cs) each).0 in
    let same = ap measure (append-nil (encode_utf8 c)) in
    omega (arith, one, same)

pub head_or_first-cuts : (w : ℕ) (word : Text) → IsUtf8 word → CharactersFit w word → IsCut (CharactersFit w) w (head_or_first w word) word
head_or_first-cuts w word utf8 each =
    cond_both (length (head w word) == 0) _ _ (λ t. IsCut (CharactersFit w) w t word)
    (λ _. cuts w w word (first_character word) utf8 each (first-front (chars word)) (first-fits w (chars word) (fitting-parts w word each).0))
    (λ _. head-cuts w w word utf8 each)

-- ---- the parts between delimiters

-- the first part agrees with the character before it
abbrev first_agrees : ℕ → List (List ℕ) → Bool
first_agrees c [] = true
first_agrees c (part ∷ parts) = not (clashes c part)

onto-first : (c d : ℕ) (parts : List (List ℕ)) → not (clash c d) ≡ true → first_agrees c (onto_first d parts) ≡ true
onto-first c d [] apart = apart
onto-first c d (part ∷ parts) apart = apart

split-first : (p : ℕ → Bool) (c : ℕ) (cs : List ℕ) → not (clashes c cs) ≡ true → first_agrees c (slice_split p cs) ≡ true
split-first p c [] apart = refl
split-first p c (d ∷ cs) apart = cond_both (p d) _ _ (λ parts. first_agrees c parts ≡ true) (λ _. refl) (λ _. onto-first c d (slice_split p cs) apart)

onto-all : (c : ℕ) (parts : List (List ℕ)) → first_agrees c parts ≡ true → list_all selectors_agree parts ≡ true → list_all selectors_agree (onto_first c parts) ≡ true
onto-all c [] first each = refl
onto-all c (part ∷ parts) first each =
    let rest = and_parts (selectors_agree part) (list_all selectors_agree parts) each in and_from _ _ (and_from _ _ first rest.0) rest.1

pub parts-agree : (p : ℕ → Bool) (cs : List ℕ) → selectors_agree cs ≡ true → list_all selectors_agree (slice_split p cs) ≡ true
parts-agree p [] agree = refl
parts-agree p (c ∷ cs) agree =
    let parts = and_parts (not (clashes c cs)) (selectors_agree cs) agree in
    let rest = parts-agree p cs parts.1 in
    cond_both (p c) _ _ (λ qs. list_all selectors_agree qs ≡ true) (λ _. rest) (λ _. onto-all c (slice_split p cs) (split-first p c cs parts.0) rest)
