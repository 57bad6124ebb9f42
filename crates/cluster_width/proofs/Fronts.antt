-- Whole clusters at the front of a text measure at most as much as they do by themselves.
use Rattle.std.proofs.Common.{◌≡◌, ℕ, zero, suc, ◌+◌, Bool, true, false, not, List, [], ◌∷◌, ◌++◌, map, take, drop, sum_by, refl, sym, ap, ap₂, ◌∙◌, arith, append_assoc}
use Rattle.std.specs.Prelude.{encode_utf8_all, if◌then◌else◌}
use Rattle.std.specs.List.{concat, list_all}
use Rattle.std.specs.Str.{chars}
use Rattle.std.proofs.Math.Utf8.{scalar, scalars}
use Rattle.std.proofs.lemmas.Bool.{and_from, and_parts}
use Rattle.std.proofs.lemmas.List.{take-append-drop, take-map}
use Rattle.std.proofs.lemmas.List.Folds.{concat-append}
use Rattle.std.proofs.lemmas.List.Sums.{sum_by-cons}
use Rattle.std.proofs.lemmas.Str.{chars-encodes, encodes-append, scalars-chars}
use Rattle.unicode_segmentation.specs.Grapheme.{is_grapheme_break}
use Rattle.unicode_segmentation.specs.Segments.{Rule, cut, prepend, segments}
use Rattle.unicode_width.specs.Width.{str_width}
use Rattle.cluster_width.specs.ClusterSums.{ClustersBoundTheMeasure, FrontsBoundTheMeasure, Text, clash, clusters, measure, selectors_agree}
use Rattle.cluster_width.proofs.Sums.{pieces_bound}

-- ---- the pieces of a prefix

-- a character before pieces, as a piece of its own or at the front of the first piece
abbrev pub put : Bool → ℕ → List (List ℕ) → List (List ℕ)
put b c ps = if b then (c ∷ []) ∷ ps else prepend (c ∷ []) ps

concat-put : (b : Bool) (c : ℕ) (ps : List (List ℕ)) → concat (put b c ps) ≡ c ∷ concat ps
concat-put true c ps = refl
concat-put false c [] = refl
concat-put false c (p ∷ ps) = refl

pub concat-cut : (rule : Rule) (before cs after : List ℕ) → concat (cut rule before cs after) ≡ cs
unfolding cut
concat-cut rule before [] after = refl
concat-cut rule before (c ∷ cs) after =
    concat-put (rule (c ∷ before) (cs ++ after)) c (cut rule (c ∷ before) cs after) ∙ ap (λ t. c ∷ t) (concat-cut rule (c ∷ before) cs after)

concat-parts : (n : ℕ) (ps : List (List ℕ)) → concat (take n ps) ++ concat (drop n ps) ≡ concat ps
concat-parts n ps = sym (concat-append (take n ps) (drop n ps)) ∙ ap concat (take-append-drop n ps)

-- the text after the first n pieces
abbrev follows : ℕ → List (List ℕ) → List ℕ → List ℕ
follows n ps after = concat (drop n ps) ++ after

-- the first pieces of a text, cut again
module _ (rule : Rule) (before : List ℕ) (c : ℕ) (cs after : List ℕ) where
  one : (b : Bool) → put b c [] ≡ (c ∷ []) ∷ []
  one true = refl
  one false = refl

  again-put : (b : Bool) (ps : List (List ℕ)) (n : ℕ) → concat ps ≡ cs → rule (c ∷ before) (cs ++ after) ≡ b
      → ((m : ℕ) → cut rule (c ∷ before) (concat (take m ps)) (follows m ps after) ≡ take m ps)
      → cut rule before (concat (take n (put b c ps))) (follows n (put b c ps) after) ≡ take n (put b c ps)
  unfolding cut
  again-put b ps zero all is rest = refl
  again-put true ps (suc n) all is rest =
      let same : concat (take n ps) ++ follows n ps after ≡ cs ++ after = sym (append_assoc (concat (take n ps)) (concat (drop n ps)) after) ∙ ap (λ t. t ++ after) (concat-parts n ps ∙ all) in
      ap₂ (λ d qs. put d c qs) (ap (rule (c ∷ before)) same ∙ is) (rest n)
  again-put false [] (suc zero) all is rest = one (rule (c ∷ before) after)
  again-put false [] (suc (suc n)) all is rest = one (rule (c ∷ before) after)
  again-put false (p ∷ ps) (suc n) all is rest =
      let same : concat (take (suc n) (p ∷ ps)) ++ follows (suc n) (p ∷ ps) after ≡ cs ++ after =
      sym (append_assoc (concat (take (suc n) (p ∷ ps))) (concat (drop (suc n) (p ∷ ps))) after) ∙ ap (λ t. t ++ after) (concat-parts (suc n) (p ∷ ps) ∙ all) in
      ap₂ (λ d qs. put d c qs) (ap (rule (c ∷ before)) same ∙ is) (rest (suc n))

cut-again : (rule : Rule) (before cs after : List ℕ) (n : ℕ)
    → cut rule before (concat (take n (cut rule before cs after))) (follows n (cut rule before cs after) after) ≡ take n (cut rule before cs after)
unfolding cut
cut-again rule before [] after zero = refl
cut-again rule before [] after (suc n) = refl
cut-again rule before (c ∷ cs) after n =
    again-put rule before c cs after (rule (c ∷ before) (cs ++ after)) (cut rule (c ∷ before) cs after) n (concat-cut rule (c ∷ before) cs after) refl
    (cut-again rule (c ∷ before) cs after)

-- ---- as bytes

all-put : (b : Bool) (c : ℕ) (ps : List (List ℕ)) → scalar c ≡ true → list_all scalars ps ≡ true → list_all scalars (put b c ps) ≡ true
all-put true c ps one all = and_from _ _ (and_from _ _ one refl) all
all-put false c [] one all = and_from _ _ (and_from _ _ one refl) refl
all-put false c (p ∷ ps) one all =
    let parts = and_parts (scalars p) (list_all scalars ps) all in and_from _ _ (and_from _ _ one parts.0) parts.1

pub all-cut : (rule : Rule) (before cs after : List ℕ) → scalars cs ≡ true → list_all scalars (cut rule before cs after) ≡ true
unfolding cut
all-cut rule before [] after all = refl
all-cut rule before (c ∷ cs) after all =
    let parts = and_parts (scalar c) (scalars cs) all in
    all-put (rule (c ∷ before) (cs ++ after)) c (cut rule (c ∷ before) cs after) parts.0 (all-cut rule (c ∷ before) cs after parts.1)

all-take : (n : ℕ) (ps : List (List ℕ)) → list_all scalars ps ≡ true → list_all scalars (take n ps) ≡ true
all-take zero ps all = refl
all-take (suc n) [] all = refl
all-take (suc n) (p ∷ ps) all = let parts = and_parts (scalars p) (list_all scalars ps) all in and_from _ _ parts.0 (all-take n ps parts.1)

scalars-append : (xs ys : List ℕ) → scalars xs ≡ true → scalars ys ≡ true → scalars (xs ++ ys) ≡ true
scalars-append [] ys a b = b
scalars-append (x ∷ xs) ys a b = let parts = and_parts (scalar x) (scalars xs) a in and_from _ _ parts.0 (scalars-append xs ys parts.1 b)

scalars-concat : (ps : List (List ℕ)) → list_all scalars ps ≡ true → scalars (concat ps) ≡ true
scalars-concat [] all = refl
scalars-concat (p ∷ ps) all = let parts = and_parts (scalars p) (list_all scalars ps) all in scalars-append p (concat ps) parts.0 (scalars-concat ps parts.1)

encodes-concat : (ps : List (List ℕ)) → concat (map encode_utf8_all ps) ≡ encode_utf8_all (concat ps)
encodes-concat [] = refl
encodes-concat (p ∷ ps) = ap (λ t. encode_utf8_all p ++ t) (encodes-concat ps) ∙ sym (encodes-append p (concat ps))

sum-encoded : (ps : List (List ℕ)) → list_all scalars ps ≡ true → sum_by measure (map encode_utf8_all ps) ≡ sum_by (str_width false) ps
sum-encoded [] all = refl
sum-encoded (p ∷ ps) all =
    let parts = and_parts (scalars p) (list_all scalars ps) all in
    sum_by-cons measure (encode_utf8_all p) (map encode_utf8_all ps)
    ∙ ap₂ (λ a b. a + b) (ap (str_width false) (chars-encodes p parts.0)) (sum-encoded ps parts.1)
    ∙ sym (sum_by-cons (str_width false) p ps)

pub agree-front : (xs ys : List ℕ) → selectors_agree (xs ++ ys) ≡ true → selectors_agree xs ≡ true
agree-front [] ys h = refl
agree-front (x ∷ []) ys h = refl
agree-front (x ∷ (y ∷ xs)) ys h =
    let parts = and_parts (not (clash x y)) (selectors_agree ((y ∷ xs) ++ ys)) h in and_from _ _ parts.0 (agree-front (y ∷ xs) ys parts.1)

-- the first n clusters measure at most as much as they do by themselves
pub fronts_bound : (text : Text) (n : ℕ) → FrontsBoundTheMeasure text n
unfolding segments
fronts_bound text n utf8 agree =
    let cs = chars text in
    let rule = is_grapheme_break true in
    let ps = cut rule [] cs [] in
    let all = all-cut rule [] cs [] (scalars-chars text utf8) in
    let qs = take n ps in
    let each = all-take n ps all in
    let front = concat qs in
    let split : front ++ concat (drop n ps) ≡ cs = concat-parts n ps ∙ concat-cut rule [] cs [] in
    let agree_front = agree-front front (concat (drop n ps)) (ap selectors_agree split ∙ agree) in
    let bound = pieces_bound front (follows n ps []) agree_front in
    let pieces = ap (sum_by (str_width false)) (cut-again rule [] cs [] n) in
    let text_of : concat (take n (clusters text)) ≡ encode_utf8_all front = ap concat (take-map encode_utf8_all n ps) ∙ encodes-concat qs in
    let left : measure (concat (take n (clusters text))) ≡ str_width false front = ap measure text_of ∙ ap (str_width false) (chars-encodes front (scalars-concat qs each)) in
    let right : sum_by measure (take n (clusters text)) ≡ sum_by (str_width false) qs = ap (sum_by measure) (take-map encode_utf8_all n ps) ∙ sum-encoded qs each in
    omega (arith, bound, pieces, left, right)

-- the whole text measures at most as much as its clusters together
pub clusters_bound : (text : Text) → ClustersBoundTheMeasure text
unfolding segments
clusters_bound text utf8 agree =
    let cs = chars text in
    let rule = is_grapheme_break true in
    let bound = pieces_bound cs [] agree in
    let sums = sum-encoded (cut rule [] cs []) (all-cut rule [] cs [] (scalars-chars text utf8)) in
    omega (arith, bound, sums)
