-- No sequence contains a line feed, so a text contains a line feed only if its visible text does.
use Rattle.std.proofs.Common.{◌≡◌, inl, inr, ⊎_elim, ℕ, true, ◌==◌, List, [], ◌∷◌, ◌++◌, refl, sym, ap, ◌∙◌, subst, eqb-true}
use Rattle.std.specs.List.{flat_map, list_all, list_any}
use Rattle.std.proofs.lemmas.Bool.{and_parts, cases_Bool, cond_both, or_from, true≢false}
use Rattle.comfy_parts.proofs.AbsentByteLemmas.{HasNo-append, HasNo-parts}
use Rattle.comfy_parts.proofs.ScanLemmas.{AreScanned, bytes_of, scan}
use Rattle.comfy_parts.specs.Text.{HasNo, Text}
use Rattle.comfy_parts.specs.VisibleText.{Part, is_parameter, parts, visible_bytes, visible_text}

-- if parts don't contain b, their visible bytes don't
visible_clear : (b : ℕ) (ps : List Part) → HasNo b (bytes_of ps) → HasNo b (flat_map visible_bytes ps)
visible_clear b [] clear = refl
visible_clear b (p ∷ ps) clear =
    let both = HasNo-parts b p.bytes (bytes_of ps) clear in
    HasNo-append b (visible_bytes p) (flat_map visible_bytes ps) (cond_both p.is_sequence [] p.bytes (HasNo b) (λ _. refl) (λ _. both.0)) (visible_clear b ps both.1)

-- if a text doesn't contain b, its visible text doesn't
pub HasNo-visible : (b : ℕ) (text : Text) → HasNo b text → HasNo b (visible_text text)
HasNo-visible b text clear = visible_clear b (parts text) (subst (HasNo b) (sym (scan text).bytes) clear)

-- parameter characters aren't line feeds
parameters_clear : (code : Text) → list_all is_parameter code ≡ true → HasNo 0x0A code
parameters_clear [] all = refl
parameters_clear (c ∷ cs) all =
    let both = and_parts (is_parameter c) (list_all is_parameter cs) all in
    or_from (c == 0x0A) (list_any (λ x. x == 0x0A) cs)
    (⊎_elim (λ same. absurd (true≢false (sym both.0 ∙ ap is_parameter (eqb-true c 0x0A same)))) (λ other. other) (cases_Bool (c == 0x0A))) (parameters_clear cs both.1)

-- a sequence doesn't contain a line feed
pub sequence_clear : (code : Text) → list_all is_parameter code ≡ true → HasNo 0x0A (0x1B ∷ 0x5B ∷ (code ++ (0x6D ∷ [])))
sequence_clear code all = HasNo-append 0x0A code (0x6D ∷ []) (parameters_clear code all) refl

-- if the visible bytes of scanned parts contain no line feed, the parts don't
hidden_clear : (ps : List Part) (rest : Text) → AreScanned ps rest → HasNo 0x0A (flat_map visible_bytes ps) → HasNo 0x0A (bytes_of ps)
hidden_clear [] rest scanned clear = refl
hidden_clear (p ∷ ps) rest (inl part, more) clear =
    let s = part.sequence in
    HasNo-append 0x0A p.bytes (bytes_of ps) (subst (HasNo 0x0A) (sym s.is) (sequence_clear s.code s.parameters))
    (hidden_clear ps rest more (subst (λ (x : Part). HasNo 0x0A (flat_map visible_bytes (x ∷ ps))) part.is clear))
hidden_clear (p ∷ ps) rest (inr part, more) clear =
    let both = HasNo-parts 0x0A (part.byte ∷ []) (flat_map visible_bytes ps) (subst (λ (x : Part). HasNo 0x0A (flat_map visible_bytes (x ∷ ps))) part.is clear) in
    subst (λ (x : Part). HasNo 0x0A (x.bytes ++ bytes_of ps)) (sym part.is) (HasNo-append 0x0A (part.byte ∷ []) (bytes_of ps) both.0 (hidden_clear ps rest more both.1))

-- if a visible text contains no line feed, the text doesn't
pub breaks_are_visible : (text : Text) → HasNo 0x0A (visible_text text) → HasNo 0x0A text
breaks_are_visible text clear = subst (HasNo 0x0A) (scan text).bytes (hidden_clear (parts text) [] (scan text).scanned clear)
