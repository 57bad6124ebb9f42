use Rattle.std.proofs.Common.{◌≡◌, ◌<◌, ◌≤◌, ◌-◌, ◌+◌, ◌++◌, ◌∷◌, ◌∙◌, [], ℕ, List, ap, ap₂, arith, drop, length, map, rules, slice_index_or, subst, sym, take}
use Rattle.std.specs.List.{All}
use Rattle.std.specs.Str.{IsCharBoundary, IsUtf8}
use Rattle.std.proofs.lemmas.List.{drop-drop, length-drop, map-append, take_all}
use Rattle.std.proofs.lemmas.List.Sums.{sum_by-take-le}
use Rattle.std.proofs.lemmas.List.Elements.{All-append, All-cons, All-nil}
use Rattle.std.proofs.lemmas.Str.{IsCharBoundary-from_take, IsUtf8-drop, IsUtf8-take}
use Rattle.comfy_parts.specs.Text.{Text}
use Rattle.csv_records.specs.CutLists.{cut_by, total}
use Rattle.comfy_c.specs.Texts.{AddUp}
use Rattle.comfy_c.proofs.TextLemmas.{in_cut, one_cut, whole_text}
use Rattle.comfy_c.proofs.texts.texts_of.Goals as goal

pub returns-in_default-clause-refused : goal.returns-in_default-clause-refused
returns-in_default-clause-refused c =
    let add_up : AddUp c.args.texts.now c.args.lengths.now c.args.counts.now = search rules in
    (add_up, λ all. c.in_default.ensures (whole_text c.args.lengths.now c.args.texts.now add_up.0 all))

pub returns-in_default-split_at_checked-clause-refused : goal.returns-in_default-split_at_checked-clause-refused
returns-in_default-split_at_checked-clause-refused c =
    let add_up : AddUp c.args.texts.now c.args.lengths.now c.args.counts.now = search rules in
    let lengths : List ℕ = c.args.lengths.now in
    let texts : Text = c.args.texts.now in
    let i : ℕ = c.loop-length.length-index in
    let n : ℕ = slice_index_or lengths i 0 in
    let below : i < length lengths = search rules in
    let inv = c.loop-length.invariant in
    let step = one_cut lengths i 0 below texts in
    let most = sum_by-take-le (λ m. m) lengths (i + 1) in
    let long : length c.loop-length.after.now ≡ length texts - total (take i lengths) = ap length inv.1 ∙ length-drop (total (take i lengths)) texts in
    let fits : n ≤ length c.loop-length.after.now = omega (arith, step.1, most, add_up.0, long) in
    let own : All IsUtf8 (cut_by lengths texts) → IsUtf8 (take n c.loop-length.after.now) = λ all. subst (λ (t : Text). IsUtf8 (take n t)) (sym inv.1) (in_cut IsUtf8 lengths i 0 below texts all) in
    let none : IsCharBoundary c.loop-length.after.now n → ⊥ = search rules in
    (add_up, λ all. none (IsCharBoundary-from_take c.loop-length.after.now n inv.3 fits (own all)))

pub loop-length-preserved : goal.loop-length-preserved
loop-length-preserved c =
    let lengths : List ℕ = c.args.lengths.now in
    let texts : Text = c.args.texts.now in
    let i : ℕ = c.loop-length.length-index in
    let n : ℕ = slice_index_or lengths i 0 in
    let below : i < length lengths = search rules in
    let inv = c.loop-length.invariant in
    let step = one_cut lengths i 0 below texts in
    let part : c.in-Some.text.now ≡ take n c.loop-length.after.now = search rules in
    let rest : c.in-Some.rest.now ≡ drop n c.loop-length.after.now = search rules in
    let boundary : IsCharBoundary c.loop-length.after.now n = search rules in
    let back : length c.in-Some.rest.now + n ≡ length c.loop-length.after.now = search rules in
    let pushed : c.push.new.self.items ≡ c.loop-length.found.items ++ c.in-Some.text ∷ [] = search rules in
    let long : length c.loop-length.after.now ≡ length texts - total (take i lengths) = ap length inv.1 ∙ length-drop (total (take i lengths)) texts in (
      ap (map (λ text. text.now)) pushed ∙ map-append (λ text. text.now) c.loop-length.found.items (c.in-Some.text ∷ []) ∙ ap₂ (λ (cells : List Text) (text : Text). cells ++ text ∷ []) inv.0 (part ∙ ap (take n) inv.1) ∙ sym step.0,
      rest ∙ ap (drop n) inv.1 ∙ drop-drop n (total (take i lengths)) texts ∙ ap (λ (k : ℕ). drop k texts) (sym step.1),
      omega (arith, step.1, back, long, inv.2),
      subst IsUtf8 (sym rest) (IsUtf8-drop c.loop-length.after.now n inv.3 boundary),
      subst (All IsUtf8) (sym step.0)
          (All-append IsUtf8 (cut_by (take i lengths) texts) (take n (drop (total (take i lengths)) texts) ∷ []) inv.4
          (All-cons IsUtf8 (take n (drop (total (take i lengths)) texts)) [] (subst (λ (t : Text). IsUtf8 (take n t)) inv.1 (IsUtf8-take c.loop-length.after.now n inv.3 boundary)) (All-nil IsUtf8))),
    )

pub returns-clause-texts : goal.returns-clause-texts
returns-clause-texts c =
    subst (λ (lengths : List ℕ). All IsUtf8 (cut_by lengths c.args.texts.now)) (take_all c.loop-length.length-index c.args.lengths.now c.loop-length-test.false) c.loop-length.invariant.4
