-- Outputs that contradict the conclusions of laws.
use Rattle.std.proofs.Common.{◌≡◌, ◌==◌, ℕ, Bool, true, false, List, [], ◌∷◌, ◌++◌, None, Option, append-nil, arith, codes, refl, sym, ap, ◌∙◌, subst}
use Rattle.std.specs.List.{All, slice_split}
use Rattle.std.proofs.lemmas.List.Elements.{All-head, All-tail}
use lib.Utf8.{encode}
use Rattle.comfy_parts.proofs.Computing.{wrapping}
use Rattle.comfy_parts.specs.Text.{Text, measure}
use Rattle.comfy_table.proofs.BreakLemmas.{terminated_lines}
use Rattle.comfy_table.specs.Laws.{AreLinesOf}
use Rattle.csv_records.specs.Cleaning.{visible_of}
use Rattle.csv_tables.specs.declared.options.Layout.{Layout}
use Rattle.csv_tables.specs.declared.options.Look.{Look}
use Rattle.csv_tables.specs.Laws.{HasLines, IsOutputWith, IsStraightOutput, seen_lines}
use Rattle.test_definitions.proofs.PlainLook.{plain_look}

-- rows are never expanded, and all are drawn
abbrev look : Look
look = plain_look

abbrev drawn_by : Layout → Layout
drawn_by layout = record layout { selection = record layout.selection { limit = None }; look = look }

-- the lines of an output with this layout are the parts between its line feeds
lines_of_output : (count : Option ℕ) (layout : Layout) (records : List (List Text)) (output : Text) (lines : List Text) → IsOutputWith count (drawn_by layout) records output lines → slice_split (λ b. b == 0x0A) output ≡ lines ++ [] ∷ []
lines_of_output count layout records output lines is =
    let are : AreLinesOf is.text lines = subst (λ (b : Bool). HasLines b is.content lines is.text) is.expansion is.has_lines in
    ap (slice_split (λ b. b == 0x0A)) (is.joined ∙ append-nil is.text ∙ are.joined) ∙ terminated_lines lines are.unbroken

-- two lines are these two
two_lines : (first second : Text) (lines : List Text) → first ∷ second ∷ [] ∷ [] ≡ lines ++ [] ∷ [] → lines ≡ first ∷ second ∷ []
two_lines first second [] is = absurd (cc is)
two_lines first second (a ∷ []) is = absurd (cc is)
two_lines first second (a ∷ b ∷ []) is = let one : first ≡ a = cc is in let other : second ≡ b = cc is in cc (one, other)
two_lines first second (a ∷ b ∷ c ∷ more) is = absurd (longer more (cc is))
  where
    longer : (more : List Text) → ¬ ([] ∷ [] ≡ c ∷ (more ++ [] ∷ []))
    longer [] same = cc same
    longer (d ∷ ds) same = cc same

one_column : (visible : Bool) → measure (visible_of visible (codes "a")) ≡ 1
unfolding wrapping encode
one_column true = refl
one_column false = refl

two_columns : (visible : Bool) → measure (visible_of visible (codes "ab")) ≡ 2
unfolding wrapping encode
two_columns true = refl
two_columns false = refl

-- false: csv_tables::laws::outputs_are_straight
two_widths_are_not_straight : (visible : Bool) (count : Option ℕ) (layout : Layout) (records : List (List Text)) → ¬ (IsStraightOutput visible count (drawn_by layout) records (codes "ab\na\n"))
two_widths_are_not_straight visible count layout records is =
    let are = two_lines (codes "ab") (codes "a") is.lines (lines_of_output count layout records (codes "ab\na\n") is.lines is.is_output) in
    let n = is.equally_wide.0 in
    let Is = λ (line : Text). measure line ≡ n in
    let first = visible_of visible (codes "ab") in
    let second = visible_of visible (codes "a") in
    let all : All Is (first ∷ second ∷ []) = subst (λ (lines : List Text). All Is (seen_lines visible lines)) are is.equally_wide.1 in
    let wide : n ≡ 2 = sym (All-head Is first (second ∷ []) all) ∙ two_columns visible in
    let narrow : n ≡ 1 = sym (All-head Is second [] (All-tail Is first (second ∷ []) all)) ∙ one_column visible in
    absurd (omega (arith, wide, narrow))
