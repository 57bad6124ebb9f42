-- The total of a line of a table without constraints: at most the table's width, or exactly this width.
use Rattle.std.proofs.lemmas.Bool.{cond_both}
use Rattle.std.proofs.Common.{◌≡◌, ◌≤◌, ℕ, suc, ◌+◌, Bool, true, false, cond, not, ◌==◌, List, [], ◌∷◌, length, map, sum, sum_by, zip, get_or, Option, Some, None, filter, refl, sym, ap, ◌∙◌, subst, arith, ◌&&◌}
use Rattle.std.specs.List.{AllByRecursion, AllZip, enumerate_from}
use Rattle.std.proofs.lemmas.List.{length-map}
use Rattle.std.proofs.lemmas.List.Elements.{recursion_from_All}
use Rattle.std.proofs.lemmas.List.Sums.{sum_by-cons}
use Rattle.comfy_parts.specs.CellValue.{ColumnValue, ColumnInfo, column_padding, info_of, info_width, is_hidden_column}
use Rattle.comfy_parts.specs.declared.style.table.ContentArrangement.{ContentArrangement}
use Rattle.comfy_parts.specs.declared.style.table.ContentArrangement.TheVariants.{Dynamic, DynamicFullWidth}
use Rattle.comfy_table.specs.Arrangement.{IsArranged, width_kept, is_full_width, room_beside_borders, widths_at}
use Rattle.comfy_table.specs.Drawing.{infos_of, outer_widths}
use Rattle.comfy_table.specs.Dynamic.{Claim, Steps, IsArrangedBy, IsDynamicLayout, contents_after, added, even_columns, room_left}
use Rattle.comfy_table.specs.Frame.{border_count}
use Rattle.comfy_table.specs.Laws.{NoConstraints, KeepsToWidth, FillsWidth, line_total, least_total, least_with_steps}
use Rattle.comfy_table.specs.Levels.{IsUnconstrained}
use Rattle.comfy_table.specs.TableValue.{TableValue, table_width, shown_columns, column_content_width}
use Rattle.comfy_table.specs.Widths.{ColumnNeeds, needs_of, shown_needs, shown_count, even_spread, lower_boundary, upper_boundary, fixed_by_constraint}
use Rattle.comfy_table.proofs.BudgetLemmas.{keeps_to_wider_bound, fills_wider_bound}
use Rattle.comfy_table.proofs.ContentLemmas.{each_content, each_content_short, steps_with}
use Rattle.comfy_table.proofs.UnconstrainedLemmas.{least_with_steps-unconstrained}
use Rattle.comfy_parts.proofs.CallerLemmas.{every-second}
use Rattle.comfy_table.proofs.InfoLemmas.{columns_from}

-- ---- the whole widths

-- the widths of the shown columns of a list that begins at position n
abbrev widths_from : List ℕ → ℕ → List ColumnValue → List ℕ
widths_from widths n columns = widths_at widths (columns_from n columns)

-- the whole widths of these columns
abbrev drawn_from : ℕ → List ColumnInfo → List ℕ
drawn_from n infos = map (λ (p : ℕ × ColumnInfo). info_width p.1) (filter (λ (p : ℕ × ColumnInfo). not p.1.is_hidden) (enumerate_from n infos))

-- the sum of their paddings
abbrev paddings_from : ℕ → List ColumnValue → ℕ
paddings_from n columns = sum_by (λ (p : ℕ × ColumnValue). column_padding p.1) (columns_from n columns)

-- the sum of the whole widths is that of the widths, if these are at least 1, and of the paddings
sum-drawn_from : (widths : List ℕ) (n : ℕ) (columns : List ColumnValue) (ws : List ℕ) → length ws ≡ length columns → ((k : ℕ) → get_or widths (n + k) 0 ≡ get_or ws k 0)
    → AllByRecursion (λ (w : ℕ). 1 ≤ w) (widths_from widths n columns)
    → sum (drawn_from n (map (λ (p : ColumnValue × ℕ). info_of p.0 p.1) (zip columns ws))) ≡ paddings_from n columns + sum (widths_from widths n columns)
sum-drawn_from widths n [] ws same at each = refl
sum-drawn_from widths n (column ∷ more) [] same at each = absurd (omega arith)
sum-drawn_from widths n (column ∷ more) (w ∷ ws) same at each =
    by_test (is_hidden_column column) each (sum-drawn_from widths (n + 1) more ws (omega arith) (λ k. let there : n + 1 + k ≡ n + suc k = omega arith in ap (λ (i : ℕ). get_or widths i 0) there ∙ at (suc k)))
  where
    infos : List ColumnInfo
    infos = map (λ (p : ColumnValue × ℕ). info_of p.0 p.1) (zip more ws)

    later : List ColumnInfo → List (ℕ × ColumnInfo)
    later rest = filter (λ (p : ℕ × ColumnInfo). not p.1.is_hidden) (enumerate_from (n + 1) rest)

    at_first : get_or widths n 0 ≡ w
    at_first = let here : n ≡ n + 0 = omega arith in ap (λ (i : ℕ). get_or widths i 0) here ∙ at 0

    by_test : (b : Bool) → AllByRecursion (λ (x : ℕ). 1 ≤ x) (widths_at widths (cond (not b) ((n, column) ∷ columns_from (n + 1) more) (columns_from (n + 1) more)))
        → (AllByRecursion (λ (x : ℕ). 1 ≤ x) (widths_from widths (n + 1) more) → sum (drawn_from (n + 1) infos) ≡ paddings_from (n + 1) more + sum (widths_from widths (n + 1) more))
        → sum (map (λ (p : ℕ × ColumnInfo). info_width p.1) (cond (not b) ((n, info_of column w) ∷ later infos) (later infos)))
        ≡ sum_by (λ (p : ℕ × ColumnValue). column_padding p.1) (cond (not b) ((n, column) ∷ columns_from (n + 1) more) (columns_from (n + 1) more))
        + sum (widths_at widths (cond (not b) ((n, column) ∷ columns_from (n + 1) more) (columns_from (n + 1) more)))
    by_test true each rest = rest each
    by_test false each rest =
        omega (
          arith,
          rest each.1,
          at_first,
          each.0,
          sum_by-cons (λ (x : ℕ). x) (info_width (info_of column w)) (drawn_from (n + 1) infos),
          sum_by-cons (λ (p : ℕ × ColumnValue). column_padding p.1) (n, column) (columns_from (n + 1) more),
          sum_by-cons (λ (x : ℕ). x) (get_or widths n 0) (widths_from widths (n + 1) more),
        )

-- the whole widths of a table add up in this way, if its shown widths are at least 1
pub sum-outer_widths : (table : TableValue) (widths : List ℕ) → length widths ≡ length table.columns → AllByRecursion (λ (w : ℕ). 1 ≤ w) (widths_at widths (shown_columns table))
    → sum (outer_widths (infos_of table widths)) ≡ sum_by (λ (p : ℕ × ColumnValue). column_padding p.1) (shown_columns table) + sum (widths_at widths (shown_columns table))
sum-outer_widths table widths same each =
    sum-drawn_from widths 0 table.columns widths same (λ k. let here : 0 + k ≡ k = omega arith in ap (λ (i : ℕ). get_or widths i 0) here) each

-- ---- the needs of a table without constraints

-- columns without constraints have unconstrained needs
unconstrained_needs : (table : TableValue) (columns : List (ℕ × ColumnValue)) → AllByRecursion (λ (p : ℕ × ColumnValue). p.1.constraint ≡ None) columns → AllByRecursion IsUnconstrained (map (needs_of table) columns)
unconstrained_needs table [] each = tt
unconstrained_needs table (p ∷ more) each = (
  record {
    no_early = ap (fixed_by_constraint table (shown_count table) (column_content_width table p.0) (column_padding p.1)) each.0;
    no_lower = ap (lower_boundary table (shown_count table)) each.0;
    no_upper = ap (upper_boundary table (shown_count table)) each.0;
  },
  unconstrained_needs table more each.1,
)

-- the needs of the shown columns are unconstrained
pub unconstrained_shown : (table : TableValue) → NoConstraints table → AllByRecursion IsUnconstrained (shown_needs table)
unconstrained_shown table none = unconstrained_needs table (shown_columns table) (recursion_from_All (λ (p : ℕ × ColumnValue). p.1.constraint ≡ None) (shown_columns table) none)

-- the sum of the paddings of their needs
pub paddings_of_needs : (table : TableValue) (columns : List (ℕ × ColumnValue)) → sum_by (λ (column : ColumnNeeds). column.padding) (map (needs_of table) columns) ≡ sum_by (λ (p : ℕ × ColumnValue). column_padding p.1) columns
paddings_of_needs table [] = refl
paddings_of_needs table (p ∷ more) =
    omega (arith, paddings_of_needs table more, sum_by-cons (λ (column : ColumnNeeds). column.padding) (needs_of table p) (map (needs_of table) more), sum_by-cons (λ (q : ℕ × ColumnValue). column_padding q.1) p more)

-- ---- each width is at least 1

-- each content width of columns without constraints is at least 1
some_content : (room : ℕ) (columns : List ColumnNeeds) → AllByRecursion IsUnconstrained columns → (full : Bool) (lower : List Claim) (level : Option ℕ) (shrunk : List Claim) (widths : List ℕ)
    → IsArrangedBy room columns full (steps_with lower level shrunk) widths → AllZip (λ (column : ColumnNeeds) (width : ℕ). 1 ≤ width) columns (contents_after room columns (steps_with lower level shrunk))
some_content room columns plain full lower None shrunk widths arranged =
    each_content_short room columns plain (λ column width. 1 ≤ width) full lower shrunk widths arranged (λ column free. omega arith)
some_content room columns plain full lower (Some level) shrunk widths arranged =
    let one = arranged.level_found.1 in
    each_content room columns plain (λ column width. 1 ≤ width) full lower level shrunk widths arranged
    (record { fit = λ column free fits. omega arith; shrunk = λ column b free wider at_least within three. omega arith; even = λ column b width free wider at_least within tight low high. omega (arith, one) })

-- an added number keeps a width at least 1
pub every_added : (xs ys : List ℕ) → AllByRecursion (λ (w : ℕ). 1 ≤ w) xs → AllByRecursion (λ (w : ℕ). 1 ≤ w) (added xs ys)
every_added [] ys each = tt
every_added (x ∷ xs) [] each = tt
every_added (x ∷ xs) (y ∷ ys) each = (omega (arith, each.0), every_added xs ys each.1)

-- each dynamic width without constraints is at least 1
pub some_width : (room : ℕ) (columns : List ColumnNeeds) → AllByRecursion IsUnconstrained columns → (full : Bool) (steps : Steps) (widths : List ℕ) → IsArrangedBy room columns full steps widths → AllByRecursion (λ (w : ℕ). 1 ≤ w) widths
some_width room columns plain full steps widths arranged =
    let contents : AllByRecursion (λ (w : ℕ). 1 ≤ w) (contents_after room columns steps) =
    every-second (λ (w : ℕ). 1 ≤ w) columns (contents_after room columns steps) (some_content room columns plain full steps.lower steps.level steps.shrunk widths arranged) in
    subst (AllByRecursion (λ (w : ℕ). 1 ≤ w)) (sym arranged.widths_are)
    (cond_both (full && (length (even_columns room columns steps) == 0)) _ _ (AllByRecursion (λ (w : ℕ). 1 ≤ w))
    (λ _. every_added (contents_after room columns steps) (even_spread (room_left room columns steps) (length columns)) contents) (λ _. contents))

-- ---- a table's lines

-- the shown widths of a table whose width is known are dynamic
pub dynamic_widths : (table : TableValue) (arrangement : ContentArrangement) (w : ℕ) (widths : List ℕ) → width_kept arrangement (Some w) ≡ Some w → table.arrangement ≡ arrangement → table_width table ≡ Some w → IsArranged table widths
    → IsDynamicLayout (room_beside_borders table w) (shown_needs table) (is_full_width arrangement) (widths_at widths (shown_columns table))
dynamic_widths table arrangement w widths kept same known arranged = grind arith

module _ (table : TableValue) (w : ℕ) (widths : List ℕ) (full : Bool) (none : NoConstraints table) (arranged : IsArranged table widths)
    (steps : Steps) (by : IsArrangedBy (room_beside_borders table w) (shown_needs table) full steps (widths_at widths (shown_columns table))) where
  -- a line's total is the border characters, the paddings and the widths
  line_total-is : line_total table widths ≡ border_count table.style (shown_count table) + (sum_by (λ (column : ColumnNeeds). column.padding) (shown_needs table) + sum (widths_at widths (shown_columns table)))
  line_total-is =
      let drawn = sum-outer_widths table widths arranged.one_for_each (some_width (room_beside_borders table w) (shown_needs table) (unconstrained_shown table none) full steps (widths_at widths (shown_columns table)) by) in
      omega (arith, drawn, paddings_of_needs table (shown_columns table))

  -- the least total is the border characters, the paddings and one terminal column for each column
  least_total-is : border_count table.style (shown_count table) + least_with_steps (shown_needs table) steps ≡ least_total table
  least_total-is =
      let least = least_with_steps-unconstrained (room_beside_borders table w) (shown_needs table) (unconstrained_shown table none) full steps (widths_at widths (shown_columns table)) by in
      omega (arith, least, paddings_of_needs table (shown_columns table), length-map (shown_columns table) (needs_of table))

-- a line is at most as wide as the table's width, or the least total if that is more
pub keeps_to_width : (table : TableValue) (w : ℕ) (widths : List ℕ) → KeepsToWidth table w widths
keeps_to_width table w widths none dynamic known arranged =
    let found = dynamic_widths table Dynamic w widths refl dynamic known arranged in
    let bound = keeps_to_wider_bound (room_beside_borders table w) (shown_needs table) found.0 (widths_at widths (shown_columns table)) found.1 in
    omega (arith, bound, line_total-is table w widths false none arranged found.0 found.1, least_total-is table w widths false none arranged found.0 found.1)

-- with full width a line is exactly that wide
pub fills_width : (table : TableValue) (w : ℕ) (widths : List ℕ) → FillsWidth table w widths
fills_width table w widths none dynamic known some arranged =
    let found = dynamic_widths table DynamicFullWidth w widths refl dynamic known arranged in
    let needed = length-map (shown_columns table) (needs_of table) in
    let exact = fills_wider_bound (room_beside_borders table w) (shown_needs table) found.0 (widths_at widths (shown_columns table)) (omega (arith, needed, some)) found.1 in
    omega (arith, exact, line_total-is table w widths true none arranged found.0 found.1, least_total-is table w widths true none arranged found.0 found.1)
