-- Tables that are as wide as their texts are straight for texts of every script.
use Rattle.std.proofs.Common.{◌≡◌, ◌≤◌, inl, ℕ, List, [], ◌∷◌, Option, None, map, max, ap, subst, arith, slice_index_or, unwrap_or}
use Rattle.std.specs.List.{All, slice_get}
use Rattle.std.specs.Option.{MatchOption}
use Rattle.std.specs.Prelude.{slice_index}
use Rattle.std.proofs.lemmas.List.Elements.{All-cons, All-nil, All-weaker}
use Rattle.comfy_parts.specs.CellValue.{CellValue, RowValue, ColumnInfo, ColumnValue, column_padding}
use Rattle.comfy_parts.specs.Text.{greatest, measure}
use Rattle.comfy_parts.specs.declared.style.column.ColumnConstraint.{ColumnConstraint}
use Rattle.comfy_parts.proofs.CallerLemmas.{All-at, All-given, All-same_map}
use Rattle.comfy_table.specs.Arrangement.{IsArranged, is_full_width, room_beside_borders, width_kept, widths_at}
use Rattle.comfy_table.specs.Drawing.{infos_of}
use Rattle.comfy_table.specs.Dynamic.{IsDynamicLayout}
use Rattle.comfy_table.specs.Pieces.{shown_infos}
use Rattle.comfy_table.specs.Laws.{NoConstraints}
use Rattle.comfy_table.specs.TableValue.{TableValue, cell_content_width, column_cells, column_content_width, measured_rows, shown_columns, table_width}
use Rattle.comfy_table.specs.Widths.{capped_content, disabled_width, fixed_by_constraint, upper_boundary, shown_count, shown_needs}
use Rattle.comfy_table.specs.Straight.{EachCell, IsShownWhole, TextsFit}
use Rattle.comfy_table.proofs.InfoLemmas.{infos-at}

-- each number is at most the greatest
all-le-greatest : {X : Type 0} (f : X → ℕ) (xs : List X) → All (λ x. f x ≤ greatest (map f xs)) xs
all-le-greatest f [] = All-nil (λ x. f x ≤ greatest [])
all-le-greatest f (x ∷ xs) =
    All-cons (λ y. f y ≤ greatest (map f (x ∷ xs))) x xs (omega arith) (All-weaker (λ y. f y ≤ greatest (map f xs)) (λ y. f y ≤ greatest (map f (x ∷ xs))) (λ y below. omega (arith, below)) xs (all-le-greatest f xs))

-- the width by content of a column without a constraint is its content
unconstrained_width : (table : TableValue) (i : ℕ) (column : ColumnValue) → column.constraint ≡ None → disabled_width table (i, column) ≡ max 1 (column_content_width table i)
unconstrained_width table i column none =
    ap (λ (c : Option ColumnConstraint). unwrap_or (fixed_by_constraint table (shown_count table) (column_content_width table i) (column_padding column) c) (capped_content (column_content_width table i) (column_padding column) (upper_boundary table (shown_count table) c))) none

-- a text line is no wider than its column
abbrev pub LinesFitColumn : RowValue → ColumnInfo → CellValue → Type 0
LinesFitColumn row info cell = All (λ line. measure line ≤ info.content_width) cell.text_lines

-- if a table keeps to no width, its short text lines are no wider than their columns, also in rows that cut them
pub whole_lines_fit : (table : TableValue) (widths : List ℕ) → width_kept table.arrangement (table_width table) ≡ None → NoConstraints table
    → All (λ (row : RowValue). All (λ (cell : CellValue). All (λ line. measure line ≤ 65535) cell.text_lines) row.cells) (measured_rows table) → IsArranged table widths → EachCell LinesFitColumn table widths
whole_lines_fit table widths no_width no_constraints short arranged = each
  where
    shown : widths_at widths (shown_columns table) ≡ map (disabled_width table) (shown_columns table)
    shown =
        subst (λ (o : Option ℕ). MatchOption o (widths_at widths (shown_columns table) ≡ map (disabled_width table) (shown_columns table)) (λ w. IsDynamicLayout (room_beside_borders table w) (shown_needs table) (is_full_width table.arrangement) (widths_at widths (shown_columns table)))) no_width arranged.shown_widths

    -- a column without a constraint, with its width by content
    Known : ℕ × ColumnValue → Type 0
    Known p = (p.1.constraint ≡ None) × (slice_index widths p.0 ≡ disabled_width table p)

    known : All Known (shown_columns table)
    known k default below = (no_constraints k default below, All-same_map (λ (p : ℕ × ColumnValue). slice_index widths p.0) (disabled_width table) (shown_columns table) shown k default below)

    wide : All (λ (q : ℕ × ColumnInfo). column_content_width table q.0 ≤ q.1.content_width) (shown_infos (infos_of table widths))
    wide = infos-at table widths Known (λ (q : ℕ × ColumnInfo). column_content_width table q.0 ≤ q.1.content_width) known
        (λ i column w at both. let own = unconstrained_width table i column both.0 in let same = both.1 in omega (arith, at, same, own))

    lines_fit : (q : ℕ × ColumnInfo) (cell : CellValue) → column_content_width table q.0 ≤ q.1.content_width → cell_content_width cell ≤ column_content_width table q.0
        → All (λ line. measure line ≤ 65535) cell.text_lines → All (λ line. measure line ≤ q.1.content_width) cell.text_lines
    lines_fit q cell room content texts k default below =
        let most = all-le-greatest measure cell.text_lines k default below in
        let own = texts k default below in
        omega (arith, most, own, room, content)

    each : EachCell LinesFitColumn table widths
    each k default under j other below cell found =
        lines_fit (slice_index_or (shown_infos (infos_of table widths)) j other) cell (wide j other below)
        (All-given (λ (c : CellValue). cell_content_width c ≤ column_content_width table (slice_index_or (shown_infos (infos_of table widths)) j other).0) (λ (row : RowValue). slice_get row.cells (slice_index_or (shown_infos (infos_of table widths)) j other).0) (measured_rows table)
        (all-le-greatest cell_content_width (column_cells table (slice_index_or (shown_infos (infos_of table widths)) j other).0)) k default under cell found)
        (All-at (λ (c : CellValue). All (λ line. measure line ≤ 65535) c.text_lines) (slice_index_or (measured_rows table) k default).cells (slice_index_or (shown_infos (infos_of table widths)) j other).0 cell (short k default under) found)

-- so the texts of a table that is shown whole fit
pub whole_table_fits : (table : TableValue) (widths : List ℕ) → IsShownWhole table → IsArranged table widths → EachCell (TextsFit table) table widths
whole_table_fits table widths is arranged k default under j other below cell found =
    record {
      fit = λ i text inside. inl (whole_lines_fit table widths is.no_width is.no_constraints is.short arranged k default under j other below cell found i text inside);
      cut = λ h tall more. absurd (cc (is.uncut k default under, tall));
    }
