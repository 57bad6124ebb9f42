-- The room that the frame takes.
use Rattle.std.proofs.Common.{◌≡◌, ◌<◌, ◌≤◌, ℕ, ◌+◌, ◌-◌, Bool, true, false, cond, not, List, [], ◌∷◌, Option, Some, length, max, refl, sym, subst, ap, arith}
use Rattle.std.specs.List.{All, filter}
use Rattle.std.specs.Prelude.{if◌then◌else◌, sum_by}
use Rattle.std.proofs.lemmas.List.Elements.{All-weaker}
use Rattle.std.proofs.lemmas.List.Sums.{sum_by-cons}
use Rattle.comfy_parts.specs.CellValue.{ColumnValue, column_padding, is_hidden_column}
use Rattle.comfy_parts.specs.Columns.{CharactersFit}
use Rattle.comfy_parts.specs.Text.{Text, measure}
use Rattle.comfy_parts.specs.declared.style.table.ContentArrangement.{ContentArrangement}
use Rattle.comfy_parts.specs.declared.style.table.ContentArrangement.TheVariants.{Dynamic, DynamicFullWidth}
use Rattle.comfy_parts.specs.declared.style.table_style.TableStyle.{TableStyle}
use Rattle.comfy_table.proofs.InfoLemmas.{columns_from}
use Rattle.comfy_table.specs.Frame.{border_count, draws_left_border, draws_right_border, draws_vertical_lines}
use Rattle.comfy_table.specs.Headline.{IsTableDrawing}
use Rattle.comfy_table.specs.Laws.{least_total}
use Rattle.comfy_table.specs.Straight as straight
use Rattle.comfy_table.specs.TableValue.{is_tty, width_or_terminal, TableValue}
use Rattle.comfy_table.specs.Widths.{shown_count}
use Rattle.promises.proofs.FittingLemmas.{narrow, plain_stay, unconstrained}
use Rattle.promises.specs.Tables.{EachText, HasPlainFrame, IsPlain}
use Rattle.promises.specs.Widths.{IsFree, frame_room}

-- the borders are at most two at the sides, and one between each two columns
pub borders : (style : TableStyle) (n : ℕ) → border_count style n ≤ 2 + (n - 1)
borders style n = by_tests (draws_left_border style) (draws_right_border style) (draws_vertical_lines style)
  where
    by_tests : (a b c : Bool) → (if a then 1 else 0) + (if b then 1 else 0) + (if c then n - 1 else 0) ≤ 2 + (n - 1)
    by_tests true true true = omega arith
    by_tests true true false = omega arith
    by_tests true false true = omega arith
    by_tests true false false = omega arith
    by_tests false true true = omega arith
    by_tests false true false = omega arith
    by_tests false false true = omega arith
    by_tests false false false = omega arith

-- the room of a shown column: its paddings, one terminal column for texts, and a border
abbrev part : ColumnValue → ℕ
part column = column.padding.0 + 1 + column.padding.1 + 1

-- the room of the shown columns from a position on, and their number
counted : (n : ℕ) (columns : List ColumnValue)
    → (sum_by (λ (p : ℕ × ColumnValue). column_padding p.1) (columns_from n columns) + (length (columns_from n columns) + length (columns_from n columns)) ≡ sum_by part (filter (λ (c : ColumnValue). not (is_hidden_column c)) columns))
    × (length (columns_from n columns) ≡ length (filter (λ (c : ColumnValue). not (is_hidden_column c)) columns))
counted n [] = (refl, refl)
counted n (column ∷ columns) = by_test (is_hidden_column column) (counted (n + 1) columns)
  where
    later : List (ℕ × ColumnValue)
    later = columns_from (n + 1) columns

    others : List ColumnValue
    others = filter (λ (c : ColumnValue). not (is_hidden_column c)) columns

    by_test : (b : Bool) → (sum_by (λ (p : ℕ × ColumnValue). column_padding p.1) later + (length later + length later) ≡ sum_by part others) × (length later ≡ length others)
        → (sum_by (λ (p : ℕ × ColumnValue). column_padding p.1) (cond (not b) ((n, column) ∷ later) later) + (length (cond (not b) ((n, column) ∷ later) later) + length (cond (not b) ((n, column) ∷ later) later)) ≡ sum_by part (cond (not b) (column ∷ others) others))
        × (length (cond (not b) ((n, column) ∷ later) later) ≡ length (cond (not b) (column ∷ others) others))
    by_test true rest = rest
    by_test false rest =
        (omega (arith, rest.0, sum_by-cons (λ (p : ℕ × ColumnValue). column_padding p.1) (n, column) later, sum_by-cons part column others), omega (arith, rest.1))

-- this room is enough for borders, paddings and one terminal column for each shown column
least : (table : TableValue) → IsFree table → least_total table ≤ frame_room table
least table free =
    let own = counted 0 table.columns in
    let some : 0 < shown_count table = omega (arith, own.1, free.0) in
    omega (arith, own.0, borders table.style (shown_count table))

-- a plain frame stays plain with another width and arrangement
same_frame : (table : TableValue) (width : Option ℕ) (arrangement : ContentArrangement) → HasPlainFrame table → HasPlainFrame (record table { set_width = width; arrangement = arrangement })
same_frame table width arrangement is =
    record { style = is.style; delimiter = is.delimiter; column_delimiters = is.column_delimiters; cell_delimiters = is.cell_delimiters; indicator = is.indicator; paddings = is.paddings }

module _ (old new : TableValue) (w : ℕ) (lines : List Text) where
  -- under `Dynamic` no line is wider than the width, or the frame if that is wider
  pub within : new ≡ record old { set_width = Some w; arrangement = Dynamic } → IsTableDrawing new lines → IsPlain old → HasPlainFrame old → IsFree old → EachText (CharactersFit 1) old
      → All (λ line. measure line ≤ max w (frame_room old)) lines
  within set =
      rw set (λ drawn plain frame free each.
      let table : TableValue = record old { set_width = Some w; arrangement = Dynamic } in
      let straight = narrow table (same_frame old (Some w) Dynamic frame)
      (plain_stay table plain.no_sequences) lines drawn each in
      let known : All (λ line. measure line ≤ max w (least_total table)) lines =
      subst (All (λ line. measure line ≤ max w (least_total table))) (sym (drawn.edges.unstyled_lines plain.no_styles plain.no_sequences)) ((drawn.known_width.keeps_to_width w (unconstrained table free.1) refl refl).straight_lines straight) in
      let enough : least_total table ≤ frame_room table = least table free in
      All-weaker (λ line. measure line ≤ max w (least_total table)) (λ line. measure line ≤ max w (frame_room old)) (λ line is. omega (arith, is, enough)) lines known)

  -- under `DynamicFullWidth` each line is as wide as the width, if that has room for the frame
  pub over : new ≡ record old { set_width = Some w; arrangement = DynamicFullWidth } → IsTableDrawing new lines → IsPlain old → HasPlainFrame old → IsFree old → EachText (CharactersFit 1) old
      → frame_room old ≤ w → All (λ line. measure line ≡ w) lines
  over set =
      rw set (λ drawn plain frame free each room.
      let table : TableValue = record old { set_width = Some w; arrangement = DynamicFullWidth } in
      let straight = narrow table (same_frame old (Some w) DynamicFullWidth frame)
      (plain_stay table plain.no_sequences) lines drawn each in
      let some : 0 < shown_count table = omega (arith, (counted 0 old.columns).1, free.0) in
      let known : All (λ line. measure line ≡ max w (least_total table)) lines =
      subst (All (λ line. measure line ≡ max w (least_total table))) (sym (drawn.edges.unstyled_lines plain.no_styles plain.no_sequences)) ((drawn.known_width.fills_width w (unconstrained table free.1) refl refl some).straight_lines straight) in
      let enough : least_total table ≤ frame_room table = least table free in
      All-weaker (λ line. measure line ≡ max w (least_total table)) (λ line. measure line ≡ w) (λ line is. omega (arith, is, enough, room)) lines known)

-- under `Dynamic` no line of a straight table is wider than the width, or the frame if that is wider
pub fitting_within : (table : TableValue) (w : ℕ) (lines : List Text) (drawn : IsTableDrawing table lines) → IsPlain table → IsFree table → straight.IsStraightTable table drawn.widths
    → table.arrangement ≡ Dynamic → table.set_width ≡ Some w → All (λ line. measure line ≤ max w (frame_room table)) lines
fitting_within table w lines drawn plain free is dynamic width =
    let known : All (λ line. measure line ≤ max w (least_total table)) lines =
    subst (All (λ line. measure line ≤ max w (least_total table))) (sym (drawn.edges.unstyled_lines plain.no_styles plain.no_sequences))
    ((drawn.known_width.keeps_to_width w (unconstrained table free.1) dynamic (ap (λ (o : Option ℕ). width_or_terminal o (is_tty table) table.terminal.width) width)).straight_lines is) in
    let enough : least_total table ≤ frame_room table = least table free in
    All-weaker (λ line. measure line ≤ max w (least_total table)) (λ line. measure line ≤ max w (frame_room table)) (λ line own. omega (arith, own, enough)) lines known
