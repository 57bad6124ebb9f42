-- The lines of an output, and the number of their characters.
use Rattle.std.proofs.Common.{◌≡◌, ◌==◌, ◌≤◌, ◌<◌, ◌⊎◌, Contains, inl, inr, max, arith, not, ◌&&◌, ℕ, zero, suc, Bool, true, false, List, [], ◌∷◌, ◌++◌, ◌+◌, Option, Some, append-nil, ap₂, flat_map, length, map, take, unwrap_or, refl, ap, sym, ◌∙◌, subst}
use Rattle.std.specs.List.{All, list_any, range_with_len, slice_index_or}
use Rattle.std.specs.Prelude.{sum_by}
use Rattle.std.proofs.lemmas.Grind.{flat_map-append}
use Rattle.std.proofs.lemmas.List.Folds.{flat_map-map, list_any_none}
use Rattle.std.proofs.lemmas.List.Elements.{All-nil, All-weaker}
use Rattle.std.proofs.lemmas.List.FromFn.{map-range_with_len_more}
use Rattle.comfy_parts.proofs.CallerLemmas.{All-every, All-none}
use Rattle.comfy_parts.specs.CellValue.{RowValue}
use Rattle.comfy_parts.specs.Columns.{style_characters}
use Rattle.comfy_parts.specs.Text.{Text, measure}
use Rattle.comfy_parts.specs.declared.style.table.ContentArrangement.TheVariants.{Dynamic, DynamicFullWidth}
use Rattle.comfy_table.proofs.PartLemmas.{all_rows_are_the_table, part_has_lines_of_table}
use Rattle.comfy_table.specs.Drawing.{drawing, drawing_of_infos, terminated_text_of}
use Rattle.comfy_table.specs.Headline.{LineWidthsSatisfy, IsTableDrawing}
use Rattle.comfy_table.specs.Laws.{HasNoBreak, IsStyleWithout, count, least_total, unstyled}
use Rattle.comfy_table.specs.Parts.{ArrangedValue}
use Rattle.comfy_table.specs.TableLaws.{shown_contents, wider_total}
use Rattle.comfy_table.specs.TableValue.{TableValue, table_width}
use Rattle.comfy_table.specs.Widths.{shown_count}
use Rattle.csv_tables.proofs.BuiltLemmas.{Built, built, plain_table}
use Rattle.csv_tables.proofs.SeparatorLemmas.{condensed-all, separated}
use Rattle.csv_tables.proofs.WholeTableLemmas.{HasRoom, IsDrawn, drawn-is, drawn_table-is, least-fits, unconstrained-drawn, wider-fits}
use Rattle.csv_tables.specs.Cells.{counted_from, row_for}
use Rattle.csv_tables.specs.Drawn.{SelectedValue, RendersRecords, RendersAsTable, RendersContent, condensed_style, drawn_fields, empty_table, is_aligned_in, is_expanded_for, is_table_expanded, output_table, pairs_in, separated_table, some_lines, table_text}
use Rattle.csv_tables.specs.Laws.{HasLines, IsOutputWith}
use Rattle.csv_tables.specs.declared.options.Look.{Look}
use Rattle.csv_tables.specs.declared.options.Layout.{Layout}

abbrev pub Any : RowValue → Type 0
Any row = Unit {0}

-- a table of records, with any rows
pub any_built : (is_expanded is_aligned : Bool) (look : Look) (content : SelectedValue) → Built look Any content (plain_table is_expanded is_aligned look content)
any_built is_expanded is_aligned look content =
    built look Any content is_expanded is_aligned (λ n is. tt) (All-every (λ row. Any (row_for look is_aligned content.is_numbered content.columns row)) (counted_from 1 content.rows) (λ row. tt))
    (All-every (λ fields. All Any (pairs_in look content fields)) content.rows (λ fields. All-every Any (pairs_in look content fields) (λ row. tt)))

-- the drawn table is built in this way
pub any_drawn : (look : Look) (content : SelectedValue) (is_expanded has : Bool) → IsDrawn (separated has look) Any content (separated_table has (output_table is_expanded look content))
any_drawn look content is_expanded has = drawn_table-is look Any content is_expanded has (any_built is_expanded (is_aligned_in look content) (separated has look) content)

-- no line of the table has a line feed, if the style has none
unbroken_style : (has : Bool) (look : Look) → IsStyleWithout 0x0A look.style → IsStyleWithout 0x0A (separated has look).style
unbroken_style true look none = none
unbroken_style false look none =
    list_any_none is_break (style_characters (condensed_style look.style))
    (condensed-all (λ c. is_break c ≡ false) refl look.style (All-none is_break (style_characters look.style) none))
  where
    is_break : Option ℕ → Bool
    is_break c = unwrap_or c 0x20 == 0x0A

pub unbroken_lines : (look : Look) (content : SelectedValue) (is_expanded has : Bool) (lines : List Text) → IsStyleWithout 0x0A look.style
    → IsTableDrawing (separated_table has (output_table is_expanded look content)) lines → All HasNoBreak lines
unbroken_lines look content is_expanded has lines none drawing =
    let looks = drawn-is (separated has look) Any content (separated_table has (output_table is_expanded look content)) (any_drawn look content is_expanded has) in
    drawing.controls.without_breaks
    (record {
      indicator = ap (λ (t : TableValue). list_any (λ b. b == 0x0A) t.indicator) looks;
      characters = subst (IsStyleWithout 0x0A) (sym (ap (λ (t : TableValue). t.style) looks)) (unbroken_style has look none);
    })

-- ---- the lines of an output

-- one place more
pub one_place_more : {A : Type 0} (f : ℕ → List A) (n : ℕ) → flat_map f (range_with_len 0 (n + 1)) ≡ flat_map f (range_with_len 0 n) ++ f n
one_place_more f n =
    sym (flat_map-map f (λ x. x) (range_with_len 0 (n + 1))) ∙ ap (flat_map f) (map-range_with_len_more (λ x. x) 0 n n (omega arith))
    ∙ flat_map-append f (map (λ x. x) (range_with_len 0 n)) (n ∷ []) ∙ ap₂ (λ a b. a ++ b) (flat_map-map f (λ x. x) (range_with_len 0 n)) (append-nil (f n))

-- the lines of the whole table are the lines of its text
pub drawn_lines : (is_expanded : Bool) (content : SelectedValue) (arranged : ArrangedValue) → All HasNoBreak (drawing_of_infos arranged.table arranged.infos)
    → HasLines is_expanded content (drawing_of_infos arranged.table arranged.infos) (table_text is_expanded content arranged)
drawn_lines false content arranged unbroken =
    record {
      joined = ap (λ (t : TableValue). terminated_text_of (drawing_of_infos t arranged.infos)) (all_rows_are_the_table arranged.table (length arranged.table.rows) (omega arith));
      unbroken = unbroken;
    }
drawn_lines true content arranged unbroken = (
  (λ at. some_lines arranged (sum_by (drawn_fields content) (take at content.rows)) (drawn_fields content (slice_index_or content.rows at []))),
  (λ at. of_part (sum_by (drawn_fields content) (take at content.rows)) (drawn_fields content (slice_index_or content.rows at []))),
  unbroken,
  refl,
)
  where
    of_part : (first count : ℕ) → All (Contains (drawing_of_infos arranged.table arranged.infos)) (some_lines arranged first count)
    of_part first zero = All-nil (Contains (drawing_of_infos arranged.table arranged.infos))
    of_part first (suc count) = part_has_lines_of_table arranged.table arranged.infos first (suc count)

-- an output that isn't for Markdown is the text of a table
pub is_table_text : (counted : Option ℕ) (layout : Layout) (records : List (List Text)) (output : Text) (made : RendersRecords counted layout records output) → layout.look.is_markdown ≡ false → RendersAsTable layout.look made.content made.text
is_table_text counted layout records output made none = subst (λ b. RendersContent b layout.look made.content made.text) none made.is_text

-- records for Markdown are never expanded
pub never_expanded : (look : Look) (content : SelectedValue) → look.is_markdown ≡ true → false ≡ is_expanded_for look content
never_expanded look content is = ap (λ b. not b && is_table_expanded look content) (sym is)

module _ (counted : Option ℕ) (layout : Layout) (records : List (List Text)) (output : Text) (made : RendersRecords counted layout records output) (text : RendersAsTable layout.look made.content made.text) (none : layout.look.is_markdown ≡ false) where
  abbrev pub drawn_table : TableValue
  drawn_table = separated_table text.drawn.has_separators (output_table text.is_expanded layout.look made.content)

  abbrev pub drawn : List Text
  drawn = drawing_of_infos drawn_table text.drawn.arranged.infos

  -- it is expanded if its look requires it
  pub expansion : text.is_expanded ≡ is_expanded_for layout.look made.content
  expansion = text.expansion ∙ ap (λ b. not b && is_table_expanded layout.look made.content) (sym none)

  module _ (style : IsStyleWithout 0x0A layout.look.style) where
    pub unbroken : All HasNoBreak drawn
    unbroken = unbroken_lines layout.look made.content text.is_expanded text.drawn.has_separators drawn style text.drawn.is_arranged.headline

    abbrev pub with_lines : IsOutputWith counted layout records output drawn
    with_lines =
        record {
          content = made.content;
          is_content = made.is_content;
          is_expanded = text.is_expanded;
          expansion = expansion;
          text = made.text;
          has_lines = of_table (sym text.drawn.is_arranged.of_table) made.text text.drawn.is;
          joined = made.joined;
        }
      where
        of_table : drawn_table ≡ text.drawn.arranged.table → (t : Text) → t ≡ table_text text.is_expanded made.content text.drawn.arranged
            → HasLines text.is_expanded made.content drawn t
        of_table same t is =
            subst (λ (u : TableValue). HasLines text.is_expanded made.content (drawing_of_infos u text.drawn.arranged.infos) t) (sym same)
            (subst (HasLines text.is_expanded made.content (drawing_of_infos text.drawn.arranged.table text.drawn.arranged.infos)) (sym is)
            (drawn_lines text.is_expanded made.content text.drawn.arranged (subst (λ (u : TableValue). All HasNoBreak (drawing_of_infos u text.drawn.arranged.infos)) same unbroken)))

-- ---- widths

-- a weaker property of each line's width
weaker_counts : (P R : ℕ → Type 0) (table : TableValue) (widths : List ℕ) → ((n : ℕ) → P n → R n) → LineWidthsSatisfy P table widths → LineWidthsSatisfy R table widths
weaker_counts P R table widths gives counts =
    record {
      frame_lines = λ line. gives _ (counts.frame_lines line);
      printable_lines = λ is. All-weaker (λ line. P (count line)) (λ line. R (count line)) (λ line. gives (count line)) (drawing (unstyled table) widths) (counts.printable_lines is);
      straight_lines = λ is. All-weaker (λ line. P (measure line)) (λ line. R (measure line)) (λ line. gives (measure line)) (drawing (unstyled table) widths) (counts.straight_lines is);
    }

-- A line's width is at most the set width, or the sum of borders, paddings and one terminal column for each column if
-- that is greater. If the width is filled, it is exactly that. This holds if a column is shown.
abbrev pub IsKept : ℕ → Bool → TableValue → ℕ → Type 0
IsKept w is_filled table n = 0 < shown_count table → (n ≤ max w (least_total table)) × (is_filled ≡ true → n ≡ max w (least_total table))

module _ (w : ℕ) (look : Look) (content : SelectedValue) (table : TableValue) (known : IsDrawn look Any content table) (lines : List Text) (drawn : IsTableDrawing table lines) (wide : look.width ≡ Some w) where
  looks : table ≡ record (empty_table look) { columns = table.columns; header = table.header; rows = table.rows }
  looks = drawn-is look Any content table known

  width : table_width table ≡ Some w
  width = ap table_width looks ∙ rw wide refl

  abbrev least : ℕ
  least = max w (least_total table)

  keeps : look.fills_width ≡ false → LineWidthsSatisfy (λ n. n ≤ least) table drawn.widths
  keeps kept = by_room (known.room w wide)
    where
      dynamic : table.arrangement ≡ Dynamic
      dynamic = ap (λ (t : TableValue). t.arrangement) looks ∙ rw (wide, kept) refl

      by_room : (known.columns ≡ known.plain.columns) ⊎ HasRoom w table → LineWidthsSatisfy (λ n. n ≤ least) table drawn.widths
      by_room (inl none) = drawn.known_width.keeps_to_width w (unconstrained-drawn look Any content table known none) dynamic width
      by_room (inr room) =
          let found = drawn.known_width.keeps_to_wider_total w dynamic width in
          let fits = wider-fits w table room false found.0 (shown_contents table drawn.widths) found.1 in
          weaker_counts (λ n. n ≤ max w (wider_total table found.0)) (λ n. n ≤ least) table drawn.widths (λ n is. omega (arith, is, fits)) found.2

  fills : look.fills_width ≡ true → 0 < shown_count table → LineWidthsSatisfy (λ n. n ≡ least) table drawn.widths
  fills filled some = by_room (known.room w wide)
    where
      full : table.arrangement ≡ DynamicFullWidth
      full = ap (λ (t : TableValue). t.arrangement) looks ∙ rw (wide, filled) refl

      by_room : (known.columns ≡ known.plain.columns) ⊎ HasRoom w table → LineWidthsSatisfy (λ n. n ≡ least) table drawn.widths
      by_room (inl none) = drawn.known_width.fills_width w (unconstrained-drawn look Any content table known none) full width some
      by_room (inr room) =
          let found = drawn.known_width.fills_wider_total w full width some in
          let fits = wider-fits w table room true found.0 (shown_contents table drawn.widths) found.1 in
          weaker_counts (λ n. n ≡ max w (wider_total table found.0)) (λ n. n ≡ least) table drawn.widths (λ n is. omega (arith, is, fits, least-fits w table room)) found.2

  kept : (is_filled : Bool) → look.fills_width ≡ is_filled → LineWidthsSatisfy (IsKept w is_filled table) table drawn.widths
  kept false is = weaker_counts (λ n. n ≤ least) (IsKept w false table) table drawn.widths (λ n within some. (within, λ filled. absurd (cc filled))) (keeps is)
  kept true is = record { frame_lines = λ line some. exact _ ((fills is some).frame_lines line); printable_lines = λ all k default below some. exact _ ((fills is some).printable_lines all k default below); straight_lines = λ all k default below some. exact _ ((fills is some).straight_lines all k default below) }
    where
      exact : (n : ℕ) → n ≡ least → (n ≤ least) × (true ≡ true → n ≡ least)
      exact n own = (omega (arith, own), λ same. own)

-- a look with lines between rows or without them has the same other settings
pub kept_setting : {A : Type 0} (of : Look → A) (look : Look) → of (separated true look) ≡ of (separated false look) → (has : Bool) (a : A) → of look ≡ a → of (separated has look) ≡ a
kept_setting of look same true a is = is
kept_setting of look same false a is = sym same ∙ is

-- the lines of an output keep to the width too
pub output_keeps_to : (w : ℕ) (counted : Option ℕ) (layout : Layout) (records : List (List Text)) (output : Text) (made : RendersRecords counted layout records output) (text : RendersAsTable layout.look made.content made.text) (none : layout.look.is_markdown ≡ false) → layout.look.width ≡ Some w
    → LineWidthsSatisfy (IsKept w layout.look.fills_width (drawn_table counted layout records output made text none)) (drawn_table counted layout records output made text none) text.drawn.is_arranged.headline.widths
output_keeps_to w counted layout records output made text none wide =
    let look = layout.look in
    let has = text.drawn.has_separators in
    kept w (separated has look) made.content (drawn_table counted layout records output made text none) (any_drawn look made.content text.is_expanded has) (drawn counted layout records output made text none) text.drawn.is_arranged.headline (kept_setting (λ l. l.width) look refl has (Some w) wide) look.fills_width
    (kept_setting (λ l. l.fills_width) look refl has look.fills_width refl)
