-- The drawing of a layout keeps to its width.
use Rattle.std.proofs.Common.{◌⊎◌, inl, inr, ◌≡◌, ◌≤◌, ◌<◌, ◌==◌, ◌||◌, ℕ, zero, suc, Bool, true, false, not, List, [], ◌∷◌, ◌++◌, Option, Some, flat_map, length, max, nat_lt, unwrap_or, refl, sym, ap, ◌∙◌, subst, arith}
use Rattle.comfy_parts.proofs.CallerLemmas.{All-of_map}
use Rattle.comfy_parts.specs.CellValue.{RowValue}
use Rattle.comfy_parts.specs.Text.{Text, measure}
use Rattle.comfy_parts.specs.VisibleText.{visible_text}
use Rattle.comfy_table.specs.Laws.{HasNoBreak, HasNoControl, least_total}
use Rattle.comfy_table.specs.Parts.{ArrangedValue}
use Rattle.comfy_table.specs.TableValue.{TableValue}
use Rattle.comfy_table.specs.Widths.{shown_count}
use Rattle.csv_promises.proofs.DrawnColumnLemmas.{AreBelow, drawn_count, no_rows-is, reaches_last, some_drawn}
use Rattle.csv_promises.proofs.DrawnLemmas.{IsPlainOutput, own_fit, plain}
use Rattle.csv_promises.proofs.FrameLemmas.{column_is_shown, frame_has_room, width_has_room, places_of}
use Rattle.csv_promises.proofs.LineLemmas.{output_lines, shown_line}
use Rattle.csv_promises.specs.Counted.{EachLineFor}
use Rattle.csv_promises.specs.Straight.{EachField}
use Rattle.csv_promises.specs.Width.{KeepsTo, columns_by, columns_in, frame_room, framed_columns_in}
use Rattle.csv_tables.proofs.LineLemmas.{IsKept, drawn, drawn_table, expansion, is_table_text, output_keeps_to, with_lines}
use Rattle.csv_tables.proofs.StraightLemmas.{clear, fitting_lines, narrow_lines}
use Rattle.csv_tables.specs.Cells.{held, pair_for}
use Rattle.csv_tables.specs.Columns.{name_at}
use Rattle.csv_tables.specs.Drawn.{SelectedValue, RendersAsTable, RendersRecords, drawn_fields, drawn_rows, names_or_none, has_room_for, is_expanded_in, output_table, pairs_in, separated_table, some_lines, table_text, is_aligned_in}
use Rattle.csv_tables.specs.Fields.{field_or_blank}
use Rattle.csv_tables.specs.Laws.{ArePlainLines, CharactersFitEachWidth, HasLines, seen_lines}
use Rattle.csv_tables.specs.declared.options.ColumnPlan.{ColumnPlan}
use Rattle.csv_tables.specs.declared.options.Expansion.TheVariants.{Always, Auto, Never}
use Rattle.csv_tables.specs.declared.options.Expansion.{Expansion}
use Rattle.csv_tables.specs.declared.options.Layout.{Layout}
use Rattle.csv_tables.specs.declared.options.Look.{Look}
use Rattle.promises.specs.Tables.{HasCharactersWithin}
use Rattle.std.proofs.lemmas.List.Elements.{All-nil}
use Rattle.std.proofs.lemmas.List.{length-map}
use Rattle.std.specs.List.{All, slice_index_or}
use Rattle.std.specs.Prelude.{Contains, if◌then◌else◌, sum_by, take}

-- ---- expanded records without a field

-- if two joined lists are empty, each is
both_empty : {A : Type 0} (xs ys : List A) → xs ++ ys ≡ [] → (xs ≡ []) × (ys ≡ [])
both_empty [] ys none = (refl, none)
both_empty (x ∷ xs) ys none = absurd (cc none)

-- if no record has a field of the columns, none has lines
module _ (look : Look) (content : SelectedValue) (arranged : ArrangedValue) (none : flat_map (pairs_in look content) content.rows ≡ []) where
  no_fields : (rows : List (List Text)) → flat_map (pairs_in look content) rows ≡ [] → (at : ℕ) → drawn_fields content (slice_index_or rows at []) ≡ 0
  no_fields [] none at = ap length (no_field content.columns)
    where
      no_field : (columns : List ColumnPlan) → held [] columns ≡ []
      no_field [] = refl
      no_field (column ∷ columns) = let past : nat_lt column.position 0 ≡ false = grind arith in rw past (no_field columns)
  no_fields (fields ∷ rows) none zero =
      let own = ap length (both_empty (pairs_in look content fields) (flat_map (pairs_in look content) rows) none).0 in
      omega (arith, own, length-map (held fields content.columns) (λ (column : ColumnPlan). pair_for look (name_at (unwrap_or content.names []) column.position) (field_or_blank fields column.position)))
  no_fields (fields ∷ rows) none (suc at) = no_fields rows (both_empty (pairs_in look content fields) (flat_map (pairs_in look content) rows) none).1 at

  no_part : (at : ℕ) → some_lines arranged (sum_by (drawn_fields content) (take at content.rows)) (drawn_fields content (slice_index_or content.rows at [])) ≡ []
  no_part at = ap (some_lines arranged (sum_by (drawn_fields content) (take at content.rows))) (no_fields content.rows none at)

  pub without_lines : HasLines true content [] (table_text true content arranged)
  without_lines = (
    (λ at. some_lines arranged (sum_by (drawn_fields content) (take at content.rows)) (drawn_fields content (slice_index_or content.rows at []))),
    (λ at. subst (All (Contains [])) (sym (no_part at)) (All-nil (Contains []))),
    All-nil HasNoBreak,
    refl,
  )

-- ---- what a layout draws

module _ (w : ℕ) (known : Option ℕ) (layout : Layout) (records : List (List Text)) (output : Text) (wide : layout.look.width ≡ Some w) (is : IsPlainOutput known layout records output) (fits : EachField (HasCharactersWithin 1) records ⊎ CharactersFitEachWidth known layout records)
    (some : 1 ≤ length layout.columns.drawn) (below : AreBelow (names_or_none layout.selection records) (drawn_rows layout.selection records) layout.columns.drawn)
    (MayCount : Option ℕ → Type 0) (whole : List (List Text)) (is_count : MayCount known) (same : drawn_rows layout.selection records ≡ drawn_rows layout.selection whole) where
  abbrev look : Look
  look = layout.look

  abbrev table : look.is_markdown ≡ false
  table = is.kind

  abbrev own : RendersRecords known layout records output
  own = is.made

  abbrev plain_lines : ArePlainLines true look records
  plain_lines = plain known layout records output is

  abbrev content : SelectedValue
  content = own.content

  abbrev text : RendersAsTable look content own.text
  text = is_table_text known layout records output own table

  abbrev has : Bool
  has = text.drawn.has_separators

  abbrev t : TableValue
  t = drawn_table known layout records output own text table

  abbrev lines : List Text
  lines = drawn known layout records output own text table

  expanded : text.is_expanded ≡ is_expanded_in look.expansion ((length content.rows == 0) || has_room_for look content (is_aligned_in look content))
  expanded = text.expansion

  -- the table needs at most the width, or a frame of its columns
  abbrev all : ℕ
  all = columns_in layout

  abbrev frame : ℕ
  frame = frame_room (framed_columns_in layout records)

  counted_columns : places_of content ≡ all
  counted_columns = drawn_count layout records known content own.is_content

  some_columns : 1 ≤ length content.columns
  some_columns = some_drawn layout records known content own.is_content some

  framed : (e : Bool) (n : ℕ) → 1 ≤ n → (if e then 2 else places_of content) ≤ n → least_total (separated_table has (output_table e look content)) ≤ max w (frame_room n)
  framed e n some few = let room = frame_has_room e has look content n some few in omega (arith, room)

  by_look : (x : Expansion) (rows has_room e : Bool) → e ≡ is_expanded_in x (rows || has_room) → has_room_for look content (is_aligned_in look content) ≡ has_room → least_total (separated_table has (output_table e look content)) ≤ max w (frame_room (columns_by x (not rows) all))
  by_look Always rows has_room true is fits = framed true 2 (omega arith) (omega arith)
  by_look Always rows has_room false is fits = absurd (cc is)
  by_look Never rows has_room true is fits = absurd (cc is)
  by_look Never rows has_room false is fits = framed false all (omega (arith, counted_columns, some_columns)) (omega (arith, counted_columns))
  by_look Auto true has_room true is fits = absurd (cc is)
  by_look Auto true has_room false is fits = framed false all (omega (arith, counted_columns, some_columns)) (omega (arith, counted_columns))
  by_look Auto false has_room true is fits = framed true 2 (omega arith) (omega arith)
  by_look Auto false true false is fits = let room = width_has_room look content has w wide fits in omega (arith, room)
  by_look Auto false false false is fits = absurd (cc is)

  least_fits : least_total t ≤ max w frame
  least_fits =
      subst (λ (b : Bool). least_total t ≤ max w (frame_room (columns_by look.expansion (not b) all))) (no_rows-is layout records known content own.is_content)
      (by_look look.expansion (length content.rows == 0) (has_room_for look content (is_aligned_in look content)) text.is_expanded expanded refl)

  abbrev IsGood : Text → Type 0
  IsGood line = KeepsTo w frame look.fills_width line

  abbrev Good : Type 0
  Good = EachLineFor IsGood MayCount layout whole output

  -- all lines keep to the width if a column is shown
  kept : 0 < shown_count t → Good
  kept some = output_lines IsGood layout MayCount whole records known output lines table is_count same (with_lines known layout records output own text table plain_lines.unbroken) each
    where
      by_room : EachField (HasCharactersWithin 1) records ⊎ CharactersFitEachWidth known layout records → All (λ (line : Text). IsKept w look.fills_width t (measure line)) (seen_lines true lines)
      by_room (inl narrow) = narrow_lines true known layout records output table is.one_column plain_lines own (own_fit known layout records output is narrow) (IsKept w look.fills_width t) (output_keeps_to w known layout records output own text table wide)
      by_room (inr fit) = fitting_lines true known layout records output table is.one_column plain_lines own fit (IsKept w look.fills_width t) (output_keeps_to w known layout records output own text table wide)

      counted : All (λ (line : Text). IsKept w look.fills_width t (measure (visible_text line))) lines
      counted =
          All-of_map (λ (line : Text). IsKept w look.fills_width t (measure line)) visible_text lines
          (by_room fits)

      clear_lines : All (λ (line : Text). HasNoControl (visible_text line)) lines
      clear_lines = All-of_map HasNoControl visible_text lines (clear true known layout records output table is.one_column plain_lines own refl)

      each : All IsGood lines
      each k default under =
          let line = slice_index_or lines k default in
          let line_is = counted k default under some in
          let exact = line_is.1 in
          record { columns = measure (visible_text line); shows = shown_line (measure (visible_text line)) line (clear_lines k default under) refl; within = omega (arith, line_is.0, least_fits); exact = λ filled room. let is = exact filled in omega (arith, is, room, least_fits) }

  -- without a column there are no lines
  empty : text.is_expanded ≡ true → flat_map (pairs_in look content) content.rows ≡ [] → Good
  empty is none =
      output_lines IsGood layout MayCount whole records known output [] table is_count same
      (record {
        content = content;
        is_content = own.is_content;
        is_expanded = true;
        expansion = sym is ∙ expansion known layout records output own text table;
        text = own.text;
        has_lines = subst (HasLines true content []) (sym (text.drawn.is ∙ ap (λ (e : Bool). table_text e content text.drawn.arranged) is)) (without_lines look content text.drawn.arranged none);
        joined = own.joined;
      }) (All-nil IsGood)

  pub keep : Good
  keep = by_pairs text.is_expanded refl (flat_map (pairs_in look content) content.rows) refl
    where
      shown : (text.is_expanded ≡ true → ¬ (flat_map (pairs_in look content) content.rows ≡ [])) → Good
      shown pairs = kept (column_is_shown text.is_expanded has look content some_columns (reaches_last layout records known content own.is_content some below) pairs)

      by_pairs : (e : Bool) → text.is_expanded ≡ e → (pairs : List RowValue) → flat_map (pairs_in look content) content.rows ≡ pairs → Good
      by_pairs true is [] none = empty is none
      by_pairs true is (row ∷ pairs) some = shown (λ same none. absurd (cc (some, none)))
      by_pairs false is pairs any = shown (λ same. absurd (cc (is, same)))
