-- The drawing of rows is straight, and keeps to a width.
use Rattle.std.proofs.Common.{◌⊎◌, ◌≡◌, ◌≤◌, ◌<◌, ◌==◌, ◌&&◌, ◌||◌, ℕ, zero, suc, Bool, true, false, not, List, [], ◌∷◌, ◌++◌, Option, Some, None, inl, inr, length, map, option_map, unwrap_or, refl, sym, ap, ap₂, ◌∙◌, subst, arith, drop, eqb-true, take, slice_get}
use Rattle.std.specs.List.{All, list_all, list_any, range_with_len}
use Rattle.std.specs.Prelude.{if◌then◌else◌}
use Rattle.std.specs.Str.{IsUtf8}
use Rattle.std.proofs.lemmas.Bool.{and_parts, not-true}
use Rattle.std.proofs.lemmas.List.Elements.{All-cons, All-drop, All-filter, All-head, All-nil, All-tail, All-take}
use Rattle.std.proofs.lemmas.List.FromFn.{get_or-range_with_len, length-range_with_len}
use Rattle.std.proofs.lemmas.Option.{same_Some}
use Rattle.comfy_parts.proofs.CallerLemmas.{one_column_characters}
use Rattle.comfy_parts.specs.Columns.{IsOneColumnStyle, has_frame_characters, style_characters}
use Rattle.comfy_parts.specs.Presets.{named_presets, preset_at}
use Rattle.comfy_parts.specs.Text.{Text}
use Rattle.comfy_parts.specs.declared.style.table_style.TableStyle.{TableStyle}
use Rattle.comfy_table.proofs.PartLemmas.{all_rows_are_the_table}
use Rattle.comfy_table.specs.Drawing.{drawing_of_infos, terminated_text_of}
use Rattle.comfy_table.specs.Headline.{IsTableDrawing}
use Rattle.comfy_table.specs.TableValue.{TableValue}
use Rattle.csv.specs.Records.{AllText}
use Rattle.csv_command.specs.Styles.{compact_style}
use Rattle.csv_promises.proofs.DrawnColumnLemmas.{AreBelow}
use Rattle.csv_promises.proofs.DrawnLemmas.{IsPlainOutput, fitting_law, narrow_law, whole_law}
use Rattle.csv_promises.proofs.DrawnWidthLemmas.{keep}
use Rattle.csv_promises.proofs.HarmlessLemmas.{harmless_output, nothing_is_harmless}
use Rattle.csv_promises.proofs.LineLemmas.{no_records, nothing_drawn}
use Rattle.csv_promises.proofs.OutputFieldLemmas.{all_shown, none_of_all}
use Rattle.csv_promises.proofs.WideTextLemmas.{two_fit}
use Rattle.csv_promises.specs.Fields.{ShowsAllFields}
use Rattle.csv_promises.specs.Harmless.{IsHarmlessFor}
use Rattle.csv_promises.specs.Straight.{EachField}
use Rattle.csv_records.specs.Cleaning.{is_replaced}
use Rattle.csv_records.specs.CutLists.{cut_by}
use Rattle.csv_tables.proofs.OutputControlLemmas.{unbroken_without}
use Rattle.csv_tables.proofs.StyledLemmas.{without_settings_any}
use Rattle.csv_tables.specs.Columns.{ColumnsValue, count_of}
use Rattle.csv_tables.specs.Controls.{IsHarmlessStyle}
use Rattle.csv_tables.specs.Drawn.{RendersAnyRecords, RendersRecords, SelectedValue, column_count, count_below, drawn_rows, is_expanded_in, names_or_none, note_for, selected_of}
use Rattle.csv_tables.specs.Laws.{CharactersFitEachWidth}
use Rattle.csv_tables.specs.Settings.{RowSettingsValue, SettingsValue, no_settings}
use Rattle.csv_tables.specs.Styled.{RendersAnyStyledRecords, RendersStyled, RendersStyledContent, RendersStyledTable, with_centers}
use Rattle.csv_tables.specs.declared.settings.ColumnSettings.{ColumnSettings}
use Rattle.csv_tables.specs.declared.options.Expansion.{Expansion}
use Rattle.csv_tables.specs.declared.options.Expansion.TheVariants.{Never}
use Rattle.csv_tables.specs.declared.options.Layout.{Layout}
use Rattle.csv_tables.specs.declared.options.Look.{Look}
use Rattle.csv_tables.specs.declared.options.RowSeparators.{RowSeparators}
use Rattle.csv_tables.specs.declared.selection.Selection.{Selection}
use Rattle.promises.specs.Promises.{KeepsPromises}
use Rattle.promises.specs.Shown.{ShowsColumns}
use Rattle.promises.specs.Tables.{HasCharactersWithin}
use Rattle.comfy_c.specs.Frames.{own_number, own_style, style_at, style_for}
use Rattle.comfy_c.specs.PromisedRows.{AreStraightLines, EachRowsLine, FitTheWidth, HasHarmlessFrame, HasOneColumnFrame, HaveRoom, IsCountOf, IsPlainLook, KeepRowPromises, KeepTablePromises, KeepToWidth, ShowAllTexts, ShowRows, table_by}
use Rattle.comfy_c.specs.Calls.{is_set}
use Rattle.comfy_c.specs.Looks.{rows_by, table_settings, unset_row}
use Rattle.comfy_c.specs.RowCalls.{IsRowsDrawing, can_have, expansions, has_sides_alone, layout_by, layout_for, look_by, look_for, selection_for, separators}
use Rattle.comfy_c.specs.RowColumns.{are_there, are_unset, can_be_drawn, column_settings, columns_by, columns_for, count_in_all, side_at}
use Rattle.comfy_c.specs.Texts.{rows_of}
use Rattle.comfy_c.specs.declared.cells_numbers.LookNumbers.{LookNumbers}
use Rattle.comfy_c.specs.declared.rows_columns.RowsColumn.{RowsColumn}
use Rattle.comfy_c.specs.declared.rows_settings.RowsSettings.{RowsSettings}

-- ---- styles

module _ (p : TableStyle → Bool) where
  -- the style at a position passes if each style of the table does
  style_passes : (table : List (Text × TableStyle)) → list_all (λ (entry : Text × TableStyle). p entry.1) table ≡ true → (i : ℕ) (style : TableStyle) → option_map (λ (entry : Text × TableStyle). entry.1) (slice_get table i) ≡ Some style → p style ≡ true
  style_passes [] all i style is = absurd (cc is)
  style_passes (entry ∷ table) all zero style is =
      let each = and_parts (p entry.1) (list_all (λ (e : Text × TableStyle). p e.1) table) all in
      subst (λ (s : TableStyle). p s ≡ true) (same_Some entry.1 style is) each.0
  style_passes (entry ∷ table) all (suc i) style is =
      let each = and_parts (p entry.1) (list_all (λ (e : Text × TableStyle). p e.1) table) all in
      style_passes table each.1 i style is

  chosen_passes : p compact_style ≡ true → list_all (λ (entry : Text × TableStyle). p entry.1) named_presets ≡ true → (position : ℕ) (style : TableStyle) → style_at position ≡ Some style → p style ≡ true
  chosen_passes own all position style is = by_position (position == 13) is
    where
      by_position : (b : Bool) → (if b then Some compact_style else preset_at position) ≡ Some style → p style ≡ true
      by_position true found = subst (λ (s : TableStyle). p s ≡ true) (same_Some compact_style style found) own
      by_position false found = style_passes named_presets all position style found

preset_is_one_column : (position : ℕ) (style : TableStyle) → style_at position ≡ Some style → IsOneColumnStyle style
preset_is_one_column position style is = one_column_characters style (chosen_passes has_frame_characters refl refl position style is)

preset_is_harmless : (position : ℕ) (style : TableStyle) → style_at position ≡ Some style → IsHarmlessStyle style
preset_is_harmless position style is = not-true _ (chosen_passes (λ s. not (list_any (λ (c : Option ℕ). is_replaced (unwrap_or c 0x20)) (style_characters s))) refl refl position style is)

-- a property of each preset, and of the caller's own frame, is one of the style that is used
module _ (settings : RowsSettings) (P : TableStyle → Type 0) (of_preset : (position : ℕ) (style : TableStyle) → style_at position ≡ Some style → P style) (of_own : settings.style ≡ own_number → P (own_style settings.frame)) where
  of_chosen : (style : TableStyle) → style_for settings.style settings.frame ≡ Some style → P style
  of_chosen style is = by_number (settings.style == own_number) refl is
    where
      by_number : (b : Bool) → (settings.style == own_number) ≡ b → (if b then Some (own_style settings.frame) else style_at settings.style) ≡ Some style → P style
      by_number true own found = subst P (same_Some (own_style settings.frame) style found) (of_own (eqb-true settings.style own_number own))
      by_number false other found = of_preset settings.style style found

-- ---- layouts

look_style : (settings : RowsSettings) (style : Option TableStyle) (lines : Option RowSeparators) (expansion : Option Expansion) (look : Look) → look_by settings style lines expansion ≡ Some look → style ≡ Some look.style
look_style settings (Some style) (Some lines) (Some expansion) look is = ap (λ (l : Look). Some l.style) (same_Some _ look is)
look_style settings (Some style) (Some lines) None look is = absurd (cc is)
look_style settings (Some style) None expansion look is = absurd (cc is)
look_style settings None lines expansion look is = absurd (cc is)

-- the parts of a layout that come from settings and columns
record IsChosen (settings : RowsSettings) (chosen : List RowsColumn) (rows : List (List Text)) (layout : Layout) : Type 0 where
  pub look : look_for settings ≡ Some layout.look
  pub columns : columns_for layout.selection chosen rows ≡ Some layout.columns

is_chosen : (settings : RowsSettings) (looks : List LookNumbers) (heights : List ℕ) (chosen : List RowsColumn) (rows : List (List Text)) (layout : Layout) → layout_for settings looks heights chosen rows ≡ Some layout → IsChosen settings chosen rows layout
is_chosen settings looks heights chosen rows layout is = by_test (can_have settings looks heights chosen) is
  where
    selection : Selection
    selection = selection_for settings

    by_parts : (look : Option Look) (columns : Option ColumnsValue) → look_for settings ≡ look → columns_for selection chosen rows ≡ columns → layout_by selection look columns ≡ Some layout → IsChosen settings chosen rows layout
    by_parts (Some look) (Some columns) look_is columns_is found =
        let same = same_Some _ layout found in
        subst (IsChosen settings chosen rows) same (record { look = look_is; columns = columns_is })
    by_parts (Some look) None look_is columns_is found = absurd (cc found)
    by_parts None columns look_is columns_is found = absurd (cc found)

    by_test : (b : Bool) → (if b then layout_by selection (look_for settings) (columns_for selection chosen rows) else None) ≡ Some layout → IsChosen settings chosen rows layout
    by_test true found = by_parts (look_for settings) (columns_for selection chosen rows) refl refl found
    by_test false found = absurd (cc found)

-- ---- columns

module _ (selection : Selection) (chosen : List RowsColumn) (rows : List (List Text)) (columns : ColumnsValue) (is : columns_for selection chosen rows ≡ Some columns) where
  found : (can_be_drawn selection chosen rows ≡ true) × (columns_by chosen (column_count selection rows) ≡ columns)
  found = by_test (can_be_drawn selection chosen rows) refl is
    where
      by_test : (b : Bool) → can_be_drawn selection chosen rows ≡ b → (if b then Some (columns_by chosen (column_count selection rows)) else None) ≡ Some columns → (can_be_drawn selection chosen rows ≡ true) × (columns_by chosen (column_count selection rows) ≡ columns)
      by_test true test own = (test, same_Some _ columns own)
      by_test false test own = absurd (cc own)

  -- if there are rows, a column is left
  some_left : (length rows == 0) ≡ false → 1 ≤ length columns.drawn
  some_left some =
      let test = ap (λ (b : Bool). b || (are_there chosen (count_in_all selection rows) && not (length (columns_by chosen (column_count selection rows)).drawn == 0))) (sym some) ∙ found.0 in
      let left = not-true _ (and_parts (are_there chosen (count_in_all selection rows)) (not (length (columns_by chosen (column_count selection rows)).drawn == 0)) test).1 in
      let own = ap (λ (c : ColumnsValue). length c.drawn) found.1 in
      grind (arith, left, own)

  in_range : All (λ (k : ℕ). k < column_count selection rows) (range_with_len 0 (column_count selection rows))
  in_range k default below = omega (arith, below, length-range_with_len 0 (column_count selection rows), get_or-range_with_len 0 (column_count selection rows) k default)

  are_below : AreBelow (names_or_none selection rows) (drawn_rows selection rows) columns.drawn
  are_below unnamed =
      subst (λ (names : List Text). All (λ (k : ℕ). k < count_of names (drawn_rows selection rows)) columns.drawn) unnamed
      (subst (λ (c : ColumnsValue). All (λ (k : ℕ). k < column_count selection rows) c.drawn) found.1
      (All-filter (λ (position : ℕ). not (side_at chosen position == 3)) (λ (k : ℕ). k < column_count selection rows) (range_with_len 0 (column_count selection rows)) in_range))

-- ---- texts

all_text : (fields : List Text) → All IsUtf8 fields → AllText fields
unfolding AllText
all_text [] all = tt
all_text (field ∷ fields) all = (All-head IsUtf8 field fields all, all_text fields (All-tail IsUtf8 field fields all))

rows_are_text : (counts : List ℕ) (fields : List Text) → All IsUtf8 fields → All AllText (cut_by counts fields)
rows_are_text [] fields all = All-nil AllText
rows_are_text (n ∷ counts) fields all =
    All-cons AllText (take n fields) (cut_by counts (drop n fields)) (all_text (take n fields) (All-take IsUtf8 n fields all)) (rows_are_text counts (drop n fields) (All-drop IsUtf8 n fields all))

-- ---- rows

not_empty : (n : ℕ) → (suc n == 0) ≡ false
not_empty n = grind arith

module _ (settings : RowsSettings) (chosen : List RowsColumn) (layout : Layout) (output : Text) where
  -- the drawing of some rows
  module _ (rows : List (List Text)) (own : IsChosen settings chosen rows layout) (texts : All AllText rows) (some : (length rows == 0) ≡ false) (made : RendersRecords (Some (count_below layout.selection rows)) layout rows output) where
    abbrev known : Option ℕ
    known = Some (count_below layout.selection rows)

    abbrev MayCount : Option ℕ → Type 0
    MayCount = IsCountOf layout rows

    style : style_for settings.style settings.frame ≡ Some layout.look.style
    style = look_style settings (style_for settings.style settings.frame) (slice_get separators settings.row_lines) (slice_get expansions settings.expansion) layout.look own.look

    clear : HasHarmlessFrame settings → IsHarmlessStyle layout.look.style
    clear harmless = of_chosen settings IsHarmlessStyle preset_is_harmless harmless layout.look.style style

    plain : HasHarmlessFrame settings → HasOneColumnFrame settings → IsPlainLook layout.look → IsPlainOutput known layout rows output
    plain harmless narrow is =
        record {
          kind = is.unmarked;
          unkept = is.unkept;
          one_column = of_chosen settings IsOneColumnStyle preset_is_one_column narrow layout.look.style style;
          clear = clear harmless;
          text = texts;
          made = made;
        }

    some_shown : HasHarmlessFrame settings → ShowAllTexts layout rows output
    some_shown harmless is uncut =
        all_shown layout
        (record { unkept = is.unkept; table = is.unmarked; uncut = uncut; style = unbroken_without layout.look.style (clear harmless) })
        known rows texts output made (some_left layout.selection chosen rows layout.columns own.columns some) (are_below layout.selection chosen rows layout.columns own.columns) MayCount refl

    some_harmless : HasHarmlessFrame settings → IsHarmlessFor layout.look output
    some_harmless harmless = harmless_output known layout rows output (clear harmless) texts made

    some_straight : HasHarmlessFrame settings → HasOneColumnFrame settings → AreStraightLines layout rows output
    some_straight harmless narrow is room = by_room room
      where
        own_output : IsPlainOutput known layout rows output
        own_output = plain harmless narrow is

        by_room : HaveRoom layout rows → (columns : ℕ) × EachRowsLine (ShowsColumns columns) layout rows output
        by_room (inl (inl (inl each))) = narrow_law known layout rows output own_output MayCount rows refl refl each
        by_room (inl (inl (inr (two, has_room)))) = fitting_law known layout rows output own_output MayCount rows refl refl (two_fit known layout rows is.unkept is.unmarked texts two has_room)
        by_room (inl (inr whole)) = whole_law known layout rows output own_output MayCount rows refl refl whole.no_width whole.uncut whole.plain
        by_room (inr fit) = fitting_law known layout rows output own_output MayCount rows refl refl fit

    some_kept : HasHarmlessFrame settings → HasOneColumnFrame settings → KeepToWidth layout rows output
    some_kept harmless narrow w wide is room =
        keep w known layout rows output wide (plain harmless narrow is) (fits room) (some_left layout.selection chosen rows layout.columns own.columns some) (are_below layout.selection chosen rows layout.columns own.columns) MayCount rows refl refl
      where
        fits : FitTheWidth layout rows → EachField (HasCharactersWithin 1) rows ⊎ CharactersFitEachWidth known layout rows
        fits (inl each) = inl each
        fits (inr (two, has_room)) = inr (two_fit known layout rows is.unkept is.unmarked texts two has_room)

  -- an empty list of rows has the count 0
  no_count : IsCountOf layout [] (Some 0)
  no_count = ap (λ (below : List (List Text)). Some (length below)) (sym (no_records layout.selection.has_header).1)

  -- without rows nothing is drawn
  none : (P : Text → Type 0) → output ≡ [] → EachRowsLine P layout [] output
  none P empty =
      subst (EachRowsLine P layout []) (sym empty)
      (nothing_drawn P layout (IsCountOf layout []) no_count)

  rows_keep : (rows : List (List Text)) → IsChosen settings chosen rows layout → All AllText rows → RendersAnyRecords layout rows output → KeepRowPromises settings layout rows output
  rows_keep [] own texts made =
      record {
        all = λ harmless look uncut. subst (ShowsAllFields (IsCountOf layout []) layout []) (sym made) (none_of_all (IsCountOf layout []) no_count layout);
        harmless = λ harmless. subst (IsHarmlessFor layout.look) (sym made) (nothing_is_harmless layout.look);
        straight = λ harmless narrow look room. (0, none (ShowsColumns 0) made);
        width = λ harmless narrow w wide look within. none _ made;
      }
  rows_keep (row ∷ rows) own texts made =
      let some = not_empty (length rows) in
      record {
        all = some_shown (row ∷ rows) own texts some made;
        harmless = some_harmless (row ∷ rows) own texts some made;
        straight = some_straight (row ∷ rows) own texts some made;
        width = some_kept (row ∷ rows) own texts some made;
      }

-- nothing is set except sides of columns
none_set : (has_header : Bool) (counts : List ℕ) (looks : List LookNumbers) (heights : List ℕ) (columns : List RowsColumn) → has_sides_alone looks heights columns ≡ true → table_settings has_header counts looks heights columns ≡ no_settings
none_set has_header counts looks heights columns alone =
    let both = and_parts (length looks == 0) ((length heights == 0) && are_unset columns) alone in
    let rest = and_parts (length heights == 0) (are_unset columns) both.1 in
    let empty : ((length looks == 0) && (length heights == 0)) ≡ true = ap₂ (λ (a b : Bool). a && b) both.0 rest.0 in
    ap₂ (λ (own : List ColumnSettings) (rows : List RowSettingsValue). record { columns = own; rows = rows })
    (ap (λ (b : Bool). if b then [] else map column_settings columns) rest.1)
    (ap (λ (b : Bool). if b then [] else (if has_header then [] else unset_row ∷ []) ++ rows_by (cut_by counts looks) heights) empty)

-- ---- tables of rows with settings

-- a look has the expansion and the kind of the settings
look_kind : (settings : RowsSettings) (style : Option TableStyle) (lines : Option RowSeparators) (expansion : Option Expansion) (look : Look) → look_by settings style lines expansion ≡ Some look → (expansion ≡ Some look.expansion) × (look.is_markdown ≡ is_set settings.is_markdown)
look_kind settings (Some style) (Some lines) (Some expansion) look is =
    let same = same_Some _ look is in (ap (λ (l : Look). Some l.expansion) same, sym (ap (λ (l : Look). l.is_markdown) same))
look_kind settings (Some style) (Some lines) None look is = absurd (cc is)
look_kind settings (Some style) None lines look is = absurd (cc is)
look_kind settings None lines expansion look is = absurd (cc is)

-- rows that may not be expanded aren't
never_expanded : (expansion : Expansion) → Some Never ≡ Some expansion → (has_room : Bool) → is_expanded_in expansion has_room ≡ false
never_expanded expansion is has_room = ap (λ (e : Expansion). is_expanded_in e has_room) (sym (same_Some Never expansion is))

module _ (law : (table : TableValue) (lines : List Text) → IsTableDrawing table lines → KeepsPromises table lines) (own : SettingsValue) (layout : Layout) (bytes : Text) where
  -- the lines of the table that is drawn keep its promises
  module _ (rows : List (List Text)) (text : Text) (joined : bytes ≡ text ++ note_for layout.selection.noun false layout.selection.limit (Some (count_below layout.selection rows))) where
    abbrev content : SelectedValue
    content = with_centers own.columns (selected_of (Some (count_below layout.selection rows)) layout rows)

    keep_drawn : RendersStyledTable own false layout.look content text → KeepTablePromises own layout rows bytes
    keep_drawn drawn =
        let lines = drawing_of_infos (table_by own layout drawn.has_separators rows) drawn.arranged.infos in
        record {
          has_separators = drawn.has_separators;
          lines = lines;
          keep = law (table_by own layout drawn.has_separators rows) lines drawn.is_arranged.headline;
          written =
              joined
              ∙ ap (λ (t : Text). t ++ note_for layout.selection.noun false layout.selection.limit (Some (count_below layout.selection rows)))
              (drawn.is
              ∙ ap (λ (t : TableValue). terminated_text_of (drawing_of_infos t drawn.arranged.infos))
              (all_rows_are_the_table drawn.arranged.table (length drawn.arranged.table.rows) (omega arith) ∙ drawn.is_arranged.of_table));
        }

  keep_rows : (rows : List (List Text)) → Some Never ≡ Some layout.look.expansion → layout.look.is_markdown ≡ false → 0 < length rows → RendersAnyStyledRecords own layout rows bytes → KeepTablePromises own layout rows bytes
  keep_rows [] never plain some made = absurd (omega (arith, some))
  keep_rows (row ∷ rest) never plain some made =
      let rows = row ∷ rest in
      let drawn : RendersStyled own layout.look (with_centers own.columns made.content) made.text = subst (λ (b : Bool). RendersStyledContent own b layout.look made.content made.text) plain made.is_text in
      let expanded : drawn.is_expanded ≡ false = drawn.expansion ∙ never_expanded layout.look.expansion never _ in
      keep_drawn rows made.text
      (made.joined ∙ ap₂ (λ (b : Bool) (content : SelectedValue). made.text ++ note_for content.noun b layout.selection.limit content.count) plain (sym made.is_content))
      (subst (λ (content : SelectedValue). RendersStyledTable own false layout.look (with_centers own.columns content) made.text) (sym made.is_content)
      (subst (λ (b : Bool). RendersStyledTable own b layout.look (with_centers own.columns made.content) made.text) expanded drawn.drawn))

-- a drawing of rows keeps these promises
pub shows_rows : ((table : TableValue) (lines : List Text) → IsTableDrawing table lines → KeepsPromises table lines) → (texts : Text) (lengths counts : List ℕ) (looks : List LookNumbers) (heights : List ℕ) (columns : List RowsColumn) (settings : RowsSettings) (bytes : Text)
    → IsRowsDrawing texts lengths counts looks heights columns settings bytes → ShowRows texts lengths counts looks heights columns settings bytes
shows_rows law texts lengths counts looks heights columns settings bytes is =
    let rows : List (List Text) = rows_of texts lengths counts in
    let chosen = is_chosen settings looks heights columns rows is.layout is.is_layout in
    let kind = look_kind settings (style_for settings.style settings.frame) (slice_get separators settings.row_lines) (slice_get expansions settings.expansion) is.layout.look chosen.look in
    record {
      are_text = is.is_text;
      layout = is.layout;
      is_layout = is.is_layout;
      keep = λ alone.
          rows_keep settings columns is.layout bytes rows chosen (rows_are_text counts (cut_by lengths texts) is.are_texts)
          (without_settings_any is.layout rows bytes (subst (λ (own : SettingsValue). RendersAnyStyledRecords own is.layout rows bytes) (none_set (is_set settings.has_header) counts looks heights columns alone) is.is_output));
      keep_table = λ table some.
          let both = and_parts (settings.expansion == 0) (not (is_set settings.is_markdown)) table in
          keep_rows law (table_settings (is_set settings.has_header) counts looks heights columns) is.layout bytes rows
          (ap (slice_get expansions) (sym (eqb-true settings.expansion 0 both.0)) ∙ kind.0)
          (kind.1 ∙ not-true _ both.1) some is.is_output;
    }
