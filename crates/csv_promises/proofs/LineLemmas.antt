-- The output for records is their drawing, line by line, and a note.
use Rattle.std.proofs.Common.{◌≡◌, ℕ, zero, suc, ◌+◌, Bool, true, false, List, [], ◌∷◌, ◌++◌, Option, Some, None, append_assoc, arith, codes, flat_map, length, nat_lt, refl, sym, ap, ap₂, ◌∙◌, subst, ◌||◌, ◌&&◌, ◌==◌, not}
use Rattle.std.specs.Char.{is_control}
use Rattle.std.specs.List.{All, range_with_len}
use Rattle.std.specs.Prelude.{Contains, if◌then◌else◌}
use Rattle.std.proofs.lemmas.List.Elements.{All-contains, All-nil, All-weaker}
use Rattle.comfy_parts.proofs.CallerLemmas.{All-of_map, none_by_characters}
use Rattle.comfy_parts.specs.Text.{Text, measure}
use Rattle.comfy_parts.specs.VisibleText.{visible_text}
use Rattle.comfy_table.specs.Drawing.{terminated_text_of}
use Rattle.comfy_table.specs.Laws.{HasNoBreak, HasNoControl}
use Rattle.csv_command.specs.Drawn.{layout_with}
use Rattle.csv_command.specs.declared.arguments.Options.{Options}
use Rattle.csv_tables.specs.Columns.{ColumnsValue}
use Rattle.csv_tables.specs.Drawn.{SelectedValue, drawn_rows, has_room_for, is_aligned_in, is_expanded_in, limited, names_of, note_for, note_text, record_line, records_below}
use Rattle.csv_tables.specs.Laws.{HasLines, IsOutputWith, IsStraightOutput, numbered_lines}
use Rattle.csv_tables.specs.declared.options.Expansion.{Expansion}
use Rattle.csv_tables.specs.declared.options.Expansion.TheVariants.{Always, Auto, Never}
use Rattle.csv_tables.specs.declared.options.Layout.{Layout}
use Rattle.csv_tables.specs.declared.selection.Selection.{Selection}
use Rattle.promises.proofs.ShownLemmas.{shows_visible}
use Rattle.promises.specs.Shown.{ShowsColumns}
use Rattle.csv_promises.specs.Counted.{AreExpanded, DrawsLines, EachDrawnLine, EachLineFor, HasEachLine, IsCount, IsDrawnWithNote, MayExpand}

-- ---- no records

pub no_records : (has_header : Bool) → (names_of has_header [] ≡ None) × (records_below has_header [] ≡ [])
no_records true = (refl, refl)
no_records false = (refl, refl)

no_limited : (limit : Option ℕ) → ◌≡◌ {A = List (List Text)} (limited limit []) []
no_limited None = refl
no_limited (Some zero) = refl
no_limited (Some (suc n)) = refl

pub no_rows : (selection : Selection) → drawn_rows selection [] ≡ []
no_rows selection = ap (limited selection.limit) (no_records selection.has_header).1 ∙ no_limited selection.limit

-- without records nothing is drawn, and there is no note
pub nothing_noted : (Draws : Bool → Option ℕ → Text → Type 0) (MayCount : Option ℕ → Type 0) (expansion : Expansion) (selection : Selection) → MayCount (Some 0) → ((is_expanded : Bool) (count : Option ℕ) → Draws is_expanded count []) → IsDrawnWithNote Draws MayCount expansion selection []
nothing_noted Draws MayCount expansion selection is_count empty =
    let kind = either expansion in
    record {
      count = Some 0;
      is_count = is_count;
      is_expanded = kind.0;
      expansion = kind.1;
      drawn = [];
      draws = empty kind.0 (Some 0);
      joined = nothing selection.limit;
    }
  where
    nothing : (limit : Option ℕ) → [] ≡ note_for selection.noun false limit (Some 0)
    nothing None = refl
    nothing (Some n) = by_test (nat_lt n 0) (grind arith)
      where
        by_test : (b : Bool) → b ≡ false → [] ≡ (if b then [] ++ (note_text selection.noun n (Some 0) ++ codes "\n") else [])
        by_test true is = absurd (cc is)
        by_test false is = refl

    either : (expansion : Expansion) → (is_expanded : Bool) × MayExpand expansion is_expanded
    either Always = (true, refl)
    either Never = (false, refl)
    either Auto = (false, tt)

pub none_below : (has_header : Bool) → 0 ≡ length (records_below has_header [])
none_below has_header = ap length (sym (no_records has_header).1)

-- ---- lines of outputs

pub may_expand : (expansion : Expansion) (room is_expanded : Bool) → is_expanded ≡ is_expanded_in expansion room → MayExpand expansion is_expanded
may_expand Always room is_expanded own = own
may_expand Never room is_expanded own = own
may_expand Auto room is_expanded own = tt

-- lines with a property
module _ (IsGood : Text → Type 0) where
  -- a text without lines
  pub no_lines : HasEachLine IsGood []
  no_lines = record { lines = []; are = record { joined = refl; unbroken = All-nil HasNoBreak }; each = All-nil IsGood }

  -- without records there are no lines
  pub nothing_drawn : (layout : Layout) (MayCount : Option ℕ → Type 0) → MayCount (Some 0) → EachLineFor IsGood MayCount layout [] []
  nothing_drawn layout MayCount is_count =
      nothing_noted (DrawsLines IsGood layout.selection.noun (drawn_rows layout.selection [])) MayCount layout.look.expansion layout.selection is_count
      (λ is_expanded count. subst (λ (rows : List (List Text)). DrawsLines IsGood layout.selection.noun rows is_expanded count []) (sym (no_rows layout.selection)) (by_kind is_expanded count))
    where
      by_kind : (is_expanded : Bool) (count : Option ℕ) → DrawsLines IsGood layout.selection.noun [] is_expanded count []
      by_kind true count = refl
      by_kind false count = no_lines

  -- the same for options
  pub nothing_written : (options : Options) → EachDrawnLine IsGood options [] []
  nothing_written options = nothing_drawn (layout_with options no_columns) (IsCount options []) (none_below options.selection.has_header)
    where
      no_columns : ColumnsValue
      no_columns = record { drawn = []; right = []; left = [] }

  -- the lines of a drawing
  table_lines : (is_expanded : Bool) (content : SelectedValue) (lines : List Text) (text : Text) → HasLines is_expanded content lines text → All IsGood lines → DrawsLines IsGood content.noun content.rows is_expanded content.count text
  table_lines false content lines text are good = record { lines = lines; are = are; each = good }
  table_lines true content lines text (parts, within, unbroken, is) good =
      subst (AreExpanded (λ fields own. HasEachLine IsGood own) content.noun content.count 1 content.rows) (sym is) (from 0 content.rows)
    where
      part : (at : ℕ) → HasEachLine IsGood (terminated_text_of (parts at))
      part at =
          record {
            lines = parts at;
            are = record { joined = refl; unbroken = All-weaker (Contains lines) HasNoBreak (λ line in_lines. All-contains HasNoBreak lines line unbroken in_lines) (parts at) (within at) };
            each = All-weaker (Contains lines) IsGood (λ line in_lines. All-contains IsGood lines line good in_lines) (parts at) (within at);
          }

      from : (k : ℕ) (rows : List (List Text)) → AreExpanded (λ fields own. HasEachLine IsGood own) content.noun content.count (k + 1) rows (flat_map (numbered_lines content parts) (range_with_len k (length rows)))
      from k [] = refl
      from k (fields ∷ rows) = (
        terminated_text_of (parts k),
        flat_map (numbered_lines content parts) (range_with_len (k + 1) (length rows)),
        append_assoc (record_line content.noun (k + 1) content.count) _ _,
        part k,
        from (k + 1) rows,
      )

  -- the output for records, or for the first of them, and the note
  pub output_lines : (layout : Layout) (MayCount : Option ℕ → Type 0) (records rs : List (List Text)) (known : Option ℕ) (output : Text) (lines : List Text) → layout.look.is_markdown ≡ false → MayCount known
      → drawn_rows layout.selection rs ≡ drawn_rows layout.selection records → IsOutputWith known layout rs output lines → All IsGood lines → EachLineFor IsGood MayCount layout records output
  output_lines layout MayCount records rs known output lines none is_count same made good =
      record {
        count = known;
        is_count = is_count;
        is_expanded = made.is_expanded;
        expansion = may_expand layout.look.expansion ((length made.content.rows == 0) || has_room_for layout.look made.content (is_aligned_in layout.look made.content)) made.is_expanded (made.expansion ∙ shown layout.look.is_markdown none _);
        drawn = made.text;
        draws = subst (λ (rows : List (List Text)). DrawsLines IsGood layout.selection.noun rows made.is_expanded known made.text) same
            (subst (λ (c : SelectedValue). DrawsLines IsGood c.noun c.rows made.is_expanded c.count made.text) (sym made.is_content) (table_lines made.is_expanded made.content lines made.text made.has_lines good));
        joined = made.joined ∙ ap₂ (λ (b : Bool) (c : SelectedValue). made.text ++ note_for c.noun b layout.selection.limit c.count) none (sym made.is_content);
      }
    where
      shown : (b : Bool) → b ≡ false → (e : Bool) → (not b && e) ≡ e
      shown true is e = absurd (cc is)
      shown false is e = refl

-- a line is shown as its visible text, if this has no control characters
pub shown_line : (columns : ℕ) (line : Text) → HasNoControl (visible_text line) → measure (visible_text line) ≡ columns → ShowsColumns columns line
shown_line columns line none is =
    (visible_text line, shows_visible (suc (length line)) line (omega arith) (none_by_characters is_control 0x1B (omega arith) refl (visible_text line) none), is)

-- an output that isn't for Markdown is straight if its visible lines are
pub straight_text : (layout : Layout) (MayCount : Option ℕ → Type 0) (records rs : List (List Text)) (known : Option ℕ) (output : Text) → layout.look.is_markdown ≡ false → MayCount known → drawn_rows layout.selection rs ≡ drawn_rows layout.selection records
    → IsStraightOutput true known layout rs output → (columns : ℕ) × EachLineFor (ShowsColumns columns) MayCount layout records output
straight_text layout MayCount records rs known output none is_count same is =
    let wide = is.equally_wide.0 in
    let seen = All-of_map (λ (line : Text). measure line ≡ wide) visible_text is.lines is.equally_wide.1 in
    let clear = All-of_map HasNoControl visible_text is.lines (is.clear refl) in
    (wide, output_lines (ShowsColumns wide) layout MayCount records rs known output is.lines none is_count same is.is_output (λ k default below. shown_line wide _ (clear k default below) (seen k default below)))
