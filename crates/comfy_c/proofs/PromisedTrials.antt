-- Bytes that break a promise to a caller in C.
use Rattle.std.proofs.Common.{◌≡◌, ◌∙◌, ◌^◌, ◌≤◌, ◌-◌, ◌+◌, ℕ, None, List, [], ◌∷◌, ◌++◌, false, true, ap, ap₂, append-nil, arith, codes, inl, inr, refl, subst, suc, sym, zero}
use Rattle.std.specs.Prelude.{slice_index}
use Rattle.std.specs.Str.{chars, is_utf8}
use Rattle.std.specs.List.{All, AllZip, join_by, repeat}
use lib.Utf8.{encode}
use Rattle.std.proofs.lemmas.List.{append_cancel_right, same_from_push}
use Rattle.std.proofs.lemmas.List.Elements.{All-from_recursion}
use Rattle.std.proofs.lemmas.Option.{same_Some}
use Rattle.std.proofs.lemmas.Str.{is_utf8-from_IsUtf8}
use Rattle.comfy_parts.specs.CellValue.{ColumnValue}
use Rattle.comfy_parts.specs.Text.{Text}
use Rattle.comfy_parts.specs.declared.style.table.ContentArrangement.TheVariants.{Dynamic}
use Rattle.comfy_table.specs.Drawing.{terminated_text_of}
use Rattle.comfy_table.specs.Frame.{frame_line}
use Rattle.comfy_table.specs.Laws.{count}
use Rattle.comfy_table.specs.TableValue.{TableValue, shown_columns}
use Rattle.promises.specs.Headline.{AreLinesOfRow, IsHeadline, IsPlainDrawing, widths_shown}
use Rattle.comfy_c.specs.CellCalls.{AreWritten, IsDescribed, table_with}
use Rattle.comfy_c.specs.Frames.{own_style}
use Rattle.comfy_c.specs.Promised.{ShowTable}
use Rattle.comfy_c.specs.declared.cells_columns.ColumnNumbers.{ColumnNumbers}
use Rattle.comfy_c.specs.declared.cells_columns.WidthNumbers.{WidthNumbers}
use Rattle.comfy_c.specs.declared.cells_settings.CellsSettings.{CellsSettings}
use Rattle.comfy_c.specs.declared.frame.ContentLineNumbers.{ContentLineNumbers}
use Rattle.comfy_c.specs.declared.frame.FrameNumbers.{FrameNumbers}
use Rattle.comfy_c.specs.declared.frame.LineNumbers.{LineNumbers}

-- ---- a table of one column and no rows in three terminal columns, under a line of `=`

abbrev no_line : LineNumbers
no_line = record { left = 0; fill = 0; junction = 0; right = 0 }

abbrev no_content_line : ContentLineNumbers
no_content_line = record { left = 0; junction = 0; right = 0 }

abbrev frame : FrameNumbers
frame =
    record {
      top_border = record { left = 0; fill = 0x3D; junction = 0; right = 0 };
      header_lines = no_content_line;
      header_separator = no_line;
      content_lines = no_content_line;
      row_separator = no_line;
      bottom_border = no_line;
    }

abbrev settings : CellsSettings
settings =
    record {
      form = 0;
      style = 2 ^ 32 - 1;
      arrangement = 1;
      width = 3;
      delimiter = 0;
      has_header = 0;
      enforce_styling = 0;
      style_text_only = 0;
      custom_styling = 0;
      frame = frame;
    }

abbrev no_width : WidthNumbers
no_width = record { is_percentage = 0; value = 0 }

abbrev columns : List ColumnNumbers
columns = record { left_padding = 0; right_padding = 0; delimiter = 0; alignment = 0; constraint = 0; width = no_width; upper = no_width } ∷ []

abbrev Shows : Text → Type 0
Shows bytes = ShowTable [] [] [] columns [] settings bytes

abbrev the_table : TableValue
the_table = table_with [] columns [] settings (own_style frame) Dynamic

-- the numbers describe this table
described_is : (table : TableValue) → IsDescribed [] [] [] columns [] settings table → table ≡ the_table
described_is table is =
    is.value
    ∙ ap₂ (table_with [] columns [] settings) (sym (same_Some _ _ is.is_style)) (sym (same_Some _ _ is.is_arrangement))

-- the table has one line, of at most three characters
pub record IsTheLine (lines : List Text) : Type 0 where
  pub w : ℕ
  pub are : lines ≡ repeat w (codes "=") ∷ []
  pub keeps : count (repeat w (codes "=")) ≤ 3

line_of_plain : (lines : List Text) → IsPlainDrawing the_table lines → IsTheLine lines
unfolding encode
line_of_plain lines is =
    record {
      w = 0 + is.framed.width 0 + 0;
      are = by_rows is.framed.frame.rows is.framed.frame.are_rows is.framed.frame.drawn ∙ ap (λ (line : Text). line ∷ []) line_is;
      keeps =
          let total : count top ≡ is.total = is.frame_total (own_style frame).top_border in
          let kept : is.total ≤ 3 = is.keeps_to_width 3 refl unconstrained refl in
          let same : count top ≡ count (repeat (0 + is.framed.width 0 + 0) (codes "=")) = ap count line_is in
          omega (arith, total, kept, same);
    }
  where
    top : Text
    top = frame_line (own_style frame) (own_style frame).top_border (widths_shown the_table is.framed.width)

    line_is : top ≡ repeat (0 + is.framed.width 0 + 0) (codes "=")
    line_is = append-nil (repeat (0 + is.framed.width 0 + 0) (codes "=") ++ []) ∙ append-nil (repeat (0 + is.framed.width 0 + 0) (codes "="))

    unconstrained : All (λ (p : ℕ × ColumnValue). p.1.constraint ≡ None) (shown_columns the_table)
    unconstrained = All-from_recursion (λ (p : ℕ × ColumnValue). p.1.constraint ≡ None) (shown_columns the_table) (refl, tt)

    by_rows : (rows : List (List Text)) → AllZip (AreLinesOfRow the_table is.framed.width is.framed.cell_lines (own_style frame).content_lines) [] rows → lines ≡ (top ∷ []) ++ (is.framed.frame.header ++ (join_by (λ block. block) [] rows ++ [])) → lines ≡ top ∷ []
    by_rows [] each drawn = drawn ∙ ap (λ (header : List Text). (top ∷ []) ++ (header ++ [])) is.framed.frame.is_header
    by_rows (block ∷ rows) each drawn = absurd each

line_of : (bytes : Text) (is : Shows bytes) → IsTheLine is.lines
line_of bytes is =
    let headline = subst (λ (table : TableValue). IsHeadline table is.lines) (described_is is.table is.described) is.keep.headline in
    line_of_plain is.lines (subst (IsPlainDrawing the_table) (sym (headline.unstyled refl refl)) headline.is_plain)

-- in this form each line has a line feed after it
terminated : (lines : List Text) (bytes : Text) → AreWritten 0 lines bytes → bytes ≡ terminated_text_of lines
terminated lines bytes (inl given) = given.1
terminated lines bytes (inr given) = absurd (omega (arith, given.0))

-- the line, with a line feed after it
line_read : (line : Text) (is : Shows (line ++ 0x0A ∷ [])) → (w : ℕ) × (line ≡ repeat w (codes "=")) × (count line ≤ 3)
line_read line is =
    let own = line_of (line ++ 0x0A ∷ []) is in
    let same : line ≡ repeat own.w (codes "=") = append_cancel_right line _ (0x0A ∷ []) (terminated is.lines (line ++ 0x0A ∷ []) is.written ∙ ap terminated_text_of own.are ∙ append-nil (repeat own.w (codes "=") ++ 0x0A ∷ [])) in
    (own.w, same, let short = own.keeps in let long = ap count same in omega (arith, short, long))

-- ---- bytes that don't show it

-- false: comfy_c::drawn_cells
-- not UTF-8
no_text : ¬ (Shows (0xFF ∷ []))
unfolding chars is_utf8
no_text is = let wrong : false ≡ true = is_utf8-from_IsUtf8 (0xFF ∷ []) is.are_text in cc wrong

-- no line feed after the line
no_line_feed : ¬ (Shows (codes "==="))
no_line_feed is =
    let own = line_of (codes "===") is in
    let same = terminated is.lines (codes "===") is.written ∙ ap terminated_text_of own.are ∙ append-nil (repeat own.w (codes "=") ++ 0x0A ∷ []) in
    let wrong : 0x3D ≡ 0x0A = (same_from_push (codes "==") (repeat own.w (codes "=")) 0x3D 0x0A same).1 in
    absurd (omega (arith, wrong))

-- another line than the table's
another_line : ¬ (Shows (codes "xyz\n"))
another_line is = let own = line_read (codes "xyz") is in begins own.0 own.1
  where
    begins : (w : ℕ) → ¬ (codes "xyz" ≡ repeat w (codes "="))
    begins zero same = cc same
    begins (suc w) same = let wrong : 0x78 ≡ 0x3D = ap (λ (line : Text). slice_index line 0) same in absurd (omega (arith, wrong))

-- a line of five characters under a width of three
five : count (codes "=====") ≡ 5
unfolding chars
five = refl

too_wide : ¬ (Shows (codes "=====\n"))
too_wide is = let own = line_read (codes "=====") is in absurd (omega (arith, own.2, five))
