-- The texts of tables, with a line below the first one.
use Rattle.std.proofs.Common.{◌≡◌, ◌<◌, ◌+◌, ◌==◌, true, false, List, [], ◌∷◌, ◌++◌, Option, Some, None, arith, drop, length, take, lit<, refl, sym, ap, ap₂, ◌∙◌, subst, append-nil, append_assoc}
use Rattle.std.specs.List.{All, after_first, before_first, list_any, position_or_len}
use Rattle.std.specs.Option.{MatchOption}
use Rattle.std.proofs.Math.Seq.{drop-append-add, take-append_seam}
use Rattle.std.proofs.lemmas.Bool.{or_parts}
use Rattle.std.proofs.lemmas.List.{length-append}
use Rattle.std.proofs.lemmas.List.Elements.{All-cons, All-head, All-nil, All-tail}
use Rattle.std.proofs.lemmas.Str.Pattern.{IsSplitOnceResult, split_once_first}
use Rattle.std.proofs.Common.{Bor}
use Rattle.comfy_parts.specs.Text.{Text}
use Rattle.comfy_parts.specs.CellValue.{ColumnInfo, RowValue}
use Rattle.comfy_parts.specs.declared.style.table_style.TableStyle.{TableStyle}
use Rattle.comfy_table.specs.Drawing.{drawing_of_infos, drawn_row, drawn_rows, further_rows, outer_widths, part_of_drawing, terminated_text_of}
use Rattle.comfy_table.specs.Frame.{optional_frame_line}
use Rattle.std.specs.Prelude.{flat_map}
use Rattle.comfy_table.specs.Parts.{ArrangedValue, IsArrangedTable}
use Rattle.comfy_table.specs.Laws.{HasNoBreak, HasUnbrokenStyle}
use Rattle.comfy_table.specs.TableValue.{TableValue}
use Rattle.csv_tables.specs.declared.options.Look.{Look}
use Rattle.csv_tables.proofs.LineLemmas.{any_built}
use Rattle.csv_tables.specs.Drawn.{SelectedValue, below_first, markdown_content, markdown_lines, markdown_look, markdown_style, markdown_table}

-- ---- a line below the first one

-- the first line of a text
record IsFirstLine (text line rest : Text) : Type 0 where
  place : position_or_len (λ b. b == 0x0A) text ≡ length line
  before : before_first (λ b. b == 0x0A) text ≡ line
  after : after_first (λ b. b == 0x0A) text ≡ rest

first_place : (line rest : Text) → HasNoBreak line → position_or_len (λ b. b == 0x0A) (line ++ 0x0A ∷ rest) ≡ length line
first_place [] rest none = refl
first_place (c ∷ cs) rest none =
    let each = or_parts (c == 0x0A) (list_any (λ b. b == 0x0A) cs) none in
    let more = first_place cs rest each.1 in
    rw each.0 (omega (arith, more))

first_line : (line rest : Text) → HasNoBreak line → IsFirstLine (line ++ 0x0A ∷ rest) line rest
first_line line rest none =
    let place = first_place line rest none in
    let text = line ++ 0x0A ∷ rest in
    record { place = place; before = ap (λ n. take n text) place ∙ take-append_seam line (0x0A ∷ rest); after = ap (λ n. drop (n + 1) text) place ∙ drop-append-add line (0x0A ∷ rest) 1 }

-- the text of lines with another line below the first, given the texts before and after the first line feed
pub with_line_below : (line : Text) (lines : List Text) (drawing : Text) (r : Option (Bor Text × Bor Text)) → drawing ≡ terminated_text_of lines → All HasNoBreak lines → IsSplitOnceResult 0x0A drawing r
    → MatchOption r (terminated_text_of (below_first line lines) ≡ []) (λ x. x.0.now ++ 0x0A ∷ (line ++ 0x0A ∷ x.1.now) ≡ terminated_text_of (below_first line lines))
with_line_below line lines drawing r is none split = by_lines lines is none r (split_once_first 0x0A drawing r split (lit< tt))
  where
    Found : Text → Option (Bor Text × Bor Text) → Type 0
    Found text r =
        MatchOption r (position_or_len (λ b. b == 0x0A) text ≡ length text)
        (λ x. (position_or_len (λ b. b == 0x0A) text < length text) × (x.0.now ≡ before_first (λ b. b == 0x0A) text) × (x.1.now ≡ after_first (λ b. b == 0x0A) text))

    by_lines : (lines : List Text) → drawing ≡ terminated_text_of lines → All HasNoBreak lines → (r : Option (Bor Text × Bor Text)) → Found drawing r
        → MatchOption r (terminated_text_of (below_first line lines) ≡ []) (λ x. x.0.now ++ 0x0A ∷ (line ++ 0x0A ∷ x.1.now) ≡ terminated_text_of (below_first line lines))
    by_lines [] is none None found = refl
    by_lines [] is none (Some x) found = let inside : length drawing ≡ 0 = ap length is in absurd (omega (arith, found.0, inside))
    by_lines (first ∷ rest) is none r found =
        let whole : drawing ≡ first ++ 0x0A ∷ terminated_text_of rest = is ∙ append_assoc first (0x0A ∷ []) (terminated_text_of rest) in
        by_result r (first_line first (terminated_text_of rest) (All-head HasNoBreak first rest none)) (subst (λ t. Found t r) whole found)
      where
        by_result : (r : Option (Bor Text × Bor Text)) → IsFirstLine (first ++ 0x0A ∷ terminated_text_of rest) first (terminated_text_of rest) → Found (first ++ 0x0A ∷ terminated_text_of rest) r
            → MatchOption r (terminated_text_of (below_first line (first ∷ rest)) ≡ []) (λ x. x.0.now ++ 0x0A ∷ (line ++ 0x0A ∷ x.1.now) ≡ terminated_text_of (below_first line (first ∷ rest)))
        by_result None own found = let longer = length-append first (0x0A ∷ terminated_text_of rest) in let place = own.place in absurd (omega (arith, place, found, longer))
        by_result (Some x) own found =
            ap₂ (λ (a b : Text). a ++ 0x0A ∷ (line ++ 0x0A ∷ b)) (found.1 ∙ own.before) (found.2 ∙ own.after)
            ∙ sym (append_assoc first (0x0A ∷ []) ((line ++ 0x0A ∷ []) ++ terminated_text_of rest) ∙ ap (λ (t : Text). first ++ 0x0A ∷ t) (append_assoc line (0x0A ∷ []) (terminated_text_of rest)))

-- no line of a table for Markdown holds a line feed
pub markdown_unbroken : (look : Look) (content : SelectedValue) → HasUnbrokenStyle (markdown_table look content)
markdown_unbroken look content = let known = any_built false false (markdown_look look) (markdown_content content) in subst HasUnbrokenStyle (sym known.is) (record { indicator = refl; characters = refl })

-- without lines between rows, a table has the lines of its header and those of its rows
header_and_rows : (table : TableValue) (infos : List ColumnInfo) → optional_frame_line table.style table.style.row_separator (outer_widths infos) ≡ []
    → part_of_drawing table infos true false [] ++ part_of_drawing table infos false true table.rows ≡ drawing_of_infos table infos
header_and_rows table infos none = grind (arith, append_assoc, append-nil, same table.rows)
  where
    between : List Text
    between = optional_frame_line table.style table.style.row_separator (outer_widths infos)

    lines : RowValue → List Text
    lines = drawn_row table infos table.style.content_lines

    same : (rows : List RowValue) → further_rows table infos rows ≡ drawn_rows table infos rows
    same [] = refl
    same (x ∷ xs) = ap (λ (s : List Text). (s ++ lines x) ++ flat_map (λ (row : RowValue). between ++ lines row) xs) none

-- a table for Markdown has the lines of its header and those of its rows
pub markdown_parts : (look : Look) (content : SelectedValue) (arranged : ArrangedValue) → arranged.table ≡ markdown_table look content
    → part_of_drawing arranged.table arranged.infos true false [] ++ part_of_drawing arranged.table arranged.infos false true arranged.table.rows ≡ drawing_of_infos arranged.table arranged.infos
markdown_parts look content arranged own =
    let style : arranged.table.style ≡ markdown_style = ap (λ (t : TableValue). t.style) (own ∙ (any_built false false (markdown_look look) (markdown_content content)).is) in
    header_and_rows arranged.table arranged.infos (ap (λ (s : TableStyle). optional_frame_line s s.row_separator (outer_widths arranged.infos)) style)

-- a property of each line of a table is one of each line of its header
pub header_each : (P : Text → Type 0) (look : Look) (content : SelectedValue) (arranged : ArrangedValue) → IsArrangedTable (markdown_table look content) arranged
    → All P (drawing_of_infos (markdown_table look content) arranged.infos) → All P (part_of_drawing arranged.table arranged.infos true false [])
header_each P look content arranged is each =
    front (part_of_drawing arranged.table arranged.infos true false []) (part_of_drawing arranged.table arranged.infos false true arranged.table.rows)
    (subst (All P) (ap (λ (t : TableValue). drawing_of_infos t arranged.infos) (sym is.of_table) ∙ sym (markdown_parts look content arranged is.of_table)) each)
  where
    front : (xs ys : List Text) → All P (xs ++ ys) → All P xs
    front [] ys all = All-nil P
    front (x ∷ xs) ys all = All-cons P x xs (All-head P x (xs ++ ys) all) (front xs ys (All-tail P x (xs ++ ys) all))

-- a property of each line of a table, and of the rule if there is a header, is one of all lines with the rule
pub each_markdown_line : (P : Text → Type 0) (look : Look) (content : SelectedValue) (arranged : ArrangedValue) (rule : Text) → IsArrangedTable (markdown_table look content) arranged
    → All P (drawing_of_infos (markdown_table look content) arranged.infos) → (0 < length (drawing_of_infos (markdown_table look content) arranged.infos) → P rule) → All P (markdown_lines rule arranged)
each_markdown_line P look content arranged rule is each own =
    by_lines (part_of_drawing arranged.table arranged.infos true false [])
    (ap (λ (t : TableValue). drawing_of_infos t arranged.infos) (sym is.of_table) ∙ sym (markdown_parts look content arranged is.of_table))
  where
    below : List Text
    below = part_of_drawing arranged.table arranged.infos false true arranged.table.rows

    drawing : List Text
    drawing = drawing_of_infos (markdown_table look content) arranged.infos

    by_lines : (above : List Text) → drawing ≡ above ++ below → All P (below_first rule above ++ below)
    by_lines [] parts = subst (All P) parts each
    by_lines (x ∷ xs) parts =
        let all : All P (x ∷ (xs ++ below)) = subst (All P) parts each in
        let some = ap length parts in
        All-cons P x (rule ∷ (xs ++ below)) (All-head P x (xs ++ below) all) (All-cons P rule (xs ++ below) (own (omega (arith, some))) (All-tail P x (xs ++ below) all))
