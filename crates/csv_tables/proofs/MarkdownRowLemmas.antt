-- Each row of a table for Markdown is drawn in one line, whose pieces are its fields.
use Rattle.std.proofs.Common.{◌≡◌, ◌==◌, ◌<◌, ◌≤◌, ℕ, suc, ◌+◌, ◌-◌, Bool, true, false, not, List, [], ◌∷◌, ◌++◌, Option, Some, None, arith, chars, cond, codes, filter, flat_map, get_or, length, map, max, min, nat_le, refl, slice_get, append_assoc, ap, ap₂, sym, ◌∙◌, subst, zip, append-nil}
use Rattle.std.specs.List.{All, AllZip, cons_option, enumerate_from, filter_map}
use Rattle.std.specs.Prelude.{if◌then◌else◌, slice_index, slice_index_or}
use Rattle.std.specs.Str.{NonePass}
use Rattle.std.proofs.lemmas.Bool.Decides.{nat_tests}
use Rattle.std.proofs.lemmas.List.{replicate-append-replicate}
use Rattle.std.proofs.lemmas.List.Elements.{All-cons, All-head, All-nil, All-tail, All-weaker}
use Rattle.std.proofs.lemmas.List.Splits.{slice_split_none}
use Rattle.comfy_parts.proofs.CallerLemmas.{All-none, All-same_map, none_by_characters}
use Rattle.comfy_parts.specs.CellValue.{CellValue, ColumnInfo, ColumnValue, RowValue, info_of, info_width, is_hidden_constraint, plain_cell}
use Rattle.comfy_parts.specs.Text.{Text, greatest, measure, spaces}
use Rattle.comfy_parts.specs.Wrapping.{lines_of_text}
use Rattle.comfy_parts.specs.declared.style.column.ColumnConstraint.{ColumnConstraint}
use Rattle.comfy_table.proofs.BuiltTableLemmas.{IsNewColumn}
use Rattle.comfy_table.specs.Drawing.{infos_of}
use Rattle.comfy_table.specs.Lines.{as_measured, cell_delimiter, cell_lines}
use Rattle.comfy_table.specs.Pieces.{blank_piece, cell_pieces, padded, piece, pieces_at, pieces_of_optional, row_cell_lines, shown_infos, cell_alignment, free_before, free_places}
use Rattle.comfy_table.specs.Styling.{styled}
use Rattle.comfy_table.specs.TableValue.{TableValue, cell_content_width, should_style}
use Rattle.csv_tables.specs.Cells.{Shown, cell_for, cells_for, field_text, marked}
use Rattle.csv_tables.specs.Markdown.{escaped_after, is_marked_at, is_special}
use Rattle.csv_tables.specs.declared.options.Look.{Look}
use Rattle.csv_tables.proofs.MarkdownLineLemmas.{IsPiece}
use Rattle.csv_tables.specs.Drawn.{markdown_look}
use Rattle.csv_tables.proofs.BuiltLemmas.{blank_drawn}

-- ---- one text line

-- an escaped text has no line feed
no_line_feed : (is_marked : Bool) (before : Option ℕ) (cs : List ℕ) → NonePass (λ c. c == 0x0A) (escaped_after is_marked before cs)
no_line_feed is_marked before [] = tt
no_line_feed is_marked before (c ∷ cs) = by_tests (c == 0x0A) (is_special here before c cs) refl (no_line_feed here (Some c) cs)
  where
    here : Bool
    here = is_marked_at is_marked before (c ∷ cs)

    by_tests : (feed special : Bool) → (c == 0x0A) ≡ feed → NonePass (λ x. x == 0x0A) (escaped_after here (Some c) cs) → NonePass (λ x. x == 0x0A) (cond feed (codes "<br>") (cond special (0x5C ∷ c ∷ []) (c ∷ [])) ++ escaped_after here (Some c) cs)
    by_tests true special is more = (refl, (refl, (refl, (refl, more))))
    by_tests false true is more = (refl, (is, more))
    by_tests false false is more = (is, more)

-- a field is one text line of its cell
pub one_text_line : (text : Text) → (plain_cell (marked text)).text_lines ≡ marked text ∷ []
one_text_line text =
    slice_split_none (λ b. b == 0x0A) (marked text)
    (All-none (λ b. b == 0x0A) (marked text) (none_by_characters (λ c. c == 0x0A) 0x0A (omega arith) refl (marked text) (escaped_after false None (chars text), refl, no_line_feed false None (chars text))))

-- ---- one piece

-- a cell of one text line that fits gives one piece
pub one_piece : (table : TableValue) (row : RowValue) (info : ColumnInfo) (cell : CellValue) (text : Text) → table.custom_styling ≡ false → should_style table ≡ false → row.max_height ≡ None → cell.text_lines ≡ text ∷ []
    → measure text ≤ info.content_width → cell_pieces table row info cell ≡ padded cell info (measure text) text ∷ []
one_piece table row info cell text plain unstyled uncut single fits =
    let d = cell_delimiter table info.delimiter cell in
    let lines : cell_lines info.content_width d cell ≡ text ∷ [] = ap (flat_map (lines_of_text info.content_width d)) single ∙ rw (fitting (measure text) info.content_width fits) refl in
    let whole : row_cell_lines table row info cell ≡ as_measured text ∷ [] = rw (uncut, plain) (ap (map as_measured) lines) in
    ap (map (piece table cell info)) whole ∙ ap (λ (b : Bool). (if b then (if table.style_text_only then padded cell info (measure text) (styled cell text) else styled cell (padded cell info (measure text) text)) else padded cell info (measure text) text) ∷ []) unstyled
  where
    fitting : (m n : ℕ) → m ≤ n → nat_le m n ≡ true
    fitting m n below = grind (arith, nat_tests, below)

-- the piece is the text between spaces
padded_is : (cell : CellValue) (info : ColumnInfo) (columns : ℕ) (text : Text) → (a : ℕ) × (b : ℕ) × (padded cell info columns text ≡ spaces a ++ (text ++ spaces b))
padded_is cell info columns text = (
  info.padding.0 + before,
  after + info.padding.1,
  sym (append_assoc (spaces info.padding.0) (spaces before) (text ++ (spaces after ++ spaces info.padding.1)))
      ∙ ap₂ (λ (a b : Text). a ++ (text ++ b)) (replicate-append-replicate info.padding.0 before 0x20) (replicate-append-replicate after info.padding.1 0x20),
)
  where
    before : ℕ
    before = free_before (cell_alignment cell info) (free_places info columns)

    after : ℕ
    after = free_places info columns - before

-- ---- the columns as they are drawn

-- a column at its position, with content width `f`
abbrev pub placed : (ℕ → ℕ) → ℕ × ColumnValue → ℕ × ColumnInfo
placed f p = (p.0, info_of p.1 (f p.0))

-- new columns with content widths `f`
infos_from : (f : ℕ → ℕ) (widths : List ℕ) (n : ℕ) (columns : List ColumnValue) (ws : List ℕ) → length ws ≡ length columns → ((k : ℕ) → get_or widths (n + k) 0 ≡ get_or ws k 0) → All IsNewColumn columns
    → All (λ (p : ℕ × ColumnValue). slice_index widths p.0 ≡ f p.0) (enumerate_from n columns)
    → filter (λ (p : ℕ × ColumnInfo). not p.1.is_hidden) (enumerate_from n (map (λ (p : ColumnValue × ℕ). info_of p.0 p.1) (zip columns ws))) ≡ map (placed f) (enumerate_from n columns)
infos_from f widths n [] ws same at each given = refl
infos_from f widths n (column ∷ columns) [] same at each given = absurd (omega (arith, same))
infos_from f widths n (column ∷ columns) (w ∷ ws) same at each given =
    let later = filter (λ (p : ℕ × ColumnInfo). not p.1.is_hidden) (enumerate_from (n + 1) (map (λ (p : ColumnValue × ℕ). info_of p.0 p.1) (zip columns ws))) in
    let Is = λ (p : ℕ × ColumnValue). slice_index widths p.0 ≡ f p.0 in
    let here : get_or widths n 0 ≡ w = let moved : n ≡ n + 0 = omega arith in ap (λ (i : ℕ). get_or widths i 0) moved ∙ at 0 in
    let more = infos_from f widths (n + 1) columns ws (omega (arith, same)) (λ k. let moved : n + 1 + k ≡ n + suc k = omega arith in ap (λ (i : ℕ). get_or widths i 0) moved ∙ at (suc k)) (All-tail IsNewColumn column columns each)
    (All-tail Is (n, column) (enumerate_from (n + 1) columns) given) in
    ap (λ (o : Option ColumnConstraint). cond (not (is_hidden_constraint o)) ((n, info_of column w) ∷ later) later) (All-head IsNewColumn column columns each).no_constraint
    ∙ ap₂ (λ (x : ℕ) (rest : List (ℕ × ColumnInfo)). (n, info_of column x) ∷ rest) (sym here ∙ All-head Is (n, column) (enumerate_from (n + 1) columns) given) more

pub infos_placed : (table : TableValue) (f : ℕ → ℕ) (widths : List ℕ) → length widths ≡ length table.columns → All IsNewColumn table.columns → map (λ (p : ℕ × ColumnValue). slice_index widths p.0) (enumerate_from 0 table.columns) ≡ map (λ (p : ℕ × ColumnValue). f p.0) (enumerate_from 0 table.columns)
    → shown_infos (infos_of table widths) ≡ map (placed f) (enumerate_from 0 table.columns)
infos_placed table f widths same each are =
    infos_from f widths 0 table.columns widths same (λ k. let moved : 0 + k ≡ k = omega arith in ap (λ (i : ℕ). get_or widths i 0) moved) each
    (All-same_map (λ (p : ℕ × ColumnValue). slice_index widths p.0) (λ (p : ℕ × ColumnValue). f p.0) (enumerate_from 0 table.columns) are)

-- ---- the cells of a row fit

-- a cell of a row is at most as wide as its column's content
abbrev pub FitsAmong : List RowValue → RowValue → Type 0
FitsAmong rows row = (i : ℕ) (cell : CellValue) → slice_get row.cells i ≡ Some cell → cell_content_width cell ≤ greatest (map cell_content_width (filter_map (λ (r : RowValue). slice_get r.cells i) rows))

pub all_fit : (rows : List RowValue) → All (FitsAmong rows) rows
all_fit [] = All-nil (FitsAmong [])
all_fit (row ∷ rows) = All-cons (FitsAmong (row ∷ rows)) row rows own (All-weaker (FitsAmong rows) (FitsAmong (row ∷ rows)) weaker rows (all_fit rows))
  where
    rest : ℕ → List CellValue
    rest i = filter_map (λ (r : RowValue). slice_get r.cells i) rows

    own : FitsAmong (row ∷ rows) row
    own i cell found = subst (λ (o : Option CellValue). cell_content_width cell ≤ greatest (map cell_content_width (cons_option o (rest i)))) (sym found) (omega arith)

    weaker : (other : RowValue) → FitsAmong rows other → FitsAmong (row ∷ rows) other
    weaker other fits i cell found = by_option (slice_get row.cells i) (fits i cell found)
      where
        by_option : (o : Option CellValue) → cell_content_width cell ≤ greatest (map cell_content_width (rest i)) → cell_content_width cell ≤ greatest (map cell_content_width (cons_option o (rest i)))
        by_option None below = below
        by_option (Some first) below = omega (arith, below)

-- ---- one row

-- the row that shows these texts
abbrev pub markdown_row : Look → List Shown → RowValue
markdown_row look shown = cells_for (markdown_look look) false shown

module _ (table : TableValue) (look : Look) (shown : List Shown) where
  abbrev row : RowValue
  row = markdown_row look shown

  abbrev pub text_at : Shown → Text
  text_at column = field_text (markdown_look look) column.text

  abbrev cell_at : Shown → CellValue
  cell_at column = cell_for (markdown_look look) column.alignment column.text

  -- the cell of a column is that of its text, or the text is blank
  abbrev pub IsCellAt : Shown → Option CellValue → Type 0
  IsCellAt column None = column.text ≡ []
  IsCellAt column (Some cell) = cell ≡ cell_at column

  -- the text of a column is short as it is drawn
  abbrev pub IsShortAt : Shown → Type 0
  IsShortAt column = measure (text_at column) ≤ 65535

  -- the only piece of a column
  pub record IsOnly (column : Shown) (p : ℕ × ColumnInfo) : Type 0 where
    pub only : Text
    pub is_only : pieces_at table row p ≡ only ∷ []
    pub is_piece : IsPiece look column only

  module _ (rows : List RowValue) (plain : table.custom_styling ≡ false) (unstyled : should_style table ≡ false) (fits : FitsAmong rows row) where
    abbrev pub content : ℕ → ℕ
    content i = max 1 (greatest (map cell_content_width (filter_map (λ (r : RowValue). slice_get r.cells i) rows)))

    no_piece : (i : ℕ) (column : ColumnValue) (drawn : Shown) → slice_get row.cells i ≡ None → drawn.text ≡ [] → IsOnly drawn (placed content (i, column))
    no_piece i column drawn none blank =
        let info = info_of column (content i) in
        let empty : text_at drawn ≡ [] = ap (field_text (markdown_look look)) blank ∙ blank_drawn (markdown_look look) in
        record {
          only = blank_piece info;
          is_only = ap (pieces_of_optional table row info) none;
          is_piece = (info_width info, 0, sym (append-nil (spaces (info_width info))) ∙ ap (λ (text : Text). spaces (info_width info) ++ (text ++ spaces 0)) (sym empty));
        }

    found_piece : (i : ℕ) (column : ColumnValue) (drawn : Shown) → IsShortAt drawn → slice_get row.cells i ≡ Some (cell_at drawn) → IsOnly drawn (placed content (i, column))
    found_piece i column drawn short found =
        let info = info_of column (content i) in
        let text = text_at drawn in
        let single : (cell_at drawn).text_lines ≡ text ∷ [] = one_text_line _ in
        let width : cell_content_width (cell_at drawn) ≡ max 1 (min 65535 (greatest (measure text ∷ []))) = ap (λ (ts : List Text). max 1 (min 65535 (greatest (map measure ts)))) single in
        let below = fits i (cell_at drawn) found in
        let room : measure text ≤ info.content_width = omega (arith, width, below, short) in
        let spaced = padded_is (cell_at drawn) info (measure text) text in
        record {
          only = padded (cell_at drawn) info (measure text) text;
          is_only = ap (pieces_of_optional table row info) found ∙ one_piece table row info (cell_at drawn) text plain unstyled refl single room;
          is_piece = spaced;
        }

    only_piece : (i : ℕ) (column : ColumnValue) (drawn : Shown) → IsShortAt drawn → (cell : Option CellValue) → slice_get row.cells i ≡ cell → IsCellAt drawn cell → IsOnly drawn (placed content (i, column))
    only_piece i column drawn short None at blank = no_piece i column drawn at blank
    only_piece i column drawn short (Some cell) at is = found_piece i column drawn short (at ∙ ap (λ c. Some c) is)

    pub only_pieces : (n : ℕ) (drawn : List Shown) (columns : List ColumnValue) → All IsShortAt drawn → length columns ≡ length drawn → ((k : ℕ) (d : Shown) → slice_get drawn k ≡ Some d → IsCellAt d (slice_get row.cells (n + k))) → AllZip IsOnly drawn (map (placed content) (enumerate_from n columns))
    only_pieces n [] [] short same at = tt
    only_pieces n [] (column ∷ columns) short same at = absurd (omega (arith, same))
    only_pieces n (d ∷ drawn) [] short same at = absurd (omega (arith, same))
    only_pieces n (d ∷ drawn) (column ∷ columns) short same at = (
      only_piece n column d (All-head IsShortAt d drawn short) (slice_get row.cells (n + 0)) (let moved : n ≡ n + 0 = omega arith in ap (slice_get row.cells) moved) (at 0 d refl),
      only_pieces (n + 1) drawn columns (All-tail IsShortAt d drawn short) (omega (arith, same)) (λ k e found. let moved : n + suc k ≡ n + 1 + k = omega arith in subst (λ (i : ℕ). IsCellAt e (slice_get row.cells i)) moved (at (suc k) e found)),
    )

  -- ---- columns with one piece each

  abbrev pub height_of : List (ℕ × ColumnInfo) → ℕ
  height_of ps = greatest (map (λ (p : ℕ × ColumnInfo). length (pieces_at table row p)) ps)

  abbrev pub first_line : List (ℕ × ColumnInfo) → List Text
  first_line ps = map (λ (p : ℕ × ColumnInfo). slice_index_or (pieces_at table row p) 0 (blank_piece p.1)) ps

  at_most_one : (drawn : List Shown) (ps : List (ℕ × ColumnInfo)) → AllZip IsOnly drawn ps → height_of ps ≤ 1
  at_most_one [] [] each = omega arith
  at_most_one [] (p ∷ ps) each = absurd each
  at_most_one (d ∷ drawn) [] each = absurd each
  at_most_one (d ∷ drawn) (p ∷ ps) (own, each) =
      let one : length (pieces_at table row p) ≡ 1 = ap (λ (ts : List Text). length ts) own.is_only in
      omega (arith, one, at_most_one drawn ps each)

  pub one_high : (drawn : List Shown) (ps : List (ℕ × ColumnInfo)) → 0 < length drawn → AllZip IsOnly drawn ps → height_of ps ≡ 1
  one_high [] ps some each = absurd (omega (arith, some))
  one_high (d ∷ drawn) [] some each = absurd each
  one_high (d ∷ drawn) (p ∷ ps) some each =
      let one : length (pieces_at table row p) ≡ 1 = ap (λ (ts : List Text). length ts) each.0.is_only in
      omega (arith, one, at_most_one (d ∷ drawn) (p ∷ ps) each)

  pub pieces_of : (drawn : List Shown) (ps : List (ℕ × ColumnInfo)) → AllZip IsOnly drawn ps → AllZip (IsPiece look) drawn (first_line ps)
  pieces_of [] [] each = tt
  pieces_of [] (p ∷ ps) each = absurd each
  pieces_of (d ∷ drawn) [] each = absurd each
  pieces_of (d ∷ drawn) (p ∷ ps) (own, each) = (subst (λ (ts : List Text). IsPiece look d (slice_index_or ts 0 (blank_piece p.1))) (sym own.is_only) own.is_piece, pieces_of drawn ps each)
