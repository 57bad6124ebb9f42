-- A property of each field of some records, and of short texts of printable ASCII, is one of the fields with spaces
-- after them.
use Rattle.std.proofs.Common.{◌≡◌, ◌≤◌, ◌+◌, ◌-◌, ◌&&◌, ◌==◌, ℕ, zero, suc, Bool, true, false, List, [], ◌∷◌, ◌++◌, Option, Some, None, drop, fold, length, map, max, nat_le, take, refl, sym, ap, ap₂, ◌∙◌, subst, arith}
use Rattle.std.specs.List.{All, cons_option, list_all, position, prefix_len, suffix_len}
use Rattle.std.specs.Prelude.{if◌then◌else◌, option_map, slice_index_or, unwrap_or}
use Rattle.std.specs.Int.{is_in_range}
use Rattle.std.specs.Str.{IsUtf8, chars, encode_utf8_all}
use Rattle.std.proofs.lemmas.Bool.{and_parts, leb-true}
use Rattle.std.proofs.lemmas.List.{length-append, length-drop, length-replicate, length-take}
use Rattle.std.proofs.lemmas.List.Elements.{All-cons, All-head, All-map, All-nil, All-tail}
use Rattle.std.proofs.lemmas.List.Folds.{list_all-append}
use Rattle.std.proofs.lemmas.Str.{IsUtf8-append, IsUtf8-nil, chars-IsAscii, encodes-IsAscii}
use Rattle.comfy_parts.proofs.CallerLemmas.{All-every, IsUtf8-printable, ascii-printable}
use Rattle.comfy_parts.specs.Text.{Text, is_printable_ascii, spaces}
use Rattle.csv.specs.Records.{field_at}
use Rattle.csv_records.specs.Cleaning.{visible_of}
use Rattle.csv_records.specs.Decimals.{byte_of, digits_in, fraction_len, has_mark, is_plain, marks_of, points_of, trailing_spaces, use_of}
use Rattle.csv_records.specs.Number.{from_other, halves, is_neutral, is_outer, is_space, to_other, trimmed}
use Rattle.csv_records.specs.declared.decimals.ColumnMarks.{ColumnMarks}
use Rattle.csv_records.specs.declared.decimals.DecimalMark.{DecimalMark}
use Rattle.csv_records.specs.declared.decimals.DecimalMark.TheVariants.{Comma, Point}
use Rattle.csv_records.specs.declared.decimals.Points.{Points}
use Rattle.csv_tables.proofs.BuiltLemmas.{EachOf, EachShown, each_field, plain_shown}
use Rattle.csv_tables.proofs.FieldLemmas.{IsShortPrintable}
use Rattle.csv_tables.proofs.SpacedLemmas.{spaced-blank}
use Rattle.csv_tables.specs.Cells.{text_in}
use Rattle.csv_tables.specs.Columns.{ColumnsValue, column_at, drawn_columns, seen}
use Rattle.csv_tables.specs.Decimals.{is_narrow, narrow_marks, points_in, spaced}
use Rattle.csv_tables.specs.Drawn.{SelectedValue, selected_of, drawn_rows}
use Rattle.csv_tables.specs.Fields.{field_or_blank}
use Rattle.csv_tables.specs.Markdown.{is_right}
use Rattle.csv_tables.specs.Summaries.{column_fields, summary_of}
use Rattle.csv_tables.specs.declared.options.ColumnPlan.{ColumnPlan}
use Rattle.csv_tables.specs.declared.options.Layout.{Layout}
use Rattle.csv_tables.specs.declared.options.Look.{Look}

-- ---- how long a fraction is

abbrev Printable : Text → Type 0
Printable text = is_printable_ascii text ≡ true

printable-drop : (n : ℕ) (text : Text) → Printable text → Printable (drop n text)
printable-drop zero text own = own
printable-drop (suc n) [] own = own
printable-drop (suc n) (c ∷ cs) own = printable-drop n cs (and_parts (is_in_range 0x20 0x7E c) (is_printable_ascii cs) own).1

printable-take : (n : ℕ) (text : Text) → Printable text → Printable (take n text)
printable-take zero text own = refl
printable-take (suc n) [] own = own
printable-take (suc n) (c ∷ cs) own =
    let both = and_parts (is_in_range 0x20 0x7E c) (is_printable_ascii cs) own in
    ap₂ (λ (a b : Bool). a && b) both.0 (printable-take n cs both.1)

characters : (text : Text) → Printable text → chars text ≡ text
characters text own = chars-IsAscii text (ascii-printable text own)

written : (text : Text) → Printable text → encode_utf8_all text ≡ text
written text own = encodes-IsAscii text (ascii-printable text own)

from_other-length : (p : ℕ → Bool) (xs : List ℕ) → length (from_other p xs) ≤ length xs
from_other-length p xs = let own = length-drop (prefix_len p xs) xs in omega (arith, own)

to_other-length : (p : ℕ → Bool) (xs : List ℕ) → length (to_other p xs) ≤ length xs
to_other-length p xs = let own = length-take (length xs - suffix_len p xs) xs in omega (arith, own)

trimmed-is : (field : Text) → Printable field → trimmed field ≡ to_other is_space (from_other is_space field)
trimmed-is field own =
    let before : encode_utf8_all (from_other is_space (chars field)) ≡ from_other is_space field = ap (λ (cs : List ℕ). encode_utf8_all (from_other is_space cs)) (characters field own) ∙ written (from_other is_space field) inner in
    ap (λ (text : Text). encode_utf8_all (to_other is_space (chars text))) before
    ∙ ap (λ (cs : List ℕ). encode_utf8_all (to_other is_space cs)) (characters (from_other is_space field) inner)
    ∙ written (to_other is_space (from_other is_space field)) (printable-take _ (from_other is_space field) inner)
  where
    inner : Printable (from_other is_space field)
    inner = printable-drop (prefix_len is_space field) field own

digits-length : (field : Text) → Printable field → length (digits_in field) ≤ length field
digits-length field own =
    let text = trimmed field in
    let first = to_other-length is_outer (from_other is_outer text) in
    let second = from_other-length is_outer text in
    let third : length text ≡ length (to_other is_space (from_other is_space field)) = ap length (trimmed-is field own) in
    let fourth = to_other-length is_space (from_other is_space field) in
    let fifth = from_other-length is_space field in
    omega (arith, first, second, third, fourth, fifth)

fraction-length : (mark : ℕ) (text : Text) → fraction_len (halves mark text) ≤ 1 + length text
fraction-length mark text = by_place (position (λ b. b == mark) text)
  where
    by_place : (place : Option ℕ) → fraction_len (option_map (λ at. (take at text, drop (at + 1) text)) place) ≤ 1 + length text
    by_place None = omega arith
    by_place (Some at) = let own = length-drop (at + 1) text in omega (arith, own)

abbrev Narrow : Text → Type 0
Narrow field = is_narrow field ≡ true

narrow-fraction : (mark : DecimalMark) (field : Text) → Narrow field → fraction_len (halves (byte_of mark) (digits_in field)) ≤ 26
narrow-fraction mark field narrow =
    let both = and_parts (nat_le (length field) 25) (is_printable_ascii field) narrow in
    let few = leb-true (length field) 25 both.0 in
    let own = digits-length field both.1 in
    let all = fraction-length (byte_of mark) (digits_in field) in
    omega (arith, few, own, all)

most : (n : ℕ) (xs : List ℕ) (start : ℕ) → start ≤ n → All (λ x. x ≤ n) xs → fold max start xs ≤ n
most n [] start fits all = fits
most n (x ∷ xs) start fits all =
    let own = All-head (λ x. x ≤ n) x xs all in
    most n xs (max start x) (omega (arith, own, fits)) (All-tail (λ x. x ≤ n) x xs all)

each_narrow : (fields : List Text) → list_all is_narrow fields ≡ true → All Narrow fields
each_narrow [] all = All-nil Narrow
each_narrow (field ∷ fields) all =
    let both = and_parts (is_narrow field) (list_all is_narrow fields) all in
    All-cons Narrow field fields both.0 (each_narrow fields both.1)

longest-few : (mark : DecimalMark) (fields : List Text) → All Narrow fields → (use_of mark fields).longest ≤ 26
longest-few mark fields narrow =
    most 26 (map (λ (field : Text). fraction_len (halves (byte_of mark) (digits_in field))) fields) 0 (omega arith) (all fields narrow)
  where
    all : (fields : List Text) → All Narrow fields → All (λ x. x ≤ 26) (map (λ (field : Text). fraction_len (halves (byte_of mark) (digits_in field))) fields)
    all [] own = All-nil (λ x. x ≤ 26)
    all (field ∷ fields) own =
        All-cons (λ x. x ≤ 26) (fraction_len (halves (byte_of mark) (digits_in field))) (map (λ (f : Text). fraction_len (halves (byte_of mark) (digits_in f))) fields) (narrow-fraction mark field (All-head Narrow field fields own))
        (all fields (All-tail Narrow field fields own))

points-few : (fields : List Text) (points : Points) → All Narrow fields → points_of fields ≡ Some points → points.longest ≤ 26
points-few fields points narrow is = by_tests (marks.are_plain && has_mark marks.point marks.comma) (marks.are_plain && has_mark marks.comma marks.point) is
  where
    marks : ColumnMarks
    marks = marks_of fields

    by_tests : (a b : Bool) → (if a then Some (record { mark = Point; longest = marks.point.longest }) else if b then Some (record { mark = Comma; longest = marks.comma.longest }) else None) ≡ Some points → points.longest ≤ 26
    by_tests true b is = let same : marks.point.longest ≡ points.longest = cc is in let few = longest-few Point fields narrow in omega (arith, same, few)
    by_tests false true is = let same : marks.comma.longest ≡ points.longest = cc is in let few = longest-few Comma fields narrow in omega (arith, same, few)
    by_tests false false is = absurd (cc is)

-- ---- a field with spaces after it

spaces_printable : (n : ℕ) → Printable (spaces n)
spaces_printable zero = refl
spaces_printable (suc n) = spaces_printable n

spaced-short : (points : Points) (field : Text) → points.longest ≤ 26 → Narrow field → IsShortPrintable 64 (field ++ spaces (trailing_spaces points field))
spaced-short points field least narrow = (
  list_all-append (is_in_range 0x20 0x7E) field (spaces n) ∙ ap₂ (λ (a b : Bool). a && b) both.1 (spaces_printable n),
  (let few = leb-true (length field) 25 both.0 in
      let all = length-append field (spaces n) in
      let own = length-replicate {A = ℕ} n 0x20 in
      omega (arith, few, all, own, count)),
)
  where
    n : ℕ
    n = trailing_spaces points field

    both : (nat_le (length field) 25 ≡ true) × (is_printable_ascii field ≡ true)
    both = and_parts (nat_le (length field) 25) (is_printable_ascii field) narrow

    count : n ≤ 26
    count = by_neutral (is_neutral field)
      where
        by_neutral : (b : Bool) → (if b then 0 else points.longest - fraction_len (halves (byte_of points.mark) (digits_in field))) ≤ 26
        by_neutral true = omega arith
        by_neutral false = omega (arith, least)

-- ---- columns with a mark

-- a column with a mark has narrow fields
abbrev pub IsPointed : List (List Text) → ColumnPlan → Type 0
IsPointed rows column = (points : Points) → column.points ≡ Some points → (points.longest ≤ 26) × All Narrow (column_fields rows column.position)

by_marks : (fields : List Text) (points : Points) (narrow plain : Bool) → list_all is_narrow fields ≡ narrow → points_in (if narrow && plain then Some (marks_of fields) else None) ≡ Some points → (points.longest ≤ 26) × All Narrow fields
by_marks fields points true true all is = let narrow = each_narrow fields all in (points-few fields points narrow is, narrow)
by_marks fields points true false all is = absurd (cc is)
by_marks fields points false plain all is = absurd (cc is)

by_side : (fields : List Text) (points : Points) (right : Bool) → (if right then points_in (narrow_marks fields) else None) ≡ Some points → (points.longest ≤ 26) × All Narrow fields
by_side fields points true is = by_marks fields points (list_all is_narrow fields) (list_all is_plain fields) refl is
by_side fields points false is = absurd (cc is)

module _ (columns : ColumnsValue) (rows : List (List Text)) where
  abbrev made : ℕ → ColumnPlan
  made p = column_at columns (summary_of (column_fields rows p)) p

  pointed : (p : ℕ) → IsPointed rows (made p)
  pointed p points is = by_side (column_fields rows p) points (is_right (made p).alignment) is

  columns_pointed : All (IsPointed rows) (drawn_columns columns rows)
  columns_pointed = All-map (IsPointed rows) made columns.drawn (All-every (λ (p : ℕ). IsPointed rows (made p)) columns.drawn pointed)

-- fields are visible unchanged if no sequences are kept
seen_so : (fields : List Text) → seen false fields ≡ fields
seen_so [] = refl
seen_so (field ∷ fields) = ap (λ (rest : List Text). field ∷ rest) (seen_so fields)

seen_rows : (rows : List (List Text)) → map (seen false) rows ≡ rows
seen_rows [] = refl
seen_rows (fields ∷ rows) = ap₂ (λ (x : List Text) (xs : List (List Text)). x ∷ xs) (seen_so fields) (seen_rows rows)

-- so the columns of records with a mark have narrow fields
pub content_pointed : (counted : Option ℕ) (layout : Layout) (records : List (List Text)) (content : SelectedValue) → selected_of counted layout records ≡ content → layout.look.has_sequences ≡ false → All (IsPointed content.rows) content.columns
content_pointed counted layout records content is plain =
    subst (λ (c : SelectedValue). All (IsPointed c.rows) c.columns) is
    (subst (λ (rows : List (List Text)). All (IsPointed (drawn_rows layout.selection records)) (drawn_columns layout.columns rows)) (sym same) (columns_pointed layout.columns (drawn_rows layout.selection records)))
  where
    same : map (seen layout.look.has_sequences) (drawn_rows layout.selection records) ≡ drawn_rows layout.selection records
    same = ap (λ (b : Bool). map (seen b) (drawn_rows layout.selection records)) plain ∙ seen_rows (drawn_rows layout.selection records)

-- ---- what columns show

-- a record's field of a column is narrow if all fields of the column are
module _ (position : ℕ) where
  abbrev HasNarrow : List Text → Type 0
  HasNarrow fields = (field : Text) → field_at fields position ≡ Some field → Narrow field

  narrow_there : (rows : List (List Text)) → All Narrow (column_fields rows position) → All HasNarrow rows
  narrow_there [] narrow = All-nil HasNarrow
  narrow_there (fields ∷ rows) narrow = by_field (narrow_there rows) (field_at fields position) refl narrow
    where
      by_field : (All Narrow (column_fields rows position) → All HasNarrow rows) → (o : Option Text) → field_at fields position ≡ o → All Narrow (cons_option o (column_fields rows position)) → All HasNarrow (fields ∷ rows)
      by_field more None is narrow = All-cons HasNarrow fields rows (λ field found. absurd (let gone : ◌≡◌ {A = Option Text} None (Some field) = sym is ∙ found in cc gone)) (more narrow)
      by_field more (Some own) is narrow =
          All-cons HasNarrow fields rows (λ field found. let same : own ≡ field = (let both : Some own ≡ Some field = sym is ∙ found in cc both) in subst Narrow same (All-head Narrow own (column_fields rows position) narrow))
          (more (All-tail Narrow own (column_fields rows position) narrow))

module _ (R : Text → Type 0) (empty : R []) (gives : (text : Text) → IsShortPrintable 64 text → R text) (look : Look) (plain : look.has_sequences ≡ false) where
  text_each : (column : ColumnPlan) (fields : List Text) → ((points : Points) → column.points ≡ Some points → (points.longest ≤ 26) × ((field : Text) → field_at fields column.position ≡ Some field → Narrow field))
      → R (field_or_blank fields column.position) → R (text_in look true column fields)
  text_each column fields known own = subst (λ (b : Bool). R (spaced b column.points (field_or_blank fields column.position))) (sym plain) (by_points column.points refl)
    where
      by_points : (o : Option Points) → column.points ≡ o → R (spaced false o (field_or_blank fields column.position))
      by_points None is = own
      by_points (Some points) is = by_field (field_at fields column.position) refl
        where
          by_field : (o : Option Text) → field_at fields column.position ≡ o → R (spaced false (Some points) (unwrap_or o []))
          by_field None none = subst R (sym (spaced-blank false (Some points))) empty
          by_field (Some field) some = let is_known = known points is in gives _ (spaced-short points field is_known.0 (is_known.1 field some))

  -- a property of fields, and of short texts of printable ASCII, is one of the texts that columns show
  pub each_drawn : (content : SelectedValue) → All (IsPointed content.rows) content.columns → EachOf (All R) content → (is_aligned : Bool) → EachShown R look is_aligned content
  each_drawn content pointed each false = plain_shown R empty look content each
  each_drawn content pointed each true =
      record {
        fields = each;
        shown = λ j other inside k default below.
            let column = slice_index_or content.columns k default in
            let fields = slice_index_or content.rows j other in
            text_each column fields (λ points is. let known = pointed k default below points is in (known.0, narrow_there column.position content.rows known.1 j other inside))
            (each_field R empty fields column.position (each.rows j other inside));
      }

-- ---- texts

-- UTF-8 with spaces after it is UTF-8
text_field : (keeps : Bool) (mark : Option Points) (field : Text) → IsUtf8 field → IsUtf8 (spaced keeps mark field)
text_field keeps None field own = own
text_field keeps (Some points) field own =
    let n = trailing_spaces points (visible_of keeps field) in
    IsUtf8-append field (spaces n) own (IsUtf8-printable (spaces n) (spaces_printable n))

pub text_drawn : (look : Look) (is_aligned : Bool) (column : ColumnPlan) (fields : List Text) → All IsUtf8 fields → IsUtf8 (text_in look is_aligned column fields)
text_drawn look is_aligned column fields own = text_field look.has_sequences (if is_aligned then column.points else None) (field_or_blank fields column.position) (each_field IsUtf8 IsUtf8-nil fields column.position own)
