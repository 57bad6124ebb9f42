-- Under a width with room, the output is straight if characters take at most two terminal columns.
use Rattle.std.proofs.Common.{◌≡◌, ◌≤◌, ◌==◌, ◌&&◌, ℕ, ◌+◌, ◌*◌, Bool, true, false, not, List, [], ◌∷◌, Option, chars, length, nat_le, refl, sym, ap, ap₂, ◌∙◌, subst, arith}
use Rattle.std.specs.List.{All, list_all, list_any}
use Rattle.std.specs.Prelude.{encode_utf8, if◌then◌else◌}
use Rattle.std.specs.Str.{IsUtf8}
use Rattle.std.proofs.lemmas.Bool.{and_parts, or_parts}
use lib.Utf8.{encode}
use Rattle.comfy_parts.proofs.Computing.{wrapping}
use Rattle.comfy_parts.specs.Text.{Text, measure}
use Rattle.comfy_table.specs.TableValue.{TableValue}
use Rattle.csv.specs.Records.{AllText}
use Rattle.csv_command.specs.Drawn.{layout_with}
use Rattle.csv_command.specs.declared.arguments.Invocation.{Invocation}
use Rattle.csv_command.specs.declared.arguments.Options.{Options}
use Rattle.csv_command.specs.declared.arguments.OutputContext.{OutputContext}
use Rattle.csv_tables.proofs.CleanCharacterLemmas.{lines_pass}
use Rattle.csv_tables.proofs.FieldControlLemmas.{text_fields}
use Rattle.csv_tables.proofs.TextTableLemmas.{EachLine}
use Rattle.csv_tables.proofs.WholeRowLemmas.{has_lines, text_whole}
use Rattle.csv_tables.specs.Cells.{field_text}
use Rattle.csv_tables.specs.Drawn.{SelectedValue, drawn_rows, is_expanded_for, output_table, selected_of, separated_table}
use Rattle.csv_tables.specs.Laws.{CharactersFitEachWidth, EachText, IsDrawnTable}
use Rattle.csv_tables.specs.declared.options.Layout.{Layout}
use Rattle.csv_tables.specs.declared.options.Look.{Look}
use Rattle.promises.proofs.FittingLemmas.{text_fits}
use Rattle.csv_promises.proofs.ColumnLemmas.{counted}
use Rattle.csv_promises.proofs.DrawnColumnLemmas.{drawn_count, no_rows-is}
use Rattle.csv_promises.proofs.FrameLemmas.{most_columns, places_of}
use Rattle.csv_promises.proofs.StraightLemmas.{fitting_for}
use Rattle.csv_promises.proofs.TwoColumnCharacterLemmas.{FitsTwo, two_fit_each_width}
use Rattle.csv_promises.proofs.TwoColumnTableLemmas.{HasRoomFor, room_by_expansion}
use Rattle.csv_promises.proofs.WrappedCharacterLemmas.{lines_as_wide_as_each, space_measures_one}
use Rattle.csv_promises.specs.Straight.{EachField, FieldsFitTheirColumns}
use Rattle.csv_promises.specs.WideTexts.{HasRoomForTwo, IsOfTwoColumns}
use Rattle.csv_promises.specs.Width.{IsStraightWhereTwoFit, columns_by, columns_in, framed_columns, framed_columns_in}
use Rattle.csv_promises.specs.Written.{IsWritten}

-- ---- characters

all_weaker : (p q : ℕ → Bool) → ((c : ℕ) → p c ≡ true → q c ≡ true) → (cs : List ℕ) → list_all p cs ≡ true → list_all q cs ≡ true
all_weaker p q gives [] all = refl
all_weaker p q gives (c ∷ cs) all =
    let both = and_parts (p c) (list_all p cs) all in ap₂ (λ a b. a && b) (gives c both.0) (all_weaker p q gives cs both.1)

all_both : (p q : ℕ → Bool) (cs : List ℕ) → list_all p cs ≡ true → list_all q cs ≡ true → list_all (λ c. p c && q c) cs ≡ true
all_both p q [] one other = refl
all_both p q (c ∷ cs) one other =
    let first = and_parts (p c) (list_all p cs) one in
    let second = and_parts (q c) (list_all q cs) other in
    ap₂ (λ a b. a && b) (ap₂ (λ a b. a && b) first.0 second.0) (all_both p q cs first.1 second.1)

none_is_all : (p : ℕ → Bool) (cs : List ℕ) → list_any p cs ≡ false → list_all (λ c. not (p c)) cs ≡ true
none_is_all p [] none = refl
none_is_all p (c ∷ cs) none = let both = or_parts (p c) (list_any p cs) none in ap₂ (λ a b. not a && b) both.0 (none_is_all p cs both.1)

abbrev is_no_selector : ℕ → Bool
is_no_selector c = not (c == 0xFE0E)

-- a character takes at most n terminal columns, and isn't U+FE01
abbrev is_within : ℕ → ℕ → Bool
is_within n c = nat_le (measure (encode_utf8 c)) n && not (c == 0xFE01)

-- a character takes at most two terminal columns, and is neither U+FE01 nor U+FE0E
abbrev is_usual : ℕ → Bool
is_usual c = is_within 2 c && is_no_selector c

space_is_usual : is_usual 0x20 ≡ true
unfolding wrapping encode
space_is_usual = refl

replacement_is_usual : is_usual 0xFFFD ≡ true
unfolding wrapping encode
replacement_is_usual = refl

-- ---- texts

usual_fits : (line : Text) → IsUtf8 line → list_all is_usual (chars line) ≡ true → FitsTwo line
usual_fits line utf8 all =
    record {
      two = λ n some. text_fits 2 n some line (all_weaker is_usual (is_within 2) (λ c own. (and_parts (is_within 2 c) (is_no_selector c) own).0) (chars line) all);
      lines = λ w n some fit. text_fits n n (omega arith) line
          (all_both (λ c. nat_le (measure (encode_utf8 c)) n) (λ c. not (c == 0xFE01)) (chars line)
          (lines_as_wide_as_each w 0x20 line utf8 refl (omega (arith, space_measures_one)) (all_weaker is_usual is_no_selector (λ c own. (and_parts (is_within 2 c) (is_no_selector c) own).1) (chars line) all) n fit some)
          (all_weaker is_usual (λ c. not (c == 0xFE01)) (λ c own. (and_parts (nat_le (measure (encode_utf8 c)) 2) (not (c == 0xFE01)) (and_parts (is_within 2 c) (is_no_selector c) own).0).1) (chars line) all));
    }

module _ (look : Look) (unkept : look.has_sequences ≡ false) (none : look.is_markdown ≡ false) where
  field_fits : (field : Text) → IsUtf8 field → IsOfTwoColumns field → EachLine FitsTwo look field
  field_fits field utf8 is =
      let whole = (has_lines (field_text look field) (text_whole look field utf8)).whole in
      let usual = lines_pass is_usual space_is_usual replacement_is_usual look none unkept field utf8 (all_both (is_within 2) is_no_selector (chars field) is.characters (none_is_all (λ c. c == 0xFE0E) (chars field) is.no_selector)) in
      λ k default below. usual_fits _ (whole k default below) (usual k default below)

  fields_fit : (records : List (List Text)) → All AllText records → EachField IsOfTwoColumns records → EachText FitsTwo look records
  fields_fit records text each k default under i other below = field_fits _ (text_fields _ (text k default under) i other below) (each k default under i other below)

-- ---- what a layout draws

-- if the width has room for two terminal columns in each column, each character of such fields has room in its column
module _ (known : Option ℕ) (layout : Layout) (records : List (List Text)) (unkept : layout.look.has_sequences ≡ false) (none : layout.look.is_markdown ≡ false) (texts : All AllText records) where
  pub two_fit : EachField IsOfTwoColumns records → HasRoomForTwo layout.look.width (framed_columns_in layout records) → CharactersFitEachWidth known layout records
  two_fit each (w, wide, room) = two_fit_each_width w known layout records wide unkept (fields_fit layout.look unkept none records texts each) has_room
    where
      all : ℕ
      all = columns_in layout

      has_room : (content : SelectedValue) (table : TableValue) → selected_of known layout records ≡ content → IsDrawnTable layout.look content table → HasRoomFor w layout.look content table
      has_room content table made (has, is_table) =
          let counted = drawn_count layout records known content made in
          let as_many : (e : Bool) → is_expanded_for layout.look content ≡ e → length table.columns ≤ (if e then 2 else places_of content) =
          λ e expanded. subst (λ (t : TableValue). length t.columns ≤ (if e then 2 else places_of content)) (sym (is_table ∙ ap (λ (b : Bool). separated_table has (output_table b layout.look content)) expanded)) (most_columns e has layout.look content) in
          room_by_expansion w all layout.look content table none wide
          (λ expanded. omega (arith, as_many false expanded, counted)) (as_many true) (has, is_table)
          (subst (λ (b : Bool). 1 + 5 * columns_by layout.look.expansion (not b) all ≤ w) (sym (no_rows-is layout records known content made)) room)

-- ---- what is written for arguments

module _ (arguments : List Text) (context : OutputContext) (invocation : Invocation) (input : Text) (records : List (List Text)) (output : Text) (is : IsWritten false arguments context invocation input records output) where
  abbrev options : Options
  options = invocation.options

  pub two_fit_columns : EachField IsOfTwoColumns records → HasRoomForTwo options.look.width (framed_columns options records) → FieldsFitTheirColumns options records
  two_fit_columns each (w, wide, room) known columns found =
      two_fit known (layout_with options columns) records is.unkept is.kind is.are.are_records.are_records.are_text each
      (w, wide, subst (λ (n : ℕ). 1 + 5 * columns_by options.look.expansion (not (length (drawn_rows options.selection records) == 0)) n ≤ w) (sym (counted options records columns found)) room)

  pub wide_for : IsStraightWhereTwoFit options records output
  wide_for each room = fitting_for arguments context invocation input records output is (two_fit_columns each room)
