use Rattle.std.proofs.Common.{◌≡◌, ◌≤◌, List, ◌∷◌, ℕ, Some, arith, codes, length, map, max, refl, string_bytes, subst, true}
use Rattle.std.specs.List.{All}
use Rattle.std.specs.Prelude.{decimal}
use Rattle.std.proofs.lemmas.List.Elements.{All-cons, All-from_recursion, All-map, All-weaker}
use Rattle.std.proofs.lemmas.Result.{IfOk-weaker}
use Rattle.comfy_parts.specs.CellValue.{RowValue, plain_cell}
use Rattle.comfy_parts.specs.Presets.{utf8_full}
use Rattle.comfy_parts.specs.Text.{Text, is_printable_ascii, measure}
use Rattle.comfy_parts.specs.declared.style.table.ContentArrangement.TheVariants.{Dynamic}
use Rattle.comfy_table.specs.Headline.{IsTableDrawing}
use Rattle.comfy_table.specs.TableValue.{TableValue}
use Rattle.promises.specs.Rows.{HaveCells, IsNarrowCell, IsNarrowRow}
use Rattle.example_proved.specs.Summary.{HasPlainName, heading, row_of}
use Rattle.example_proved.specs.declared.summary.Measurement.{Measurement}
use Rattle.example_proved.proofs.summary.summary.Goals as goal

-- the row of a measurement has three cells
three_cells : (measurements : List Measurement) → HaveCells 3 (heading ∷ map row_of measurements)
three_cells measurements =
    All-cons HasThree heading (map row_of measurements) (omega arith) (All-map HasThree row_of measurements (λ k default below. omega arith))
  where
    HasThree : RowValue → Type 0
    HasThree row = length row.cells ≤ 3

-- the characters take one terminal column each if names are printable
narrow : ((text : Text) → is_printable_ascii text ≡ true → IsNarrowCell (plain_cell text)) → ((n : ℕ) → is_printable_ascii (decimal n) ≡ true)
    → (measurements : List Measurement) → All HasPlainName measurements → All IsNarrowRow (heading ∷ map row_of measurements)
narrow of_text of_number measurements names =
    All-cons IsNarrowRow heading (map row_of measurements) (All-from_recursion IsNarrowCell heading.cells (of_text (codes "Benchmark") refl, (of_text (codes "ns") refl, (of_text (codes "Runs") refl, tt))))
    (All-map IsNarrowRow row_of measurements
    (All-weaker HasPlainName (λ one. IsNarrowRow (row_of one))
    (λ one name. All-from_recursion IsNarrowCell (row_of one).cells (of_text (string_bytes one.name) name, (of_text (decimal one.nanos) (of_number one.nanos), (of_text (decimal one.runs) (of_number one.runs), tt)))) measurements names))

pub returns : goal.returns
returns c =
    let w = c.args.width in
    let ms = c.args.measurements.items in
    let rows = narrow c.printable_texts_are_narrow.ensures c.numbers_are_printable.ensures ms in
    IfOk-weaker c.lines.result _ _
    (λ lines drawing.
    let drawn = subst (λ (t : TableValue). IsTableDrawing t lines) c.in_ok-table.ensures drawing in
    let keeps = c.tables_of_rows_keep_the_promises.ensures utf8_full Dynamic (Some w) heading (map row_of ms) lines (c.frame_characters_make_plain_styles.ensures utf8_full refl) drawn in
    record {
      equally_wide = λ names. keeps.straight (rows names);
      fits = λ enough names.
          All-weaker (λ line. measure line ≤ max w 13) (λ line. measure line ≤ w) (λ line is. omega (arith, is, enough)) lines (keeps.within w 3 refl refl (rows names) (three_cells ms) (omega arith));
      shows_all = keeps.all_texts;
    })
    c.lines.ensures.headline
