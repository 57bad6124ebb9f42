use Rattle.std.proofs.Common.{◌≡◌, ℕ, [], ◌++◌, ◌&&◌, Bool, List, string_bytes, ap, sym, ◌∙◌, nat_lt}
use Rattle.std.specs.List.{repeat}
use Rattle.std.specs.Prelude.{encode_utf8, if◌then◌else◌}
use Rattle.comfy_parts.specs.CellValue.{ColumnInfo, info_width}
use Rattle.comfy_parts.specs.Text.{Text}
use Rattle.comfy_table.proofs.FrameLemmas.{between_borders-after}
use Rattle.comfy_parts.proofs.CallerLemmas.{joined_all, joined_more}
use Rattle.std.proofs.lemmas.Simd.{map-map}
use Rattle.comfy_table.proofs.SpaceLemmas.{last-pushed}
use Rattle.comfy_table.specs.TableValue.{TableValue}
use Rattle.comfy_parts.specs.Borders.{draws_left_border, draws_right_border, draws_vertical_lines}
use Rattle.comfy_parts.specs.declared.style.table_style.TableStyle.{TableStyle}
use Rattle.comfy_table.specs.Frame.{between_borders, character}
use Rattle.comfy_table.proofs.utils.formatting.borders.push_frame_line.Goals as goal

pub loop-position-preserved : goal.loop-position-preserved
loop-position-preserved c =
    let vertical = c.draws_vertical_lines-vertical.result in
    let line = c.args.line.now in
    let junction = character line.junction in
    let column = c.index-columns-position.result in
    let bordered : string_bytes c.push_border-in-loop-position.new.text ≡ string_bytes c.loop-position.text ++ (if vertical && nat_lt 0 c.loop-position.position then junction else []) =
    c.in_ok-push_border-2.ensures ∙ ap (λ (b : Bool). string_bytes c.loop-position.text ++ (if b then junction else [])) c.needs_junction.ensures in
    c.in_ok-push_repeated.ensures
    ∙ ap (λ (fill : ℕ). string_bytes c.push_border-in-loop-position.new.text ++ repeat c.width.result (encode_utf8 fill)) c.unwrap_or.ensures
    ∙ ap (λ (width : ℕ). string_bytes c.push_border-in-loop-position.new.text ++ repeat width (character line.fill)) c.width.ensures
    ∙ ap (λ (p : ℕ × ColumnInfo). string_bytes c.push_border-in-loop-position.new.text ++ repeat (info_width p.1) (character line.fill)) c.column.view_is
    ∙ ap (λ (t : Text). t ++ repeat (info_width column.1) (character line.fill)) bordered
    ∙ joined_more (λ (p : ℕ × ColumnInfo). repeat (info_width p.1) (character line.fill)) vertical junction c.args.columns.now c.loop-position.position column (string_bytes c.push_border.new.text) (string_bytes c.loop-position.text) c.loop-position-test.true
    c.index-columns-position.is c.loop-position.invariant

pub returns : goal.returns
returns c =
    let of_table : (asks : TableStyle → Bool) → asks c.table.inside.style ≡ asks c.args.table.now.style = λ asks. ap (λ (t : TableValue). asks t.style) c.table.view_is in
    let vertical = c.draws_vertical_lines-vertical.result in
    let line = c.args.line.now in
    let style = c.args.table.now.style in
    let fill = λ (width : ℕ). repeat width (character line.fill) in
    let fills = λ (p : ℕ × ColumnInfo). fill (info_width p.1) in
    let columns = c.args.columns.now in
    let start = string_bytes c.args.text.now in
    let inside = joined_all fills (if vertical then character line.junction else []) columns c.loop-position.position (string_bytes c.push_border.new.text) (string_bytes c.loop-position.text) c.loop-position-test.false c.loop-position.invariant in
    last-pushed c.push_border-2.result (string_bytes c.push_border-2.new.text) (string_bytes c.loop-position.text) (if c.draws_right_border.result then character line.right else []) _
    (λ pushed.
    between_borders-after style line.left line.junction line.right fills columns
    c.draws_left_border.result vertical c.draws_right_border.result
    start (string_bytes c.push_border.new.text) (string_bytes c.loop-position.text) (string_bytes c.push_border-2.new.text)
    (c.draws_left_border.ensures ∙ of_table draws_left_border) (c.draws_vertical_lines-vertical.ensures ∙ of_table draws_vertical_lines) (c.draws_right_border.ensures ∙ of_table draws_right_border)
    c.in_ok-push_border.ensures inside pushed
    ∙ ap (λ (pieces : List Text). start ++ between_borders style line.left line.junction line.right pieces) (sym (map-map fill (λ (p : ℕ × ColumnInfo). info_width p.1) columns)))
    c.push_border-2.ensures
