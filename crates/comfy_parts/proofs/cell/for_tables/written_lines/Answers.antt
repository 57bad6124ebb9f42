use Rattle.std.proofs.Common.{◌≡◌, map, ap, sym, ◌∙◌, arith, string_bytes}
use Rattle.std.proofs.lemmas.List.{length-map}
use Rattle.comfy_parts.specs.Text.{measure}
use Rattle.comfy_parts.specs.VisibleText.{visible_text}
use Rattle.comfy_parts.specs.VisibleLines.{CellLine, line_texts}
use Rattle.comfy_parts.specs.Cursor.{open_at_end, visible_ahead}
use Rattle.comfy_parts.proofs.WrittenLemmas.{cell-written, next_text, visible_at, text_at, texts_written, width_at}
use Rattle.comfy_parts.proofs.cell.for_tables.written_lines.Goals as goal

pub push_lines-requires-clause-visible : goal.push_lines-requires-clause-visible
push_lines-requires-clause-visible c =
    let texts = c.text_lines-texts.result.now in
    let visibles = c.visible.result.0.now in
    let same : map string_bytes visibles ≡ map visible_text (map string_bytes texts) = c.visible.ensures.texts ∙ ap (λ v. map visible_text v.text_lines) c.cell.view_is ∙ ap (map visible_text) (sym c.text_lines-texts.ensures.value) in
    c.as_str-visible.ensures.value
    ∙ visible_at string_bytes texts visibles c.loop-position.position c.index-texts-position.result c.index-visible-position.result same c.loop-position-test.true c.index-texts-position.is c.index-visible-position.is
    ∙ ap visible_text (sym c.as_str.ensures.value)
    ∙ ap visible_ahead (sym c.in_ok-begin.ensures)

pub push_lines-requires-clause-width : goal.push_lines-requires-clause-width
push_lines-requires-clause-width c =
    let texts = c.text_lines-texts.result.now in
    let visibles = c.visible.result.0.now in
    let same : map string_bytes visibles ≡ map visible_text (map string_bytes texts) = c.visible.ensures.texts ∙ ap (λ v. map visible_text v.text_lines) c.cell.view_is ∙ ap (map visible_text) (sym c.text_lines-texts.ensures.value) in
    let measured = c.visible.ensures.widths ∙ ap (map measure) (sym c.visible.ensures.texts) in
    width_at string_bytes texts visibles c.visible.result.1.now c.loop-position.position c.index-visible-position.result same measured c.loop-position-test.true c.index-visible-position.is
    ∙ ap measure (sym c.as_str-visible.ensures.value)

pub loop-position-preserved : goal.loop-position-preserved
loop-position-preserved c =
    let w = c.args.info.now.content_width in
    let d = c.args.delimiter in
    let texts = c.text_lines-texts.result.now in
    let position = c.loop-position.position in
    let many = length-map texts string_bytes in
    next_text w d (map string_bytes texts) (map string_bytes c.loop-position.lines.items) (map string_bytes c.push_lines.new.lines.items) position c.as_str.result.now c.loop-position.cursor c.begin.new.self c.push_lines.new.cursor
    (omega (arith, many, c.loop-position-test.true))
    (text_at string_bytes texts position c.index-texts-position.result c.loop-position-test.true c.index-texts-position.is ∙ sym c.as_str.ensures.value)
    c.in_ok-begin.ensures c.in_ok-push_lines.ensures.lines c.in_ok-push_lines.ensures.stays
    ∙ c.loop-position.invariant

pub returns : goal.returns
returns c =
    let w = c.args.info.now.content_width in
    let d = c.args.delimiter in
    let texts = c.text_lines-texts.result.now in
    let many = length-map texts string_bytes in
    sym (texts_written w d (map string_bytes texts) (map string_bytes c.loop-position.lines.items) c.loop-position.position (open_at_end c.loop-position.cursor) (omega (arith, many, c.loop-position-test.false)))
    ∙ c.loop-position.invariant
    ∙ cell-written w d (map string_bytes texts)
    ∙ ap (λ ts. map (λ (line : CellLine). line.written) (line_texts w d ts)) c.text_lines-texts.ensures.value
