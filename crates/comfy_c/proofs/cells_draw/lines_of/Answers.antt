use Rattle.std.proofs.Common.{◌≡◌, ◌++◌, ◌∙◌, [], ap, inl, rules, string_bytes}
use Rattle.std.proofs.lemmas.Str.{IsUtf8-string_bytes}
use Rattle.comfy_parts.specs.Text.{Text}
use Rattle.comfy_table.specs.Drawing.{drawing_of_infos, terminated_text_of}
use Rattle.comfy_table.specs.TableValue.{TableValue}
use Rattle.comfy_c.proofs.cells_draw.lines_of.Goals as goal

pub returns-clause-drawn : goal.returns-clause-drawn
returns-clause-drawn c =
    let lent : TableValue = c.in_ok-lent.lent in
    let infos = c.in_ok-arranged.arranged.infos in
    let arranged = c.in_ok-arranged.ensures.drawing c.in_ok-lent.ensures.rows in
    let text = c.push_table.new.text in
    let none : string_bytes c.new-text.result ≡ [] = search rules in
    let empty : string_bytes c.reserve.new.self ≡ [] = c.reserve.ensures.bytes ∙ none in
    let written : string_bytes text ≡ terminated_text_of (drawing_of_infos lent infos) =
    c.in_ok-push_table.ensures
    ∙ ap (λ (begun : Text). begun ++ terminated_text_of (drawing_of_infos c.in_ok-arranged.arranged.contents infos)) empty
    ∙ ap (λ (table : TableValue). terminated_text_of (drawing_of_infos table infos)) c.in_ok-arranged.ensures.contents in
    record {
      is_text = IsUtf8-string_bytes text;
      table = lent;
      described = c.in_ok-lent.ensures.table;
      drawn = inl (drawing_of_infos lent infos, arranged.headline, inl (c.requires, written));
    }
