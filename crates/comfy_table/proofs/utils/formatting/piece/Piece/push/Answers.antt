use Rattle.std.proofs.Common.{◌≡◌, ◌++◌, ap, ◌∙◌, sym, append_assoc, string_bytes}
use Rattle.std.specs.Prelude.{option_map}
use Rattle.comfy_parts.specs.CellValue.{CellValue}
use Rattle.comfy_parts.specs.Text.{Text, spaces}
use Rattle.comfy_table.specs.Gaps.{spaced, styled_text}
use Rattle.comfy_table.specs.RowCells.{cell_in}
use Rattle.comfy_table.specs.Styling.{styled}
use Rattle.comfy_table.proofs.utils.formatting.piece.Piece.push.Goals as goal

-- six texts, regrouped
joined : (line free gap left text right : Text) → ((line ++ (free ++ (gap ++ left))) ++ text) ++ right ≡ line ++ (free ++ (gap ++ (left ++ (text ++ right))))
joined line free gap left text right =
    append_assoc (line ++ (free ++ (gap ++ left))) text right
    ∙ append_assoc line (free ++ (gap ++ left)) (text ++ right)
    ∙ ap (λ (t : Text). line ++ t) (append_assoc free (gap ++ left) (text ++ right) ∙ ap (λ (t : Text). free ++ t) (append_assoc gap left (text ++ right)))

pub returns-in-Some : goal.returns-in-Some
returns-in-Some c =
    let own = c.self.inside in
    let text = spaced c.in-Some.beside (own.text.now ++ own.end.now) in
    let drawn = styled (cell_in c.in-Some.cell) text in
    let gap = c.args.gap.now in
    let self : spaces own.left ++ (drawn ++ spaces own.right) ≡ c.args.self.now =
    ap (λ styles. spaced (own.left, own.right) (styled_text (option_map (λ s. (cell_in s.0, s.1)) styles) (own.text.now ++ own.end.now))) (sym c.in-Some.is) ∙ c.self.view_is in
    let line : string_bytes c.push_styled.new.line ≡ (string_bytes c.args.line.now ++ (spaces c.args.free ++ (gap ++ spaces own.left))) ++ drawn =
    c.in_ok-push_styled.ensures
    ∙ ap (λ (style : CellValue). string_bytes c.push.new.text ++ styled style text) c.style.ensures
    ∙ ap (λ (t : Text). t ++ drawn) c.in_ok-push.ensures in
    ap (λ (t : Text). t ++ spaces own.right) line
    ∙ joined (string_bytes c.args.line.now) (spaces c.args.free) gap (spaces own.left) drawn (spaces own.right)
    ∙ ap (λ (t : Text). string_bytes c.args.line.now ++ (spaces c.args.free ++ (gap ++ t))) self
