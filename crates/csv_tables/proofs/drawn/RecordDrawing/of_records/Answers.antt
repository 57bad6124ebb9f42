use Rattle.std.proofs.Common.{◌≡◌, ◌++◌, [], Some, ap, arith, string_bytes, sym, ◌∙◌}
use Rattle.std.proofs.lemmas.Bool.Decides.{nat_tests}
use Rattle.std.proofs.lemmas.List.{nil_from_length}
use Rattle.comfy_parts.specs.Text.{Text}
use Rattle.csv_tables.specs.Pieces.{rest_of}
use Rattle.csv_tables.proofs.drawn.RecordDrawing.of_records.Goals as goal

pub returns-then-is_empty : goal.returns-then-is_empty
returns-then-is_empty c =
    let none : string_bytes c.args.beginning ≡ [] = nil_from_length (string_bytes c.args.beginning) (grind (arith, nat_tests, c.is_empty.ensures, c.if-is_empty.true)) in
    sym c.in_ok-ready.ensures.all ∙ ap (λ (t : Text). t ++ rest_of (Some c.args.left)) (sym none)
