-- Blank texts are drawn as empty ones.
use Rattle.std.proofs.Common.{Bool, true, false, []}
use Rattle.std.specs.Prelude.{if◌then◌else◌}
use Rattle.comfy_parts.specs.Text.{Text}
use Rattle.csv_tables.specs.Cells.{is_blank, unless_blank}

-- a property of a text and of the empty text is one of the text as it is drawn
pub unless_blank-keeps : (P : Text → Type 0) (text : Text) → P [] → P text → P (unless_blank text)
unless_blank-keeps P text empty own = by_test (is_blank text)
  where
    by_test : (b : Bool) → P (if b then [] else text)
    by_test true = empty
    by_test false = own
