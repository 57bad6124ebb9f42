-- The promises that one drawing of a table keeps.
-- Source: this library's own.
use Rattle.std.specs.Prelude.{◌≡◌, ℕ, List, Some}
use Rattle.comfy_parts.specs.Text.{Text}
use Rattle.comfy_parts.specs.declared.style.table.ContentArrangement.TheVariants.{Dynamic, DynamicFullWidth}
use Rattle.comfy_table.specs.Drawing.{text_of}
use Rattle.comfy_table.specs.Parts.{ArrangedValue, IsArrangedTable}
use Rattle.comfy_table.specs.TableValue.{TableValue}
use Rattle.promises.specs.Headline.{IsHeadline}
use Rattle.promises.specs.Kept.{ShowAllTexts, ShowWholeTexts}
use Rattle.promises.specs.Shown.{HasNoControls, IsHarmless}
use Rattle.promises.specs.Straight.{AreShownStraight, AreStraight, AreStraightWhereCharactersFit, AreStraightWhole}
use Rattle.promises.specs.Widths.{FillWidth, KeepToWidth, KeepToWidthWhereCharactersFit}

-- the lines keep each promise on a table's lines
pub record KeepsPromises (table : TableValue) (lines : List Text) : Type 0 where
  pub headline : IsHeadline table lines
  pub straight : AreStraight table lines
  pub straight_whole : AreStraightWhole table lines
  pub straight_fitting : (arranged : ArrangedValue) → IsArrangedTable table arranged
      → AreStraightWhereCharactersFit table arranged.infos lines
  pub straight_styled : AreShownStraight table lines
  pub within : (w : ℕ) → table.set_width ≡ Some w → table.arrangement ≡ Dynamic
      → KeepToWidth table w lines
  pub over : (w : ℕ) → table.set_width ≡ Some w → table.arrangement ≡ DynamicFullWidth
      → FillWidth table w lines
  pub fitting_within : (arranged : ArrangedValue) → IsArrangedTable table arranged
      → KeepToWidthWhereCharactersFit table arranged.infos lines
  pub all_texts : ShowAllTexts table lines
  pub whole_texts : ShowWholeTexts table lines
  pub harmless : HasNoControls table → IsHarmless (text_of lines)
