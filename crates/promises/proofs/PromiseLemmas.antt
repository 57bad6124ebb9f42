-- One drawing keeps each promise.
use Rattle.std.proofs.Common.{ℕ, List, Option, refl, ap₂}
use Rattle.comfy_parts.specs.Text.{Text}
use Rattle.comfy_parts.specs.declared.style.table.ContentArrangement.{ContentArrangement}
use Rattle.comfy_table.specs.Drawing.{text_of}
use Rattle.comfy_table.specs.Headline.{IsTableDrawing}
use Rattle.comfy_table.specs.TableValue.{TableValue}
use Rattle.promises.proofs.FittingLemmas.{as_returned, equally_wide, free_stay, narrow, plain_stay, shown_equally_wide, whole}
use Rattle.promises.proofs.FrameLemmas.{fitting_within, over}
use Rattle.promises.proofs.HeadlineLemmas.{columns_are, headline}
use Rattle.promises.proofs.KeptLemmas.{all_texts_are_there, whole_texts_are_there}
use Rattle.promises.proofs.PlacedLemmas.{measured_plain}
use Rattle.promises.proofs.ShownLemmas.{harmless}
use Rattle.promises.specs.Promises.{KeepsPromises}

pub keeps_promises : (table : TableValue) (lines : List Text) → IsTableDrawing table lines → KeepsPromises table lines
keeps_promises table lines drawn =
    record {
      headline = headline table lines drawn;
      straight = λ plain frame each. equally_wide table plain lines drawn (narrow table frame (plain_stay table plain.no_sequences) lines drawn each);
      straight_whole = λ plain frame disabled is. equally_wide table plain lines drawn (whole table frame drawn.widths (measured_plain table plain.no_sequences) disabled is);
      straight_fitting = λ arranged is. (
        columns_are table arranged is lines drawn,
        λ plain frame each. equally_wide table plain lines drawn (as_returned table frame plain.no_sequences arranged is lines drawn each),
      );
      straight_styled = λ free frame each. shown_equally_wide table lines drawn free (narrow table frame (free_stay table free.texts) lines drawn each);
      within = λ w width dynamic is. fitting_within table w lines drawn is.0 is.2 (narrow table is.1 (plain_stay table is.0.no_sequences) lines drawn is.3) dynamic width;
      over = λ w width full is. over table table w lines (ap₂ (λ (kept : Option ℕ) (arrangement : ContentArrangement). record table { set_width = kept; arrangement = arrangement }) width full) drawn is.0 is.1 is.2 is.3;
      fitting_within = λ arranged is. (
        columns_are table arranged is lines drawn,
        λ w width dynamic plain frame free each. fitting_within table w lines drawn plain free (as_returned table frame plain.no_sequences arranged is lines drawn each) dynamic width,
      );
      all_texts = all_texts_are_there table lines drawn;
      whole_texts = whole_texts_are_there table lines drawn;
      harmless = harmless table (text_of lines) (lines, drawn, refl);
    }
