-- A look of which trials change one setting, so that a new setting is added at one place.
use Rattle.std.specs.Prelude.{false, true, None}
use Rattle.comfy_parts.specs.Presets.{ascii_full}
use Rattle.csv_tables.specs.declared.options.Expansion.TheVariants.{Never}
use Rattle.csv_tables.specs.declared.options.Look.{Look}
use Rattle.csv_tables.specs.declared.options.RowSeparators.TheVariants.{Styled}

abbrev pub plain_look : Look
plain_look =
    record {
      style = ascii_full;
      separators = Styled;
      expansion = Never;
      width = None;
      fills_width = false;
      max_height = None;
      has_bold_header = false;
      aligns_decimals = true;
      has_sequences = false;
      is_markdown = false;
    }
