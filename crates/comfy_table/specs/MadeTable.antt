-- The table that is made from parts.
-- Source: this library's own.
use Rattle.comfy_table.specs.TableValue.{TableValue, indicator_of}
use Rattle.comfy_table.specs.declared.table.parts.TableParts.{TableParts}

abbrev pub table_of_parts : TableParts → TableValue
table_of_parts parts =
    record {
      columns = parts.columns.items;
      header = parts.header;
      rows = parts.rows.items;
      style = parts.style;
      arrangement = parts.arrangement;
      delimiter = parts.delimiter;
      indicator = indicator_of parts.indicator;
      set_width = parts.set_width;
      terminal = parts.terminal;
      no_tty = parts.no_tty;
      use_stderr = parts.use_stderr;
      enforce_styling = parts.enforce_styling;
      style_text_only = parts.style_text_only;
      custom_styling = parts.custom_styling;
    }
