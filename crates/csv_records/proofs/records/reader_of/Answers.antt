use Rattle.std.proofs.Common.{inr, ◌∙◌}
use Rattle.csv_records.proofs.records.reader_of.Goals as goal

pub returns : goal.returns
returns c =
    let fr = c.from_reader.ensures in
    record {
      trim = rw (c.flexible.ensures, c.has_headers.ensures, c.quoting.ensures, c.delimiter.ensures) at fr.trim ∙ c.new.ensures.trim;
      ready = inr (inr (rw (c.flexible.ensures, c.has_headers.ensures) at fr.has_headers, fr.headers));
      flexible = rw c.flexible.ensures at fr.flexible;
      config = rw (c.flexible.ensures, c.has_headers.ensures, c.quoting.ensures, c.delimiter.ensures, c.new.ensures.config) at fr.config;
      source = rw c.as_bytes.ensures.value at fr.source;
      state = fr.state;
    }
