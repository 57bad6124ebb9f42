use Rattle.std.proofs.lemmas.Str.Ascii.{trim_ascii_start_is}
use Rattle.csv_records.proofs.not_text.without_front.Goals as goal

pub returns : goal.returns
returns c = trim_ascii_start_is _ _ c.trim_ascii_start.ensures.value
