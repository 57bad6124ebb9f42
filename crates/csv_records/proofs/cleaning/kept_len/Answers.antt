use Rattle.std.proofs.lemmas.Str.{IsCharBoundary-start}
use Rattle.csv_records.proofs.cleaning.kept_len.Goals as goal

pub returns-else-keeps_sequences-clause-boundary : goal.returns-else-keeps_sequences-clause-boundary
returns-else-keeps_sequences-clause-boundary c = IsCharBoundary-start c.args.text.now c.utf8.text
