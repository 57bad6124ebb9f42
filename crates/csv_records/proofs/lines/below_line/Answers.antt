use Rattle.csv_records.proofs.LineLemmas.{line_len-le}
use Rattle.csv_records.proofs.lines.below_line.Goals as goal

pub split_at-requires : goal.split_at-requires
split_at-requires c = rw c.line_len.ensures (line_len-le c.args.bytes.now)
