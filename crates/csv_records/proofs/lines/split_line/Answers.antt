use Rattle.csv_records.proofs.LineLemmas.{boundary_after, boundary_before}
use Rattle.csv_records.proofs.lines.split_line.Goals as goal

pub split_at-requires : goal.split_at-requires
split_at-requires c = rw (c.line_len.ensures, c.as_bytes.ensures.value) (boundary_before c.args.text.now)

pub split_at-requires-2 : goal.split_at-requires-2
split_at-requires-2 c = rw (c.end_len.ensures, c.as_bytes-2.ensures.value) (boundary_after c.split_at.result.1.now (rw c.as_bytes-2.ensures.value at c.as_bytes-2.ensures.utf8))
