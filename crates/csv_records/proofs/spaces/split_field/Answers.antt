use Rattle.csv_records.proofs.SpacesLemmas.{boundary_after_gap, boundary_before_gap}
use Rattle.csv_records.proofs.spaces.split_field.Goals as goal

pub split_at-requires : goal.split_at-requires
split_at-requires c = rw (c.field_len.ensures, c.as_bytes.ensures.value) (boundary_before_gap c.args.line.now)

pub split_at-requires-2 : goal.split_at-requires-2
split_at-requires-2 c = rw (c.gap_len.ensures, c.as_bytes-2.ensures.value) (boundary_after_gap c.split_at.result.1.now (rw c.as_bytes-2.ensures.value at c.as_bytes-2.ensures.utf8))
