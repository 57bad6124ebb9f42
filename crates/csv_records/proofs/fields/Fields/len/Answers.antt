use Rattle.std.proofs.Common.{sym, ◌∙◌}
use Rattle.csv.proofs.RecordFacts.{cut-length}
use Rattle.csv_records.proofs.fields.Fields.len.Goals as goal

pub returns : goal.returns
returns c = rw (← c.self.view_is) (c.len.ensures ∙ sym (cut-length 0 c.self.inside.ends c.self.inside.bytes.items))
