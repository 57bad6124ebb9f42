use Rattle.std.proofs.Common.{◌==◌}
use Rattle.csv_records.proofs.NotTextLemmas.{first_place}
use Rattle.csv_records.proofs.not_text.first_nul.Goals as goal

pub returns : goal.returns
returns c = first_place (λ b. b == 0) c.args.bytes.now c.memchr.result c.memchr.ensures
