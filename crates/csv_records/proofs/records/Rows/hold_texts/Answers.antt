use Rattle.std.proofs.Common.{All, subst}
use Rattle.csv.specs.Records.{AllText, fields_of}
use Rattle.csv_records.proofs.PlaceLemmas.{all_texts}
use Rattle.csv_records.proofs.records.Rows.hold_texts.Goals as goal

pub returns : goal.returns
returns c = subst (All AllText) c.self.view_is (all_texts (fields_of c.self.inside.fields.now) c.self.inside.places.now c.self.invariant.1)
