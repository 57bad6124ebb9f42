use Rattle.std.proofs.Common.{◌≡◌, ◌++◌, ◌∷◌, [], rules}
use Rattle.csv.specs.Records.{fields_of}
use Rattle.csv_records.proofs.PlaceLemmas.{last_place, one_more}
use Rattle.csv_records.proofs.records.push_record.Goals as goal

pub returns-clause-records : goal.returns-clause-records
returns-clause-records c =
    let more = fields_of c.args.more.now in
    let had = fields_of c.args.fields.now in
    let pushed : fields_of c.push_record.new.self ≡ had ++ more = search rules in
    let items : c.push.new.self.items ≡ c.args.places.now.items ++ last_place had more ∷ [] = search rules in
    rw (pushed, items) (one_more had more c.args.places.now.items c.requires.within)
