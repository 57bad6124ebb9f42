use Rattle.csv_records.specs.Input.{config_for}
use Rattle.csv_records.proofs.CountLemmas.{after_counted}
use Rattle.csv_records.proofs.longer.skip_record.Goals as goal

pub returns-in-Some : goal.returns-in-Some
returns-in-Some c = after_counted (config_for c.args.delimiter c.args.has_quotes) c.args.bytes.now _ c.in-Some.ensures

pub returns-in-None : goal.returns-in-None
returns-in-None c = after_counted (config_for c.args.delimiter c.args.has_quotes) c.args.bytes.now _ c.in-None.ensures
