use Rattle.csv_records.proofs.number.is_dash.Goals as goal

pub returns : goal.returns
unfolding lib.Utf8.encode
returns c = c.is_among.ensures
