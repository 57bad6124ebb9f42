use Rattle.promises.proofs.TableOfRowsLemmas.{keeps_rows}
use Rattle.promises.proofs.laws.tables_of_rows_keep_the_promises.Goals as goal

pub returns : goal.returns
returns c = keeps_rows
