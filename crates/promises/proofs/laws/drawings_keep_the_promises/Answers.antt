use Rattle.promises.proofs.PromiseLemmas.{keeps_promises}
use Rattle.promises.proofs.laws.drawings_keep_the_promises.Goals as goal

pub returns : goal.returns
returns c = keeps_promises
