use Rattle.csv_promises.proofs.MarkdownLemmas.{markdown_for}
use Rattle.csv_promises.proofs.markdown.markdown_output.Goals as goal

pub returns : goal.returns
returns c = markdown_for _ _ _ _ _ _ c.in_ok-invocation.ensures
