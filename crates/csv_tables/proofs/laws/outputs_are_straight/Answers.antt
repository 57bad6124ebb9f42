use Rattle.csv_tables.proofs.MarkdownWidthLemmas.{markdown_is_straight, whole_is_straight}
use Rattle.csv_tables.proofs.StraightLemmas.{fitting_is_straight, narrow_is_straight}
use Rattle.csv_tables.proofs.laws.outputs_are_straight.Goals as goal

pub returns-clause-whole : goal.returns-clause-whole
returns-clause-whole c = whole_is_straight

pub returns-clause-markdown : goal.returns-clause-markdown
returns-clause-markdown c = markdown_is_straight

pub returns-clause-narrow : goal.returns-clause-narrow
returns-clause-narrow c = narrow_is_straight

pub returns-clause-characters_fit : goal.returns-clause-characters_fit
returns-clause-characters_fit c = fitting_is_straight
