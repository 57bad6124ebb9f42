use Rattle.std.proofs.Common.{◌≡◌, ◌∙◌, ◌&&◌, ap, rules, tests}
use Rattle.csv_tables.specs.Kinds.{joined_kind, kind_of}
use Rattle.csv_tables.specs.NoWrap.{is_nowrap}
use Rattle.csv_tables.specs.declared.summary.ColumnSummary.{ColumnSummary}
use Rattle.csv_tables.proofs.SummaryLemmas.{number_more}
use Rattle.csv_tables.proofs.summary.ColumnSummary.add_number.Goals as goal
use Rattle.csv_tables.proofs.summary.ColumnSummary.add_number.Goals.{then-self, else-self}

pub returns : goal.returns
returns c is fields same =
    let field = c.args.field.now in
    let kind : c.kind_of-kind.result ≡ kind_of field = c.kind_of-kind.ensures is in
    let unbroken : c.if-self.self ≡ (c.args.self.now.are_nowrap && is_nowrap field) = elim c.if-self.branch [ then-self w ↦ search (rules, tests) | else-self w ↦ search (rules, tests) ] in
    number_more fields field c.args.self.now _ same (c.joined_kind-self.ensures ∙ ap (joined_kind c.args.self.now.kind) kind) (c.add_marks.ensures is fields (ap (λ (s : ColumnSummary). s.marks) same)) unbroken
