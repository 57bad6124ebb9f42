use Rattle.std.proofs.Common.{All, Bool, List, Option, Some, true, false, ap, subst, [], ◌∷◌}
use Rattle.std.proofs.lemmas.List.Elements.{All-head}
use Rattle.std.specs.Prelude.{unwrap_or, if◌then◌else◌}
use Rattle.csv.specs.Records.{AllText}
use Rattle.comfy_parts.specs.Text.{Text}
use Rattle.csv_tables.specs.Drawn.{names_of}
use Rattle.csv_tables.proofs.selected.SelectedRecords.hold_texts.Goals as goal

names_text : (is_headed has_header : Bool) (records : List (List Text)) → All AllText records → AllText (unwrap_or (if is_headed then Some (unwrap_or (names_of has_header records) []) else names_of has_header records) [])
unfolding AllText
names_text true true [] texts = tt
names_text false true [] texts = tt
names_text true true (first ∷ rest) texts = All-head AllText first rest texts
names_text false true (first ∷ rest) texts = All-head AllText first rest texts
names_text true false records texts = tt
names_text false false records texts = tt

pub returns-clause-names : goal.returns-clause-names
returns-clause-names c =
    subst (λ (names : Option (List Text)). AllText (unwrap_or names [])) (ap (λ v. v.names) c.self.view_is)
    (names_text c.self.inside.is_headed c.self.inside.has_header c.self.inside.records (subst (All AllText) c.rows.ensures c.hold_texts.ensures))
