use Rattle.std.proofs.Common.{◌≡◌, ◌∙◌, ap, false, string_bytes, sym}
use Rattle.csv_command.proofs.ending.columns_reason.Goals as goal
use Rattle.csv_records.specs.Shown.{shown_text}

pub returns-in_ok-hint-in-NoColumn : goal.returns-in_ok-hint-in-NoColumn
returns-in_ok-hint-in-NoColumn c =
    let word : string_bytes c.in_ok-word-in-NoColumn.word ≡ shown_text false (string_bytes c.in-NoColumn.word) =
    c.in_ok-word-in-NoColumn.ensures.value ∙ ap (shown_text false) c.as_str.ensures.value in
    let hint : string_bytes c.in_ok-hint-in-NoColumn.hint ≡ shown_text false (string_bytes c.in-NoColumn.hint) =
    c.in_ok-hint-in-NoColumn.ensures.value ∙ ap (shown_text false) c.as_str-in-NoColumn.ensures.value in
    rw (c.in-NoColumn.is, sym word, sym hint) c.format.ensures.ok

pub returns-in_ok-name-in-TwoSides : goal.returns-in_ok-name-in-TwoSides
returns-in_ok-name-in-TwoSides c =
    let shown : string_bytes c.in_ok-name-in-TwoSides.name ≡ shown_text false (string_bytes c.in-TwoSides.name) =
    c.in_ok-name-in-TwoSides.ensures.value ∙ ap (shown_text false) c.as_str-in-TwoSides.ensures.value in
    rw (c.in-TwoSides.is, sym shown) c.format-in-TwoSides.ensures.ok
