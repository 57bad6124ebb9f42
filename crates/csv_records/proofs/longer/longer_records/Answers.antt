use Rattle.std.proofs.Common.{◌≡◌, ◌-◌, ◌∙◌, List, None, Some, ap, length, nat_lt, rules, take, ℕ}
use Rattle.std.specs.List.{count_by, position}
use Rattle.comfy_parts.specs.Text.{Text}
use Rattle.csv.specs.Reading.{strip_bom}
use Rattle.csv_records.proofs.LongerLemmas.{line_is, none_longer, some_longer}
use Rattle.csv_records.specs.Input.{config_for, line_number}
use Rattle.csv_records.specs.Longer.{field_count, filled_len, skip_records, is_longer, line_of_record}
use Rattle.csv_records.proofs.longer.longer_records.Goals as goal

pub returns : goal.returns
returns c =
    let options = c.args.options.now in
    let text = c.args.text.now in
    let records = c.args.records.now in
    let before = c.in_ok-before.before in
    let other = c.requires.no_spaces in
    let first : c.fields_at-first_fields.result ≡ field_count records 0 = c.fields_at-first_fields.ensures in
    let found : Some before ≡ position (is_longer records) records = search rules in
    let rest : length c.skip_records-from.result.now ≡ length (skip_records (config_for c.args.delimiter options.has_quotes) before (strip_bom c.args.rest.now)) = search rules in
    let line : c.line_before.result ≡ line_of_record options text before =
    c.line_before.ensures ∙ ap (λ (n : ℕ). line_number options.skip (take (length text - n) text)) rest ∙ line_is options text other c.args.delimiter c.args.rest.now before c.requires.byte c.requires.after in
    let counted = c.count_longer.ensures ∙ ap (λ (n : ℕ). count_by (λ (fields : List Text). nat_lt n (filled_len fields)) records) first in
    let others : c.saturating_sub-others.result ≡ count_by (is_longer records) records - 1 = c.saturating_sub-others.ensures ∙ ap (λ (n : ℕ). n - 1) counted in
    let left : c.saturating_sub-2.result ≡ (length records - before) - 1 = search rules in
    rw (line, c.filled_at.ensures, first, others, left) (some_longer options text other records before found)

pub returns-in_err-before : goal.returns-in_err-before
returns-in_err-before c =
    let none : None ≡ position (is_longer c.args.records.now) c.args.records.now = search rules in
    let same : c.from_residual.result ≡ None = search rules in
    rw same (none_longer c.args.options.now c.args.text.now c.requires.no_spaces c.args.records.now none)
