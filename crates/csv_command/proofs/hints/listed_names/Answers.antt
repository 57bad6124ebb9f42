use Rattle.std.proofs.Common.{◌≡◌, ◌++◌, ℕ, ap, rules, string_bytes, sym, ◌∙◌, append_assoc}
use Rattle.comfy_parts.specs.Text.{Text}
use Rattle.csv_command.specs.Hints.{listed_part, separator_before}
use Rattle.csv_tables.proofs.LineLemmas.{one_place_more}
use Rattle.csv_command.proofs.hints.listed_names.Goals as goal

pub loop-place-preserved : goal.loop-place-preserved
loop-place-preserved c =
    let place = c.loop-place.place in
    let before : Text = separator_before c.min-parts.result place in
    let part : Text = listed_part c.args.names.now c.args.count place in
    let one : ℕ → Text = λ at. separator_before c.min-parts.result at ++ listed_part c.args.names.now c.args.count at in
    let pushed : string_bytes c.push_str-in-loop-place.new.self ≡ (string_bytes c.loop-place.text ++ before) ++ part = search rules in
    pushed ∙ append_assoc (string_bytes c.loop-place.text) before part ∙ ap (λ (t : Text). t ++ one place) c.loop-place.invariant ∙ sym (one_place_more one place)
