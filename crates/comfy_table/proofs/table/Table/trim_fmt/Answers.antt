use Rattle.std.proofs.Common.{[], map, string_bytes, ap, ◌++◌, ◌∷◌, ◌∙◌}
use Rattle.std.specs.Prelude.{flat_map}
use Rattle.std.specs.Str.{trim_end}
use Rattle.comfy_parts.specs.Text.{Text}
use Rattle.comfy_table.proofs.OutputLemmas.{last-taken, trimmed-text}
use Rattle.comfy_table.proofs.table.Table.trim_fmt.Goals as goal

pub returns : goal.returns
returns c =
    let drawn = c.in_ok-draw.ensures in
    let old = c.into_text-text.result in
    let new = c.pop.new.self in
    let text = c.into_text-text.ensures ∙ drawn.2 ∙ ap (λ (t : Text). t ++ flat_map (λ (line : Text). trim_end line ++ 0x0A ∷ []) drawn.0) c.new-lines.ensures ∙ trimmed-text drawn.0 in (
      drawn.0,
      drawn.1,
      last-taken (map trim_end drawn.0) (string_bytes old) (string_bytes new) _ _ old.bytes.ok.0 new.bytes.ok.0 text c.pop.ensures.bound c.pop.ensures.ascii_bytes,
    )
