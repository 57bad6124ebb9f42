use Rattle.std.proofs.Common.{◌≡◌, None, ap, sym, unwrap_or, ◌∙◌}
use Rattle.comfy_parts.specs.Presets.{named_presets, utf8_full}
use Rattle.csv_command.specs.Styles.{own_styles, style_within}
use Rattle.csv_command.proofs.styles.named_style.Goals as goal

pub returns-in-None : goal.returns-in-None
returns-in-None c =
    let name = c.args.name.now in
    let none : style_within own_styles name ≡ None = sym (c.style_within.ensures ∙ ap (λ s. style_within s name) c.own_styles.ensures) ∙ c.in-None.is in
    let preset : c.style_within-in-None.result ≡ style_within named_presets name = c.style_within-in-None.ensures in
    rw none (c.unwrap_or.ensures ∙ ap (λ o. unwrap_or o utf8_full) preset)
