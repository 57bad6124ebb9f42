use Rattle.std.proofs.Common.{◌∙◌, ap, lit<}
use Rattle.std.proofs.lemmas.Str.Pattern.{strip_suffix_char}
use Rattle.comfy_c.proofs.ArgumentLemmas.{without_end}
use Rattle.comfy_c.specs.Calls.{ended}
use Rattle.comfy_c.proofs.arguments.without_end.Goals as goal

pub returns : goal.returns
returns c = λ some.
    ap (λ rest. ended rest.now) c.unwrap_or.ensures
    ∙ without_end c.args.text c.strip_suffix.result (strip_suffix_char 0 c.args.text.now c.strip_suffix.result c.strip_suffix.ensures.cases (lit< tt)) some
