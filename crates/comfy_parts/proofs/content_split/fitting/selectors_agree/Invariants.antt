use Rattle.std.specs.Str.Iter.{chars_rest}
use Rattle.cluster_width.proofs.FittingLemmas.{AgreesAlike}
use Rattle.comfy_parts.proofs.content_split.fitting.selectors_agree.Given as goal

abbrev pub invariant-loop-character : goal.invariant-loop-character
invariant-loop-character l = AgreesAlike l.text (chars_rest l.character-iterator) l.previous
