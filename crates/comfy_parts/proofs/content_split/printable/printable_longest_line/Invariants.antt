use Rattle.std.proofs.Common.{◌≡◌, length, map, max}
use Rattle.comfy_parts.specs.Laws.{IsPrintable}
use Rattle.comfy_parts.specs.Text.{greatest, measure}
use Rattle.comfy_parts.specs.Wrapping.{wrapped}
use Rattle.comfy_parts.proofs.content_split.printable.printable_longest_line.Given as goal

abbrev pub invariant-loop-rest : goal.invariant-loop-rest
invariant-loop-rest l =
    record {
      plain : IsPrintable l.width l.delimiter l.rest;
      longest : max l.longest (greatest (map measure (wrapped l.width l.delimiter l.rest))) ≡ greatest (map measure (wrapped l.width l.delimiter l.text));
    }

abbrev pub decreases-loop-rest : goal.decreases-loop-rest
decreases-loop-rest l = length l.rest
