use Rattle.std.proofs.Common.{◌≡◌, ◌+◌, ◌++◌, map, sum_by}
use Rattle.comfy_parts.specs.Text.{measure, clusters}
use Rattle.unicode_segmentation.specs.Iter.{grapheme_indices_left}
use Rattle.unicode_segmentation.specs.Segments.{with_offsets}
use Rattle.comfy_parts.proofs.content_split.prefix.first_wide_cluster.Given as goal

abbrev pub invariant-loop-at : goal.invariant-loop-at
invariant-loop-at l =
    record {
      left : l.left + sum_by (λ x. measure x.1.now) l.yielded ≡ l.columns;
      rest : map (λ x. (x.0, x.1.now)) l.yielded ++ grapheme_indices_left l.at-iterator ≡ with_offsets 0 (clusters l.text);
    }
