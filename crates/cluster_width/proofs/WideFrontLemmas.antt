-- A cluster with a prefix that measures two terminal columns more: a watch, a zero width joiner and a wavy dash, before
-- U+FE0F.
use Rattle.std.proofs.Common.{◌≡◌, ◌+◌, [], ◌∷◌, ◌++◌, refl}
use Rattle.std.specs.Prelude.{encode_utf8_all}
use Rattle.unicode_segmentation.proofs.Computing.{unicode_segmentation}
use Rattle.unicode_width.proofs.Computing.{unicode_width}
use Rattle.cluster_width.specs.ClusterSums.{SomeFrontTakesTwoMore, Text, clusters, measure}

abbrev front : Text
front = encode_utf8_all (0x231A ∷ 0x200D ∷ 0x3030 ∷ [])

abbrev rest : Text
rest = encode_utf8_all (0xFE0F ∷ [])

is_one_cluster : clusters (front ++ rest) ≡ (front ++ rest) ∷ []
unfolding unicode_segmentation unicode_width
is_one_cluster = refl

takes_two_more : measure front ≡ measure (front ++ rest) + 2
unfolding unicode_segmentation unicode_width
takes_two_more = refl

pub some_front : SomeFrontTakesTwoMore
some_front =
    record {
      front = front;
      rest = rest;
      whole_characters = (0x231A ∷ 0x200D ∷ 0x3030 ∷ [], (refl, refl));
      one_cluster = is_one_cluster;
      two_more = takes_two_more;
    }
