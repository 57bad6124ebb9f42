use Rattle.cluster_width.proofs.ClusterFronts.{fronts_of_clusters}
use Rattle.cluster_width.proofs.WideFrontLemmas.{some_front}
use Rattle.cluster_width.proofs.fronts_of_clusters_are_bounded.Goals as goal

pub returns : goal.returns
returns c = record { most = fronts_of_clusters; least = some_front }
