use Rattle.cluster_width.proofs.Fronts.{clusters_bound, fronts_bound}
use Rattle.cluster_width.proofs.clusters_bound_the_measure.Goals as goal

pub returns : goal.returns
returns c = record { whole = clusters_bound; fronts = fronts_bound }
