use Rattle.comfy_parts.proofs.ClusterLemmas.{ends-head}
use Rattle.comfy_parts.proofs.content_split.prefix.end_by_clusters.Goals as goal

pub returns-in-Some : goal.returns-in-Some
returns-in-Some c = ends-head _ _ _ _ _ c.utf8.word c.in-Some.ensures.some
