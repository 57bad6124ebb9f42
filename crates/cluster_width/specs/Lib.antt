pub mod ClusterSums
