pub mod TestedLemmas
pub mod RunLemmas
pub mod DeviceLemmas
