pub mod SetLemmas
pub mod KeptLemmas
pub mod DueLemmas
mod EachLemmas
mod EpochLemmas
mod OrderLemmas
mod RunLemmas
