pub mod ListLemmas
pub mod ChainLemmas
pub mod PushLemmas
pub mod TakeLemmas
pub mod BatchLemmas
