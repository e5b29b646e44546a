pub mod RangeLemmas
pub mod KeyLemmas
