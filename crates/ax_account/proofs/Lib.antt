pub mod QueueLemmas
pub mod AccountLemmas
