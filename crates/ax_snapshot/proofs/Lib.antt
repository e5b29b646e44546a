pub mod PlaceLemmas
pub mod AddedLemmas
pub mod SnapLemmas
pub mod StateLemmas
