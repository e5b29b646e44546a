pub mod OutsideLemmas
pub mod NumberLemmas
pub mod WordLemmas
pub mod WindowLemmas
pub mod PieceLemmas
pub mod GatherLemmas
pub mod HeadLemmas
