pub mod SlotLemmas
pub mod NumberLemmas
pub mod MadeLemmas
