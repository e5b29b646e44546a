pub mod CellLemmas
pub mod RisingLemmas
pub mod EntryLemmas
