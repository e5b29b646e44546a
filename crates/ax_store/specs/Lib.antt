pub mod Entries
pub mod Held
pub mod Layers
pub mod Merge
