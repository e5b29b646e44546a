pub mod Ids
pub mod Slots
pub mod Released
pub mod Sound
pub mod Lends
