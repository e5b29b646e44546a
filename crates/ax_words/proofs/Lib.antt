pub mod ClapReads
pub mod ClapCommand
pub mod Asked
pub mod Ranges
pub mod Found
