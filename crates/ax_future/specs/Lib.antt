pub mod Sizes
pub mod Talks
pub mod Nodes
pub mod Ways
pub mod Moves
pub mod Least
pub mod Machines
pub mod Lives
