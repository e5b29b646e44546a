pub mod Keeps
pub mod Tasks
pub mod Turns
pub mod Trail
pub mod Beside
pub mod Runs
