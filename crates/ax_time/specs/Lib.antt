pub mod Timers
pub mod Held
pub mod Epochs
pub mod EpochRuns
