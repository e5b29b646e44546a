pub mod Rule
pub mod Plays
pub mod Seats
pub mod Trail
pub mod Words
pub mod Runs
