pub mod Snaps
pub mod Places
pub mod Added
