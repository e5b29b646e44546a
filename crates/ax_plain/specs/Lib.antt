pub mod Agenda
pub mod Handler
pub mod Plain
pub mod Snaps
