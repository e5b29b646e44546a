pub mod Words
pub mod Options
pub mod Command
pub mod Sample
