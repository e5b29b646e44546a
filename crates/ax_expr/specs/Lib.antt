pub mod Shown
pub mod Levels
pub mod Scopes
pub mod Reading
pub mod Balance
pub mod Spelling
pub mod Grammar
