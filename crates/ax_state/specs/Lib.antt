pub mod Decls
pub mod Fits
pub mod Held
pub mod KeyCells
