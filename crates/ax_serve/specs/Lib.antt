pub mod CellKeys
