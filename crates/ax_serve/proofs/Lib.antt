pub mod ByteOrder
pub mod KeyParts
pub mod Turned
pub mod Places
