pub mod Buffer
pub mod Chains
