pub mod Each
pub mod Ids
pub mod Indices
