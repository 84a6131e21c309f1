pub mod Kept
pub mod Sources
pub mod Paths
pub mod Variables
pub mod Head
