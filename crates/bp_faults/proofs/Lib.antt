pub mod Lists
pub mod Phases
pub mod Gathered
pub mod Refusals
pub mod Paths
