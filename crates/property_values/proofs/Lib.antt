pub mod Joined
pub mod Sources
pub mod Levels
pub mod Elsewhere
