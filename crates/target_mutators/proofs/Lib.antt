pub mod Differ
pub mod Appended
mod Idle
