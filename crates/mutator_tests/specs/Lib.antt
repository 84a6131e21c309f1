pub mod Kinds
pub mod Transitions
