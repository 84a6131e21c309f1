pub mod Patterns
pub mod Items
pub mod Known
pub mod Listed
pub mod Expansion
pub mod Walked
pub mod Answers
pub mod Laws
