pub mod Meaning
pub mod Fields
pub mod Kinds
pub mod Groups
pub mod Records
pub mod Inside
pub mod Same
pub mod Laws
