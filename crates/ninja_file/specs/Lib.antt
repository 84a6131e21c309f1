pub mod Meaning
pub mod Names
pub mod Escapes
pub mod Inside
