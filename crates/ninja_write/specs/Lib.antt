pub mod Meaning
pub mod Escaped
pub mod Laws
pub mod Inside
