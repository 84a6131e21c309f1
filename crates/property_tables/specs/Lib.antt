pub mod Tables
pub mod Meaning
pub mod Laws
pub mod Inside
