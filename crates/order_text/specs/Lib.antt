pub mod Texts
pub mod Lines
pub mod Inside
pub mod Laws
