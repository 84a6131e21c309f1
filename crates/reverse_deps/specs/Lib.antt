pub mod Applied
pub mod Inside
pub mod Laws
pub mod Linked
pub mod Resolved
