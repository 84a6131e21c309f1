pub mod Meaning
pub mod Heads
pub mod Values
pub mod Book
pub mod Laws
pub mod Inside
