pub mod Meaning
pub mod Cuts
pub mod Shown
pub mod Inside
