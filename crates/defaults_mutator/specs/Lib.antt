pub mod Asked
pub mod Idle
pub mod Inside
pub mod Merged
