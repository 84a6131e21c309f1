pub mod Payloads
pub mod Splitting
pub mod Limits
pub mod Splits
pub mod Steps
pub mod Laws
pub mod Inside
